-- 02, W5: "Reading it back gives the same farm (same kinds, labels and inputs), and reading any accepted file and
-- writing it gives a file with the same farm, the same for all that read alike." Over all kinds of herd, within any
-- limits, for herds that a file said and for herds that none did. Assumes nothing.
use Prim.Native.Nat.{ℕ, ◌≤◌}
use mathlib.Core.Path.{◌≡◌, refl, sym, ap, subst, ◌∙◌}
use mathlib.Core.Bool.{false}
use mathlib.Core.List.{List, [], ◌∷◌, map}
use native.Mathlib.Nat.{min-le_left}
use native.Mathlib.Omega.{arith}
use lib.ListN.{length, length-take}
use Rattle.base.specs.Each.{Each, none, more}
use Rattle.base.proofs.Each.{each_map}
use Rattle.farm.specs.declared.Herd.{Herd}
use Rattle.farm.specs.declared.Farm.{Farm}
use Rattle.farm.specs.Limits.{herds_most}
use Rattle.farm.specs.Labels.{same_label, label_of, text}
use Rattle.farm.specs.Answers.{Accepted}
use Rattle.limits.specs.declared.Limits.{Limits}
use Rattle.herd_tests.specs.Tests.{labels_of}
use Rattle.checks.specs.Checks.{herds_of, check_farm}
use Rattle.checks.specs.Accepts.{GoodHerd, Distinct}
use Rattle.checks.proofs.Accepts.{accepted-farm}
use Rattle.reader.specs.declared.FileAnswer.{FileAnswer}
use Rattle.reader.specs.Files.{accepted, read_of}
use Rattle.first_refusal.specs.Records.{Record}
use Rattle.rules_theorems.specs.Lists.{Apart, Pairs}
use Rattle.rules_theorems.specs.Rules.{HerdOf, StandTogether, farm_of, KeepsRules}
use Rattle.rules_theorems.proofs.Farms.{herds-of}
use Rattle.rules_theorems.proofs.Accepts.{accepts-within}
use Rattle.rules_theorems.proofs.Passing.{passes-within}
use Rattle.file_text.specs.Files.{file_of}
use Rattle.file_text.specs.Records.{records_of}
use Rattle.file_text.proofs.Records.{written_grammar}
use Rattle.written_theorems.specs.Alike.{AlikeHerds, said, HasRoom}
use Rattle.written_theorems.proofs.Labels.{two-labels}
use Rattle.written_theorems.proofs.Herds.{herd-written, alike-said, herd-said, herd-roomy, herds-alike}

-- ---- what is written keeps the rules

count_same : (hs : List Herd) → length (map said hs) ≡ length hs
count_same [] = refl
count_same (h ∷ hs) = rw (count_same hs)

stand : {hs : List Herd} → Each HasRoom hs → Each GoodHerd hs → StandTogether HerdOf (records_of hs) (map said hs)
stand none none = StandTogether.none
stand (more {a = h} x xs) (more g gs) = StandTogether.more (herd-written h x g) (stand xs gs)

-- no later herd has the label
apart_from : {h : Herd} → HasRoom h → GoodHerd h → {hs : List Herd} → Each HasRoom hs → Each GoodHerd hs
    → Each (λ later. same_label h.label later.label ≡ false) hs
    → Each (λ b. label_of (text h.label) ≡ b → ⊥) (labels_of (map said hs))
apart_from x g none none none = none
apart_from {h} x g (more {a = later} y ys) (more k ks) (more d ds) =
    more (two-labels h.label later.label x.label y.label g.label k.label d) (apart_from x g ys ks ds)

labels_apart : {hs : List Herd} → Each HasRoom hs → Each GoodHerd hs → Distinct hs → Apart (labels_of (map said hs))
labels_apart none none Distinct.none = Apart.none
labels_apart (more x xs) (more g gs) (Distinct.next d ds) = Apart.next (apart_from x g xs gs d) (labels_apart xs gs ds)

-- What is written of herds that the checks accept keeps the file rules, and says these herds and nothing else.
pub herds-keep : (limits : Limits) {hs : List Herd} → Each HasRoom hs → Each GoodHerd hs → Distinct hs
    → length hs ≤ limits.herds → length (file_of hs) ≤ limits.bytes
    → KeepsRules limits (file_of hs) (farm_of (map said hs))
herds-keep limits {hs} xs gs ds most short =
    record {
      short = short;
      records = records_of hs;
      reads = written_grammar (each_map (λ h g. g.label) gs);
      says =
          record {
            herds = map said hs;
            stand = stand xs gs;
            most = omega (arith, most, count_same hs);
            apart = labels_apart xs gs ds;
            is = refl;
          };
    }

-- ---- herds that are alike

all_alike : {hs : List Herd} → Each HasRoom hs → Each GoodHerd hs → AlikeHerds hs (map said hs)
all_alike none none = Pairs.none
all_alike (more {a = h} x xs) (more g gs) = Pairs.more (alike-said h x g) (all_alike xs gs)

-- Herds that are alike are written alike, byte for byte.
pub alike-written : {gs hs : List Herd} → AlikeHerds gs hs → Each GoodHerd gs → Each GoodHerd hs
    → file_of gs ≡ file_of hs
unfolding file_of
alike-written Pairs.none none none = refl
alike-written (Pairs.more a more-alike) (more x xs) (more y ys) =
    let first = herds-alike a x y in
    let rest = alike-written more-alike xs ys in
    cc

-- ---- a farm's record

module _ (limits : Limits) (f : Farm) (e : check_farm f ≡ Accepted) (xs : Each HasRoom (herds_of f))
    (most : f.count ≤ limits.herds) (short : length (file_of (herds_of f)) ≤ limits.bytes) where
  pub written_keeps : KeepsRules limits (file_of (herds_of f)) (farm_of (map said (herds_of f)))
  written_keeps =
      let g = accepted-farm f e in
      let n : length (herds_of f) ≤ limits.herds =
      omega (arith, most, length-take f.count f.herds, min-le_left f.count (length f.herds)) in
      herds-keep limits xs g.herds g.labels n short

  -- it is read as the farm that says the same and nothing else
  pub written_read : limits.herds ≤ herds_most
      → read_of limits (file_of (herds_of f)) ≡ accepted (farm_of (map said (herds_of f)))
  written_read fit =
      (accepts-within limits fit (file_of (herds_of f)) (farm_of (map said (herds_of f)))).1 written_keeps

-- and that farm is alike
pub same-farm : (f : Farm) → check_farm f ≡ Accepted → Each HasRoom (herds_of f)
    → AlikeHerds (herds_of f) (herds_of (farm_of (map said (herds_of f))))
same-farm f e xs = rw (herds-of (map said (herds_of f))) (all_alike xs (accepted-farm f e).herds)

pub farms_written : (f g : Farm) → check_farm f ≡ Accepted → check_farm g ≡ Accepted
    → AlikeHerds (herds_of f) (herds_of g) → file_of (herds_of f) ≡ file_of (herds_of g)
farms_written f g e d a = alike-written a (accepted-farm f e).herds (accepted-farm g d).herds

-- ---- a file that is read

all_said : {rs : List Record} {hs : List Herd} → StandTogether HerdOf rs hs → map said hs ≡ hs
all_said StandTogether.none = refl
all_said (StandTogether.more x s) = let a = herd-said x in let b = all_said s in cc

all-roomy : {rs : List Record} {hs : List Herd} → StandTogether HerdOf rs hs → Each HasRoom hs
all-roomy StandTogether.none = none
all-roomy (StandTogether.more x s) = more (herd-roomy x) (all-roomy s)

module _ (limits : Limits) {s : List ℕ} {f : Farm} (k : KeepsRules limits s f) where
  its_herds : herds_of f ≡ k.says.herds
  its_herds = ap (λ (x : Farm). herds_of x) k.says.is ∙ herds-of k.says.herds

  -- a farm that a file says has nothing else in its record
  pub read-is-said : farm_of (map said (herds_of f)) ≡ f
  read-is-said =
      ap (λ (hs : List Herd). farm_of (map said hs)) its_herds ∙ ap farm_of (all_said k.says.stand)
      ∙ sym k.says.is

  read-roomy : Each HasRoom (herds_of f)
  read-roomy = subst (Each HasRoom) (sym its_herds) (all-roomy k.says.stand)

  pub its_count : f.count ≤ limits.herds
  its_count = rw k.says.is k.says.most

module _ (limits : Limits) (fit : limits.herds ≤ herds_most) where
  module _ (s : List ℕ) (f : Farm) (e : read_of limits s ≡ accepted f) where
    k : KeepsRules limits s f
    k = (accepts-within limits fit s f).0 e

    -- Reading an accepted file and writing it gives a file with the same farm.
    pub read-written : length (file_of (herds_of f)) ≤ limits.bytes → read_of limits (file_of (herds_of f)) ≡ accepted f
    read-written short =
        written_read limits f (passes-within limits fit s f e) (read-roomy limits k) (its_count limits k) short fit
        ∙ ap accepted (read-is-said limits k)

    -- Reading that and writing again changes nothing.
    pub written-again : length (file_of (herds_of f)) ≤ limits.bytes → (g : Farm)
        → read_of limits (file_of (herds_of f)) ≡ accepted g → file_of (herds_of g) ≡ file_of (herds_of f)
    written-again short g d =
        let same = ap (λ (a : FileAnswer). a.farm) (sym d ∙ read-written short) in
        ap (λ (x : Farm). file_of (herds_of x)) same

    -- Files that read alike are written alike, byte for byte.
    pub read_alike : (t : List ℕ) (g : Farm) → read_of limits t ≡ accepted g → AlikeHerds (herds_of f) (herds_of g)
        → file_of (herds_of f) ≡ file_of (herds_of g)
    read_alike t g d a = farms_written f g (passes-within limits fit s f e) (passes-within limits fit t g d) a
