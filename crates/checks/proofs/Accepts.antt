-- The checks of a record accept exactly what specs/Accepts.antt describes, and refuse by 01's numbers for a record,
-- with record 0. Assumes nothing.
use Prim.Native.Nat.{◌≤◌}
use mathlib.Core.Path.{◌≡◌, refl}
use mathlib.Core.Bool.{Bool, true, false, not}
use mathlib.Core.List.{List, [], ◌∷◌, ◌++◌}
use borrow.Author.Tests.{ltb-false, le-ltb, not-false}
use Rattle.base.specs.Pick.{pick}
use Rattle.base.specs.First.{Test, ◌when◌, first}
use Rattle.base.proofs.Clash.{clash}
use Rattle.base.specs.Each.{Each, none, more}
use Rattle.base.proofs.Each.{each_of, each_map}
use Rattle.base.specs.Refused.{refuse}
use Rattle.inputs.specs.Inputs.{Row, rows_of}
use Rattle.farm.specs.Limits.{herds_most}
use Rattle.farm.specs.declared.Label.{Label}
use Rattle.farm.specs.declared.Slot.{Slot}
use Rattle.farm.specs.declared.Herd.{Herd}
use Rattle.farm.specs.declared.Farm.{Farm}
use Rattle.farm.specs.declared.Refusal.TheVariants.{BadLabel}
use Rattle.farm.specs.Labels.{label_ok, same_label}
use Rattle.farm.specs.Herds.{is_missing}
use Rattle.farm.specs.Refusals.{Says, accepts, says, HerdSays, FarmSays}
use Rattle.farm.specs.Answers.{Accepted, Checked}
use Rattle.fits.specs.Fits.{fits, unfit_one, unfit}
use Rattle.herd_tests.specs.Tests.{lacks_one, lacks, has_label}
use Rattle.checks.specs.Checks.{input_tests, herd_tests, herds_tests, check_herd, herds_of, farm_tests, check_farm}
use Rattle.checks.specs.Accepts.{Passes, GoodHerd, Distinct, GoodFarm}
use Rattle.checks.proofs.Tests.{neither}
use Rattle.checks.proofs.Tests.{Refusing, refusing, Quiet, quiet-passes, accepted-quiet}
use Rattle.checks.proofs.HerdSteps.{herd-refusing}

-- ---- tests that fail

negated : (a : Bool) → a ≡ true → not a ≡ false
negated a e = rw e

-- ---- a herd's inputs

passing : (rows : List Row) (slots : List Slot) → lacks_one rows slots ≡ false → unfit_one rows slots ≡ false
    → Passes rows slots
passing [] slots l u = Passes.none
passing (row ∷ rows) [] l u = clash cc
passing (row ∷ rows) (s ∷ slots) l u =
    let m = neither (is_missing s.given) (lacks_one rows slots) l in
    let f = neither (not (fits row.form s.given)) (unfit_one rows slots) u in
    Passes.next m.0 (not-false (fits row.form s.given) f.0) (passing rows slots m.1 f.1)

none-lacks : {rows : List Row} {slots : List Slot} → Passes rows slots → lacks_one rows slots ≡ false
none-lacks Passes.none = refl
none-lacks (Passes.next m f p) = rw m (none-lacks p)

none-unfit : {rows : List Row} {slots : List Slot} → Passes rows slots → unfit_one rows slots ≡ false
none-unfit Passes.none = refl
none-unfit (Passes.next m f p) = rw f (none-unfit p)

-- ---- a herd, after those that stand before it

new_and_good : (before : List Label) (h : Herd) → Quiet (herd_tests before h)
    → (has_label before h.label ≡ false) × GoodHerd h
unfolding lacks unfit
new_and_good before h (more bad (more known (more lacking (more unfitting none)))) = (
  known,
  record {
    label = not-false (label_ok h.label) bad;
    inputs =
        passing (rows_of h.kind) h.slots lacking unfitting;
  },
)

quiet-herd : (before : List Label) (h : Herd) → has_label before h.label ≡ false → GoodHerd h
    → Quiet (herd_tests before h)
unfolding lacks unfit
quiet-herd before h new g =
    more (negated (label_ok h.label) g.label)
    (more new (more (none-lacks g.inputs) (more (none-unfit g.inputs) none)))

pub accepted-herd : (h : Herd) → check_herd h ≡ Accepted → GoodHerd h
unfolding check_herd
accepted-herd h e = (new_and_good [] h (accepted-quiet (herd-refusing [] h) e)).1

pub good-herd : (h : Herd) → GoodHerd h → check_herd h ≡ Accepted
unfolding check_herd
good-herd h g = quiet-passes (quiet-herd [] h refl g) Accepted

pub passes : (h : Herd) → check_herd h ≡ Accepted → Passes (rows_of h.kind) h.slots
passes h e = (accepted-herd h e).inputs

-- ---- a farm's herds

module _ {A : Type 0} {P : A → Type 0} where
  each-front : (a b : List A) → Each P (a ++ b) → Each P a
  each-front [] b e = none
  each-front (x ∷ a) b (more p e) = more p (each-front a b e)

  each_back : (a b : List A) → Each P (a ++ b) → Each P b
  each_back [] b e = e
  each_back (x ∷ a) b (more p e) = each_back a b e

  each_append : {a b : List A} → Each P a → Each P b → Each P (a ++ b)
  each_append none e = e
  each_append (more p d) e = more p (each_append d e)

  each_both : {Q R : A → Type 0} {l : List A} → ((a : A) → P a → Q a → R a) → Each P l → Each Q l → Each R l
  each_both f none none = none
  each_both f (more p ps) (more q qs) = more (f _ p q) (each_both f ps qs)

-- a label is none of those before and not the last one
new_split : (before : List Label) (x l : Label) → has_label (before ++ (x ∷ [])) l ≡ false
    → (has_label before l ≡ false) × (same_label x l ≡ false)
new_split [] x l e = (refl, (neither (same_label x l) false e).0)
new_split (y ∷ before) x l e =
    let s = neither (same_label y l) (has_label (before ++ (x ∷ [])) l) e in
    let r = new_split before x l s.1 in
    (rw s.0 r.0, r.1)

new_join : (before : List Label) (x l : Label) → has_label before l ≡ false → same_label x l ≡ false
    → has_label (before ++ (x ∷ [])) l ≡ false
new_join [] x l e d = rw d
new_join (y ∷ before) x l e d = let s = neither (same_label y l) (has_label before l) e in
    rw s.0 (new_join before x l s.1 d)

record Right (before : List Label) (hs : List Herd) : Type 0 where
  pub new : Each (λ h. has_label before h.label ≡ false) hs
  pub herds : Each GoodHerd hs
  pub labels : Distinct hs

right : (before : List Label) (hs : List Herd) → Quiet (herds_tests before hs) → Right before hs
right before [] q = record { new = none; herds = none; labels = Distinct.none }
right before (h ∷ hs) q =
    let here = new_and_good before h (each-front (herd_tests before h) (herds_tests (before ++ (h.label ∷ [])) hs) q) in
    let rest = right (before ++ (h.label ∷ [])) hs
    (each_back (herd_tests before h) (herds_tests (before ++ (h.label ∷ [])) hs) q) in
    record {
      new = more here.0 (each_map (λ x e. (new_split before h.label x.label e).0) rest.new);
      herds = more here.1 rest.herds;
      labels = Distinct.next (each_map (λ x e. (new_split before h.label x.label e).1) rest.new) rest.labels;
    }

quiet-herds : (before : List Label) (hs : List Herd) → Each (λ h. has_label before h.label ≡ false) hs
    → Each GoodHerd hs → Distinct hs → Quiet (herds_tests before hs)
quiet-herds before [] new herds labels = none
quiet-herds before (h ∷ hs) (more n new) (more g herds) (Distinct.next d labels) =
    each_append (quiet-herd before h n g)
    (quiet-herds (before ++ (h.label ∷ [])) hs (each_both (λ x. new_join before h.label x.label) new d) herds
    labels)

herds-refusing : (before : List Label) (hs : List Herd) → Each Refusing (herds_tests before hs)
herds-refusing before [] = none
herds-refusing before (h ∷ hs) = each_append (herd-refusing before h) (herds-refusing (before ++ (h.label ∷ [])) hs)

all_new : (hs : List Herd) → Each (λ h. has_label [] h.label ≡ false) hs
all_new hs = each_of (λ h. refl) hs

pub accepted-farm : (f : Farm) → check_farm f ≡ Accepted → GoodFarm f
unfolding check_farm
accepted-farm f e = go (accepted-quiet (more refusing (herds-refusing [] (herds_of f))) e)
  where
    go : Quiet (farm_tests f) → GoodFarm f
    go (more full q) = let r = right [] (herds_of f) q in
        record { room = ltb-false herds_most f.count full; herds = r.herds; labels = r.labels }

pub good-farm : (f : Farm) → GoodFarm f → check_farm f ≡ Accepted
unfolding check_farm
good-farm f g =
    quiet-passes {ls = farm_tests f}
    (more (le-ltb herds_most f.count g.room)
    (quiet-herds [] (herds_of f) (all_new (herds_of f)) g.herds g.labels)) Accepted

pub farm-count : (f : Farm) → check_farm f ≡ Accepted → f.count ≤ herds_most
farm-count f e = (accepted-farm f e).room

pub farm-each : (f : Farm) → check_farm f ≡ Accepted → Each (λ h. check_herd h ≡ Accepted) (herds_of f)
farm-each f e = each_map good-herd (accepted-farm f e).herds

-- ---- what is said of a record

module _ (P : Says → Type 0) (accepted : P accepts) where
  first_says : {ls : List (Test Checked)} → Each (λ l. P (says l.answer)) ls → P (says (first ls Accepted))
  first_says none = accepted
  first_says (more {a} {l} p ps) = go a.holds p (first_says ps)
    where
      go : (t : Bool) → P (says a.answer) → P (says (first l Accepted))
          → P (says (pick t a.answer (first l Accepted)))
      go true here rest = here
      go false here rest = rest

pub herd-says : (h : Herd) → HerdSays (says (check_herd h))
unfolding check_herd
herd-says h = first_says HerdSays HerdSays.fine {ls = refuse BadLabel 0 when not (label_ok h.label) ∷ input_tests h}
    (more HerdSays.label (more HerdSays.missing (more HerdSays.value none)))

herds_say : (before : List Label) (hs : List Herd) → Each (λ l. FarmSays (says l.answer)) (herds_tests before hs)
herds_say before [] = none
herds_say before (h ∷ hs) =
    each_append {a = herd_tests before h}
    (more (FarmSays.herd HerdSays.label)
    (more FarmSays.earlier (more (FarmSays.herd HerdSays.missing) (more (FarmSays.herd HerdSays.value) none))))
    (herds_say (before ++ (h.label ∷ [])) hs)

pub farm-says : (f : Farm) → FarmSays (says (check_farm f))
unfolding check_farm
farm-says f = first_says FarmSays (FarmSays.herd HerdSays.fine) {ls = farm_tests f}
    (more FarmSays.room (herds_say [] (herds_of f)))
