-- A file that is read through: its records say a farm, or the first record of the first herd that lacks an input is
-- told. Assumes nothing.
use Prim.Native.Nat.{ℕ, ◌+◌, ◌<◌, ◌≤◌}
use mathlib.Core.Path.{◌≡◌, refl, sym, ap, subst, ◌∙◌}
use mathlib.Core.Bool.{true, false, not}
use mathlib.Core.List.{List, [], ◌∷◌, ◌++◌}
use native.Mathlib.Omega.{arith}
use lib.Dec.{eqb}
use lib.ListN.{length, length-append}
use borrow.Author.Tests.{ne_eqb}
use Rattle.base.specs.First.{◌when◌, first}
use Rattle.base.specs.Each.{Each, none, more}
use Rattle.base.proofs.Each.{each_map}
use Rattle.inputs.specs.declared.Kind.{Kind}
use Rattle.inputs.specs.Inputs.{count_of}
use Rattle.farm.specs.declared.Herd.{Herd}
use Rattle.farm.specs.declared.Farm.{Farm}
use Rattle.farm.specs.declared.Refusal.TheVariants.{InputMissing}
use Rattle.farm.specs.Limits.{herds_most}
use Rattle.limits.specs.declared.Limits.{Limits}
use Rattle.herd_tests.specs.Tests.{labels_of, lacks}
use Rattle.reader.specs.declared.FileAnswer.{FileAnswer}
use Rattle.reader.specs.Files.{Progress, refused, accepted, closed, finished}
use Rattle.rules_theorems.specs.Lists.{Some, here, there, Apart}
use Rattle.first_refusal.specs.Records.{Record}
use Rattle.rules_theorems.specs.Rules.{Gives, PartOf, HerdOf, StandTogether, farm_of, FarmOf}
use Rattle.rules_theorems.specs.Refusals.{NamesInput, SameLabel, Lacks}
use Rattle.rules_theorems.proofs.Lists.{each_append, each-front, each_back, meet, some_left, some_right}
use Rattle.rules_theorems.proofs.Entries.{one-kind, one-slot, reads}
use Rattle.rules_theorems.proofs.Herds.{missing_at, unfilled, part-all, part_missed}
use Rattle.rules_theorems.proofs.Farms.{closed-farm, closed-lacking, stand-last, apart-herds}
use Rattle.rules_theorems.proofs.Records.{OfHerd, of_herd, part-records, record_label, seen-herds}
use Rattle.rules_theorems.proofs.Verdicts.{Lack, nowhere, first-at, lack_last, Inv, start, going}

each-not : {A : Type 0} {P : A → Type 0} (l : List A) → (Some P l → ⊥) → Each (λ a. P a → ⊥) l
each-not [] n = none
each-not (a ∷ l) n = more (λ p. n (here p)) (each-not l (λ s. n (there s)))

-- ---- a herd that has all its inputs

has_all : {b : List Record} {h : Herd} → HerdOf b h → (rs : List Record)
    → ((P : Record → Type 0) → Each P rs → Each P b) → Each (λ r. Lacks rs r → ⊥) b
has_all {b} {h} x rs inside = each_map one (part-records x.part)
  where
    one : (r : Record) → OfHerd h r → Lacks rs r → ⊥
    one r own lk =
        let kind : h.kind ≡ lk.kind = one-kind own.names lk.names in
        let room : lk.slot < count_of h.kind = omega (arith, lk.inside, ap count_of kind) in
        let s = some_left of_it x.part.each (x.all lk.slot room) in
        let m = meet (inside _ lk.lacking) s in
        m.one m.other.0 (subst (λ (k : Kind). NamesInput m.of k lk.slot) kind m.other.1)
      where
        of_it : (r' : Record) (i : ℕ) → Gives h r' i → i ≡ lk.slot
            → SameLabel r' r × NamesInput r' h.kind lk.slot
        of_it r' i g e = (
          record_label own.good h r' (of_herd r' i g) own.is,
          subst (λ (n : ℕ). NamesInput r' h.kind n) e (reads g.says).names,
        )

pub none_lack : {a : List Record} {hs : List Herd} → StandTogether HerdOf a hs → (rs : List Record)
    → ((P : Record → Type 0) → Each P rs → Each P a) → Each (λ r. Lacks rs r → ⊥) a
none_lack StandTogether.none rs inside = none
none_lack (StandTogether.more {rs = b} {rest = rest} x s) rs inside =
    each_append (has_all x rs (λ P e. each-front b rest (inside P e)))
    (none_lack s rs (λ P e. each_back b rest (inside P e)))

stand-all : {a : List Record} {hs : List Herd} → StandTogether PartOf a hs → Each (λ h. lacks h ≡ false) hs
    → StandTogether HerdOf a hs
stand-all StandTogether.none none = StandTogether.none
stand-all (StandTogether.more p s) (more e es) = StandTogether.more (part-all p e) (stand-all s es)

-- ---- a herd that lacks one

labels-other : (h : Herd) (hs : List Herd) → Each (λ b. h.label ≡ b → ⊥) (labels_of hs)
    → Each (λ x. x.label ≡ h.label → ⊥) hs
labels-other h [] none = none
labels-other h (x ∷ hs) (more n ns) = more (λ e. n (sym e)) (labels-other h hs ns)

others-before : (hs : List Herd) (h : Herd) (hs' : List Herd) → Apart (labels_of (hs ++ (h ∷ hs')))
    → Each (λ x. x.label ≡ h.label → ⊥) hs
others-before [] h hs' d = none
others-before (x ∷ hs) h hs' (Apart.next n d) =
    more (of h (each_back hs (h ∷ hs') (labels-other x (hs ++ (h ∷ hs')) n))) (others-before hs h hs' d)
  where
    of : (h : Herd) → Each (λ y. y.label ≡ x.label → ⊥) (h ∷ hs') → x.label ≡ h.label → ⊥
    of h (more m _) e = m (sym e)

others-behind : (hs : List Herd) (h : Herd) (hs' : List Herd) → Apart (labels_of (hs ++ (h ∷ hs')))
    → Each (λ x. x.label ≡ h.label → ⊥) hs'
others-behind [] h hs' (Apart.next n d) = labels-other h hs' n
others-behind (x ∷ hs) h hs' (Apart.next n d) = others-behind hs h hs' d

module _ {h : Herd} {cs : Record} (own : OfHerd h cs) where
  -- none of the records of other herds has the label
  elsewhere : {a : List Record} {hs : List Herd} (j : ℕ) → StandTogether PartOf a hs
      → Each (λ x. x.label ≡ h.label → ⊥) hs
      → Each (λ r. SameLabel r cs → NamesInput r h.kind j → ⊥) a
  elsewhere {a} j s n = each_map (λ r f e _. f e) (each-not a no)
    where
      no : Some (λ r. SameLabel r cs) a → ⊥
      no x = let m = meet n (seen-herds own.good s x) in m.one (m.other ∙ sym own.is)

  -- none of its own gives the input of a slot that is missing
  nor_here : {b : List Record} (p : PartOf b h) (j : ℕ) → missing_at h j ≡ true
      → Each (λ r. SameLabel r cs → NamesInput r h.kind j → ⊥) b
  nor_here {b} p j e = each_map (λ r f _ names. f names) (each-not b no)
    where
      slot_of : (r : Record) (i : ℕ) → Gives h r i → NamesInput r h.kind j → i ≡ j
      slot_of r i x names = one-slot (reads x.says).names names

      no : Some (λ r. NamesInput r h.kind j) b → ⊥
      no x = let m = meet (unfilled j p.each e) (some_right slot_of p.each x) in m.one m.other

lacks-input : {a c : List Record} (b : List Record) {hs hs' : List Herd} {h : Herd} {cs : Record} → OfHerd h cs
    → StandTogether PartOf a hs → PartOf b h → StandTogether PartOf c hs'
    → Apart (labels_of (hs ++ (h ∷ hs'))) → lacks h ≡ true → Lacks (a ++ (b ++ c)) cs
lacks-input b {hs} {hs'} {h} own s p s' d e =
    let m = part_missed p e in
    record {
      kind = h.kind;
      named = own.slot;
      names = own.names;
      slot = m.slot;
      inside = m.inside;
      lacking =
          each_append (elsewhere own m.slot s (others-before hs h hs' d))
          (each_append (nor_here own p m.slot m.missing) (elsewhere own m.slot s' (others-behind hs h hs' d)));
    }

-- ---- the file is read through

pub data Ended (limits : Limits) (rs : List Record) : FileAnswer → Type 0 where
  farm : {f : Farm} → FarmOf limits rs f → Each (λ r. Lacks rs r → ⊥) rs → Ended limits rs (accepted f)
  lacking : (before : List Record) (cs : Record) (after : List Record) → rs ≡ before ++ (cs ∷ after) → Lacks rs cs
      → Each (λ r. Lacks rs r → ⊥) before
      → Ended limits rs (refused (length before + 1) InputMissing)

ended : {limits : Limits} {rs : List Record} {hs : List Herd} {k : ℕ} → StandTogether PartOf rs hs
    → Apart (labels_of hs)
    → length hs ≤ limits.herds → Lack rs hs k
    → Ended limits rs (first (refused k InputMissing when not (eqb k 0) ∷ []) (accepted (farm_of hs)))
ended {rs = rs} {hs = hs} s d room (nowhere ns) =
    let whole = stand-all s ns in
    farm (record { herds = hs; stand = whole; most = room; apart = d; is = refl }) (none_lack whole rs (λ P e. e))
ended {limits} s d room (first-at {a} {b} {c} {hs} {hs'} {h} s' ns p e s'') =
    rw (ne_eqb (length a + 1) 0 (λ z. omega arith)) (go b p.some p (part-records p))
  where
    go : (b : List Record) → 1 ≤ length b → PartOf b h → Each (OfHerd h) b
        → Ended limits (a ++ (b ++ c)) (refused (length a + 1) InputMissing)
    go [] n p q = absurd (omega arith)
    go (cs ∷ b) n p (more own _) =
        lacking a cs (b ++ c) refl (lacks-input (cs ∷ b) own s' p s'' d e)
        (none_lack (stand-all s' ns) (a ++ ((cs ∷ b) ++ c)) (λ P x. each-front a ((cs ∷ b) ++ c) x))

pub finish : {limits : Limits} → limits.herds ≤ herds_most → {rs : List Record} {p : Progress} → Inv limits rs p
    → Ended limits rs (finished p)
unfolding finished closed
finish fit start = ended StandTogether.none Apart.none (omega arith) (nowhere none)
finish fit (going {a} {b} {hs} {h} {k} s p new two room lk) =
    let roomy : length hs < herds_most = omega (arith, fit) in
    rw (closed-lacking hs h (length a) k roomy, closed-farm hs h (length a) k roomy)
    (ended (stand-last s p) (apart-herds hs h two new) (omega (arith, length-append hs (h ∷ []))) (lack_last s p lk))
