-- The code looks at 3 to 7, then at the label: where it is that of the herd being read at 10 and 11, else at 8 and 9.
-- That gives the first that applies of 3 to 11 as they are listed, since 8 and 9 are of another label and 10 and 11 of
-- the herd's own. Assumes nothing.
use Rattle.std.specs.Prelude.{Err, Ok}
use Prim.Native.Nat.{ℕ}
use mathlib.Core.Path.{◌≡◌, refl, sym, ap, ◌∙◌, subst}
use mathlib.Core.Bool.{Bool, true, false, true≢false, not, ◌&&◌}
use mathlib.Core.List.{List, [], ◌∷◌}
use lib.Dec.{leb}
use Rattle.base.specs.Pick.{pick}
use Rattle.base.specs.First.{Test, ◌when◌, first}
use Rattle.grammar.specs.Reading.{Parts}
use Rattle.inputs.specs.declared.Kind.{Kind}
use Rattle.inputs.specs.Inputs.{same_kind}
use Rattle.farm.specs.declared.Label.{Label}
use Rattle.farm.specs.declared.Given.{Given}
use Rattle.farm.specs.declared.Herd.{Herd}
use Rattle.farm.specs.declared.Refusal.{Refusal}
use Rattle.farm.specs.declared.Refusal.TheVariants.{EarlierLabel, NoRoomForHerd, OtherKind, GivenAlready}
use Rattle.farm.specs.Labels.{label_ok}
use Rattle.farm.specs.Herds.{no_herd}
use Rattle.farm.proofs.LabelTexts.{no-label}
use Rattle.herd_tests.specs.Tests.{earlier_label}
use Rattle.checks.specs.Checks.{herds_of}
use Rattle.progress.specs.declared.Effect.{Effect}
use Rattle.progress.specs.declared.Effect.TheVariants.{Adds, Begins, Wrong}
use Rattle.records.specs.Entries.{label_in, kind_in, slot_in, given_in, record_read, entry_of, RecordRead}
use Rattle.progress.specs.Herds.{with_input, new_herd, has_input, after, adding_to, effect_by, effect_of}
use Rattle.records.proofs.RecordReads.{faults, decided, read_first, read-gives, input-good}
use Rattle.reader.specs.declared.FileAnswer.{FileAnswer}
use Rattle.reader.specs.Files.{Progress, refused, closed, is_current, record_tests, taken}

-- ---- the effect says what the tests give, and what is read then

-- the tests of a record of another label
abbrev pub new_tests : ℕ → ℕ → Progress → Label → List (Test FileAnswer)
new_tests most n p l = refused n EarlierLabel when earlier_label (herds_of p.farm) l
    ∷ refused n NoRoomForHerd when leb most (closed p).farm.count ∷ []

-- the herd h, whose first record is the n-th, is the one being read
abbrev pub beginning : ℕ → Progress → Herd → Progress
beginning n p h = record { farm = (closed p).farm; herd = h; first = n; lacking = (closed p).lacking }

-- as far as p, with this herd being read
abbrev pub with_current : Progress → Herd → Progress
with_current p h = record { farm = p.farm; herd = h; first = p.first; lacking = p.lacking }

pub data EffectSays (most n : ℕ) (p : Progress) (x : Parts) : Effect → Herd → Type 0 where
  wrong : {refusal : Refusal} {h : Herd} → ((z : FileAnswer) → first (record_tests most n p x) z ≡ refused n refusal)
      → EffectSays most n p x (Wrong refusal) h
  adds : {h : Herd} → (p.herd ≡ no_herd → ⊥) → ((z : FileAnswer) → first (record_tests most n p x) z ≡ z)
      → taken n p x ≡ with_current p h → EffectSays most n p x Adds h
  begins : {h : Herd} → ((z : FileAnswer) → first (record_tests most n p x) z ≡ first (new_tests most n p h.label) z)
      → taken n p x ≡ beginning n p h → EffectSays most n p x Begins h

module _ (most n : ℕ) (p : Progress) (x : Parts) where
  abbrev k : Kind
  k = kind_in x

  abbrev i : ℕ
  i = slot_in x

  abbrev g : Given
  g = given_in x

  -- 8 to 11, where the record's label is the herd's own or not
  abbrev behind : Bool → List (Test FileAnswer)
  behind own =
      refused n EarlierLabel when (not own && earlier_label (herds_of p.farm) (label_in x))
      ∷ refused n NoRoomForHerd when (not own && leb most (closed p).farm.count)
      ∷ refused n OtherKind when (own && not (same_kind p.herd.kind k))
      ∷ refused n GivenAlready when (own && has_input p.herd i)
      ∷ []

  -- how far the file is read then
  abbrev took : Bool → Progress
  took own = pick own (with_current p (with_input p.herd i g)) (beginning n p (new_herd (label_in x) k i g))

  -- the herd's own label: 10 and 11
  own_effect : (p.herd ≡ no_herd → ⊥) → (same given : Bool)
      → ((z : FileAnswer) → first (record_tests most n p x) z
      ≡ pick (not same) (refused n OtherKind) (pick given (refused n GivenAlready) z))
      → taken n p x ≡ took true
      → let t = pick (not same) (after (Wrong OtherKind) p.herd)
      (pick given (after (Wrong GivenAlready) p.herd) (after Adds (with_input p.herd i g))) in
      EffectSays most n p x t.effect t.herd
  own_effect some false given l t = EffectSays.wrong l
  own_effect some true true l t = EffectSays.wrong l
  own_effect some true false l t = EffectSays.adds some l t

  -- 3 to 7 do not apply
  gives_effect : label_ok (label_in x) ≡ true → (own : Bool) → is_current p x ≡ own
      → ((z : FileAnswer) → first (record_tests most n p x) z ≡ first (behind own) z) → taken n p x ≡ took own
      → let t = pick own (adding_to p.herd k i g) (after Begins (new_herd (label_in x) k i g)) in
      EffectSays most n p x t.effect t.herd
  unfolding adding_to new_herd with_input
  gives_effect good true e l t =
      own_effect (λ q. true≢false (sym (rw q at e) ∙ no-label (label_in x) good)) (same_kind p.herd.kind k)
      (has_input p.herd i) l t
  gives_effect good false e l t = EffectSays.begins l t

  read-lines : {t : RecordRead} → record_read x ≡ t → (z : FileAnswer)
      → first (record_tests most n p x) z ≡ decided (refused n) (first (behind (is_current p x)) z) t
  unfolding record_read record_tests
  read-lines e z = read_first k i g (refused n) (behind (is_current p x)) z (faults x)
      ∙ ap (decided (refused n) (first (behind (is_current p x)) z)) e

  read_effect : (t : RecordRead) → record_read x ≡ t
      → EffectSays most n p x (effect_by p.herd (label_in x) t).effect (effect_by p.herd (label_in x) t).herd
  unfolding record_read taken
  read_effect (Err refusal) e = EffectSays.wrong (read-lines e)
  read_effect (Ok (m, j, v)) e =
      subst (λ (t : RecordRead). EffectSays most n p x (effect_by p.herd (label_in x) t).effect
      (effect_by p.herd (label_in x) t).herd) (read-gives k i g (faults x) e)
      (gives_effect (input-good x e) (is_current p x) refl (read-lines e) refl)

  pub effect_says : let t = effect_of p.herd (entry_of x) in EffectSays most n p x t.effect t.herd
  unfolding effect_of entry_of
  effect_says = read_effect (record_read x) refl

-- ---- another label: 8 and 9

module _ (most n : ℕ) (p : Progress) (l : Label) (z : FileAnswer) where
  pub labelled-again : earlier_label (herds_of p.farm) l ≡ true
      → first (new_tests most n p l) z ≡ refused n EarlierLabel
  labelled-again e = rw e

  module _ (new : earlier_label (herds_of p.farm) l ≡ false) where
    pub farm-full : leb most (closed p).farm.count ≡ true → first (new_tests most n p l) z ≡ refused n NoRoomForHerd
    farm-full e = rw (new, e)

    pub begins_another : leb most (closed p).farm.count ≡ false → first (new_tests most n p l) z ≡ z
    begins_another e = rw (new, e)
