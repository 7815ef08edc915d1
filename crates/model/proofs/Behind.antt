-- The slots behind the inputs of a herd's kind say nothing: records that differ in them alone get one answer. Assumes
-- nothing.
use Rattle.std.specs.Prelude.{Err}
use Prim.Native.Nat.{ℕ, ◌<◌}
use mathlib.Core.Path.{◌≡◌, refl, sym, ap, ◌∙◌}
use mathlib.Core.Bool.{Bool, not, ◌||◌}
use mathlib.Core.List.{List, [], ◌∷◌}
use native.Mathlib.Omega.{arith}
use lib.ListN.{length, get_or, take}
use lib.Seq.{get_or-take}
use Rattle.inputs.specs.declared.Kind.{Kind}
use Rattle.inputs.specs.declared.Kind.TheVariants as kinds
use Rattle.inputs.specs.Inputs.{Row, rows_of, count_of}
use Rattle.farm.specs.declared.Slot.{Slot}
use Rattle.farm.specs.declared.Herd.{Herd}
use Rattle.farm.specs.Herds.{is_missing, no_slot}
use Rattle.farm.specs.Answers.{Accepted, Checked}
use Rattle.fits.specs.Fits.{fits, unfit_one, unfit}
use Rattle.herd_tests.specs.Tests.{lacks_one, lacks}
use Rattle.checks.specs.Checks.{check_herd}
use Rattle.kinds.specs.declared.CattleKind.{CattleKind}
use Rattle.kinds.specs.declared.CattleKind.TheVariants.{OtherCattle, DairyCow}
use Rattle.kinds.specs.declared.Inputs.TheVariants as typed
use Rattle.typed_inputs.specs.Typed.{given_at, roughage_of, outdoor_of, cattle_of, pigs_of, typed_as, typed_of}
use Rattle.typed_inputs.proofs.Fields.{in_slots_lem}
use Rattle.model.specs.Answers.{answer_herd, herd_answer}
use Rattle.model.specs.Truths.{SameInFront}

-- ---- the checks look at no more slots than there are inputs

lacks-front : (rows : List Row) (slots : List Slot) → lacks_one rows (take (length rows) slots) ≡ lacks_one rows slots
lacks-front [] slots = refl
lacks-front (row ∷ rows) [] = refl
lacks-front (row ∷ rows) (s ∷ slots) = ap (λ (b : Bool). is_missing s.given || b) (lacks-front rows slots)

unfit-front : (rows : List Row) (slots : List Slot) → unfit_one rows (take (length rows) slots) ≡ unfit_one rows slots
unfit-front [] slots = refl
unfit-front (row ∷ rows) [] = refl
unfit-front (row ∷ rows) (s ∷ slots) =
    ap (λ (b : Bool). not (fits row.form s.given) || b) (unfit-front rows slots)

module _ (k : Kind) (h g : Herd) (front : take (count_of k) g.slots ≡ take (count_of k) h.slots) where
  same-lacks : lacks_one (rows_of k) g.slots ≡ lacks_one (rows_of k) h.slots
  same-lacks =
      sym (lacks-front (rows_of k) g.slots) ∙ ap (lacks_one (rows_of k)) front ∙ lacks-front (rows_of k) h.slots

  same-unfit : unfit_one (rows_of k) g.slots ≡ unfit_one (rows_of k) h.slots
  same-unfit =
      sym (unfit-front (rows_of k) g.slots) ∙ ap (unfit_one (rows_of k)) front ∙ unfit-front (rows_of k) h.slots

  -- ---- and neither do the typed inputs

  same-given : (i : ℕ) → i < count_of k → given_at g i ≡ given_at h i
  same-given i b =
      ap (λ (s : Slot). s.given)
      (sym (get_or-take (count_of k) g.slots i no_slot b)
      ∙ ap (λ (l : List Slot). get_or l i no_slot) front
      ∙ get_or-take (count_of k) h.slots i no_slot b)

same-cattle : (h g : Herd) → ((i : ℕ) → i < 9 → given_at g i ≡ given_at h i) → (k : CattleKind)
    → cattle_of k g ≡ cattle_of k h
unfolding outdoor_of
same-cattle h g s k =
    rw (
      in_slots_lem g k,
      in_slots_lem h k,
      s 0 (omega arith),
      s 1 (omega arith),
      s 2 (omega arith),
      s 3 (omega arith),
      s 4 (omega arith),
      s 5 (omega arith),
      s 6 (omega arith),
      s 7 (omega arith),
      s 8 (omega arith),
    )

same_typed : (k : Kind) (h g : Herd) → take (count_of k) g.slots ≡ take (count_of k) h.slots
    → typed_as k g ≡ typed_as k h
unfolding roughage_of outdoor_of cattle_of pigs_of
same_typed kinds.Roughage h g front =
    let s = same-given kinds.Roughage h g front in
    rw (
      s 0 (omega arith),
      s 1 (omega arith),
      s 2 (omega arith),
      s 3 (omega arith),
      s 4 (omega arith),
      s 5 (omega arith),
      s 6 (omega arith),
    )
same_typed kinds.Cattle h g front = ap typed.Cattle (same-cattle h g (same-given kinds.Cattle h g front) OtherCattle)
same_typed kinds.DairyCow h g front =
    ap typed.Cattle (same-cattle h g (same-given kinds.DairyCow h g front) DairyCow)
same_typed kinds.Pigs h g front =
    let s = same-given kinds.Pigs h g front in
    rw (
      s 0 (omega arith),
      s 1 (omega arith),
      s 2 (omega arith),
      s 3 (omega arith),
      s 4 (omega arith),
      s 5 (omega arith),
      s 6 (omega arith),
      s 7 (omega arith),
    )

-- ---- the answer

module _ (h g : Herd) (same : SameInFront h g) where
  same_check : check_herd g ≡ check_herd h
  unfolding check_herd lacks unfit
  same_check =
      rw (same.label, same.kind, same-lacks h.kind h g same.front, same-unfit h.kind h g same.front)

  same_inputs : typed_of g ≡ typed_of h
  unfolding typed_of
  same_inputs = ap (λ (k : Kind). typed_as k g) same.kind ∙ same_typed h.kind h g same.front

  answers : (c : Checked) → answer_herd c g ≡ answer_herd c h
  answers Accepted = rw same_inputs
  answers (Err refused) = refl

  pub slots-behind : herd_answer g ≡ herd_answer h
  unfolding herd_answer
  slots-behind = ap (λ (c : Checked). answer_herd c g) same_check ∙ answers (check_herd h)
