-- Demands 2 and 3 of a farm that began empty or came from an accepted file and changed only by steps, after every
-- sequence of them: the stored totals are those that the call `farm_totals` gives of the array, and lie within what is
-- promised of their exact values. And 16 never comes up. Assumes nothing.
use Rattle.std.specs.Prelude.{Err}
use Prim.Native.Nat.{ℕ, ◌*◌, ◌≤◌}
use mathlib.Core.Path.{◌≡◌, sym, ap, ◌∙◌}
use mathlib.Core.List.{List, map}
use native.Mathlib.Omega.{arith}
use lib.ListN.{length, take, length-take, length-map}
use lib.Seq.{length-take-le}
use Rattle.base.specs.Each.{Each, none, more}
use Rattle.base.proofs.Clash.{clash}
use Rattle.base.proofs.Each.{each_map}
use Rattle.cut_division.specs.Frac.{Within}
use Rattle.cut_division.proofs.Near.{within_weaken}
use Rattle.farm.specs.declared.Herd.{Herd}
use Rattle.farm.specs.Limits.{herds_most}
use Rattle.farm.specs.Answers.{Accepted}
use Rattle.checks.specs.Checks.{check_herd, herds_of}
use Rattle.checks.proofs.Accepts.{farm-each}
use Rattle.lent.specs.Laid.{farm_in}
use Rattle.lent.proofs.Loaded.{loaded_herds}
use Rattle.typed_inputs.specs.Typed.{typed_of}
use Rattle.typed_inputs.proofs.Sound.{typed_sound}
use Rattle.outputs.specs.declared.Figures.{Figures}
use Rattle.outputs.specs.Grams.{grams_at, GramsTo, totals_of}
use Rattle.outputs.proofs.Adding.{widen}
use Rattle.kilograms.proofs.Small.{most_addends, totals-small}
use Rattle.herd.proofs.Bounds.{most, figures-to}
use Rattle.model.specs.Answers.{herd_figures, answer_totals, farm_answer}
use Rattle.nearness_theorems.specs.Promised.{promised_of_total, promised_by_herd}
use Rattle.nearness_theorems.specs.Exact.{exact_of_total}
use Rattle.nearness_theorems.proofs.Farm.{within-totals, by-herd-most}
use Rattle.farm_calls.specs.Totals.{totals_in}
use Rattle.farm_calls.proofs.Refusals.{accepted-within}
use Rattle.books.specs.declared.Book.{Book}
use Rattle.books.specs.declared.Step.{Step}
use Rattle.books.specs.declared.StepRefusal.{StepRefusal}
use Rattle.books.specs.declared.StepRefusal.TheVariants.{TotalTooLarge}
use Rattle.books.specs.Rules.{total_most}
use Rattle.books.specs.Answers.{decided_in}
use Rattle.step_theorems.specs.Refusals.{AppliesToStep, Fault, told_by, AppliesTo, to_farm, to_step}
use Rattle.step_theorems.specs.Tallies.{afresh, Tallies, Reached}
use Rattle.step_theorems.proofs.Refusals.{step-refused}
use Rattle.step_theorems.proofs.Keeping.{reached_tallies}

-- ---- of a book that tallies

figures-small : {l : List Herd} → Each (λ h. check_herd h ≡ Accepted) l
    → Each (λ (f : Figures). GramsTo most f.grams) (map herd_figures l)
figures-small none = none
figures-small (more {a = h} p ps) = more (figures-to (typed_of h) (typed_sound h p)) (figures-small ps)

module _ {array : List Herd} {book : Book} (t : Tallies array book) where
  within : (book.count ≤ length array) × (book.count ≤ herds_most)
  within = accepted-within array book.count t.accepted

  same : herds_of (farm_in array book.count) ≡ take book.count array
  same = loaded_herds array book.count within.0 within.1

  each-accepted : Each (λ h. check_herd h ≡ Accepted) (take book.count array)
  each-accepted = rw same at (farm-each (farm_in array book.count) t.accepted)

  tallies_2 : totals_in array book.count ≡ answer_totals Accepted book.totals
  unfolding totals_in farm_answer
  tallies_2 =
      rw t.accepted (ap (λ (l : List Herd). answer_totals Accepted (totals_of (map herd_figures l))) same
      ∙ ap (answer_totals Accepted) (sym t.totals))

  tallies_3_by-herd : (n : ℕ)
      → Within (promised_by_herd (map typed_of (take book.count array)) n) (grams_at book.totals.grams n)
      (exact_of_total (map typed_of (take book.count array)) n)
  tallies_3_by-herd n =
      rw t.totals (within-totals typed_of (take book.count array) (each_map typed_sound each-accepted) n)

  tallies_3 : (n : ℕ)
      → Within (promised_of_total n * book.count) (grams_at book.totals.grams n)
      (exact_of_total (map typed_of (take book.count array)) n)
  tallies_3 n =
      rw (length-take-le book.count array within.0) at
      (within_weaken (by-herd-most typed_of (take book.count array) n) (tallies_3_by-herd n))

  -- 512 herds do not come to 16's bound
  pub tallies_small : GramsTo total_most book.totals.grams
  tallies_small =
      let l = map herd_figures (take book.count array) in
      rw t.totals
      (widen (most_addends * (length l * most)) total_most (totals-small l most (figures-small each-accepted))
      (omega (
        arith,
        length-map (take book.count array) herd_figures,
        length-take book.count array,
        within.1,
      )))

  none_16 : {step : Step} {h : Herd} {x : StepRefusal} → AppliesToStep array book step h x → x ≡ TotalTooLarge → ⊥
  none_16 (AppliesToStep.too_large n m) q = omega (arith, tallies_small.most n)
  none_16 (AppliesToStep.bad_label _) q = clash cc
  none_16 (AppliesToStep.not_present _ _) q = clash cc
  none_16 (AppliesToStep.present _ _) q = clash cc
  none_16 (AppliesToStep.full _ _) q = clash cc
  none_16 (AppliesToStep.input_missing _ _ _) q = clash cc
  none_16 (AppliesToStep.bad_value _ _ _) q = clash cc

  tallies_never_16 : (step : Step) (h : Herd) → decided_in array book step h ≡ Err TotalTooLarge → ⊥
  tallies_never_16 step h e =
      let f = (step-refused array book step h TotalTooLarge).0 e in
      go f.told f.is_first.applies
    where
      go : {n : ℕ} {x : Fault} → told_by x ≡ TotalTooLarge → AppliesTo array book step h n x → ⊥
      go q (to_farm a) = clash cc
      go q (to_step a) = none_16 a q

-- ---- of a farm that is reached

module _ {array : List Herd} {book : Book} (x : Reached array book) where
  -- demand 2: the stored totals are those worked out afresh, and so those that the call gives of the array
  pub demand_2_stepped : book.totals ≡ afresh array book.count
  demand_2_stepped = (reached_tallies x).totals

  pub demand_2_stepped_call : totals_in array book.count ≡ answer_totals Accepted book.totals
  demand_2_stepped_call = tallies_2 (reached_tallies x)

  -- demand 3: each stored total lies within what is promised of the herds
  pub demand_3_stepped-by-herd : (n : ℕ)
      → Within (promised_by_herd (map typed_of (take book.count array)) n) (grams_at book.totals.grams n)
      (exact_of_total (map typed_of (take book.count array)) n)
  demand_3_stepped-by-herd n = tallies_3_by-herd (reached_tallies x) n

  pub demand_3_stepped : (n : ℕ)
      → Within (promised_of_total n * book.count) (grams_at book.totals.grams n)
      (exact_of_total (map typed_of (take book.count array)) n)
  demand_3_stepped n = tallies_3 (reached_tallies x) n

  pub never_16 : (step : Step) (h : Herd) → decided_in array book step h ≡ Err TotalTooLarge → ⊥
  never_16 step h e = tallies_never_16 (reached_tallies x) step h e
