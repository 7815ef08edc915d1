-- Demand 3: for every record that a call accepts, each figure that it gives lies within what is promised of its exact
-- value, and each total within what is promised of its herds, herd by herd, and so within what is promised of it for
-- each herd; below zero too. And so for every herd and the totals of a file that is read. What is promised is a table
-- (crate `nearness_theorems`, specs/Promised): 10 grams, but for the names with a row of their own. Assumes nothing.
use Prim.Native.Nat.{ℕ, ◌*◌}
use mathlib.Core.Path.{◌≡◌, sym, ◌∙◌}
use mathlib.Core.List.{List, map}
use lib.ListN.{length}
use Rattle.base.specs.Each.{Each}
use Rattle.base.proofs.Each.{each_map}
use Rattle.cut_division.specs.Frac.{Within}
use Rattle.cut_division.proofs.Near.{within_weaken}
use Rattle.farm.specs.declared.Herd.{Herd}
use Rattle.farm.specs.declared.Farm.{Farm}
use Rattle.farm.specs.Answers.{Accepted}
use Rattle.checks.specs.Checks.{check_farm, herds_of}
use Rattle.checks.proofs.Accepts.{farm-each}
use Rattle.limits.specs.declared.Source.{Source}
use Rattle.limits.specs.Limits.{limits_of}
use Rattle.reader.specs.Files.{read_of, accepted}
use Rattle.rules_theorems.proofs.Passing.{accepted-passes}
use Rattle.kinds.specs.declared.Inputs.{Inputs}
use Rattle.typed_inputs.specs.Typed.{typed_of}
use Rattle.typed_inputs.proofs.Sound.{typed_sound}
use Rattle.outputs.specs.Grams.{grams_at}
use Rattle.model.specs.Answers.{herd_answer, farm_answer}
use Rattle.nearness_theorems.specs.Promised.{promised_at, promised_of_total, promised_by_herd}
use Rattle.nearness_theorems.specs.Exact.{exact_at, exact_of_total}
use Rattle.nearness_theorems.proofs.Herd.{within-herd}
use Rattle.nearness_theorems.proofs.Farm.{within-totals, by-herd-most}
use Rattle.contracts.proofs.RecordSteps.{herd-checked, herd_figured, farm-checked}

-- ---- a herd's record: every figure, by its number

abbrev pub FiguresWithin : Herd → Type 0
FiguresWithin h = (n : ℕ)
    → Within (promised_at (typed_of h) n) (grams_at (herd_answer h).figures.grams n) (exact_at (typed_of h) n)

pub demand_3_herd : (h : Herd) → (herd_answer h).checked ≡ Accepted → FiguresWithin h
demand_3_herd h e n =
    let p = sym (herd-checked h) ∙ e in
    rw (herd_figured h p) (within-herd (typed_of h) (typed_sound h p) n)

-- ---- a farm's record: every total, by its number

-- the typed inputs of a farm's herds, in order
abbrev pub typed_herds : Farm → List Inputs
typed_herds f = map typed_of (herds_of f)

-- herd by herd: 40 grams for a herd of pigs and 20 for one of roughage where its housing enters the total, else 10
abbrev pub TotalsWithinByHerd : Farm → Type 0
TotalsWithinByHerd f = (t : ℕ)
    → Within (promised_by_herd (typed_herds f) t) (grams_at (farm_answer f).totals.grams t)
    (exact_of_total (typed_herds f) t)

pub demand_3_by-herd : (f : Farm) → (farm_answer f).checked ≡ Accepted → TotalsWithinByHerd f
unfolding farm_answer
demand_3_by-herd f e t =
    let p : check_farm f ≡ Accepted = sym (farm-checked f) ∙ e in
    rw p (within-totals typed_of (herds_of f) (each_map typed_sound (farm-each f p)) t)

-- and so for each herd as much as for the widest
abbrev pub TotalsWithin : Farm → Type 0
TotalsWithin f = (t : ℕ)
    → Within (promised_of_total t * length (herds_of f)) (grams_at (farm_answer f).totals.grams t)
    (exact_of_total (typed_herds f) t)

pub demand_3_farm : (f : Farm) → (farm_answer f).checked ≡ Accepted → TotalsWithin f
demand_3_farm f e t = within_weaken (by-herd-most typed_of (herds_of f) t) (demand_3_by-herd f e t)

-- ---- a file: the farm that is read passes the record checks, so both hold of it

module _ (source : Source) (s : List ℕ) (f : Farm) (e : read_of (limits_of source) s ≡ accepted f) where
  pub demand_3_file-herds : Each FiguresWithin (herds_of f)
  demand_3_file-herds =
      each_map (λ h p. demand_3_herd h (herd-checked h ∙ p)) (farm-each f (accepted-passes source s f e))

  pub demand_3_file-totals : TotalsWithin f
  demand_3_file-totals = demand_3_farm f (farm-checked f ∙ accepted-passes source s f e)

  pub demand_3_file-by-herd : TotalsWithinByHerd f
  demand_3_file-by-herd = demand_3_by-herd f (farm-checked f ∙ accepted-passes source s f e)
