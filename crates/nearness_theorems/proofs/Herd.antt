-- Demand 3 for a herd: each figure of each herd that passes the checks is as near its exact value as the table says,
-- and so within what is promised of it. Assumes nothing.
use Prim.Native.Nat.{ℕ}
use Prim.Native.String.{String}
use Rattle.cut_division.specs.Frac.{Within}
use Rattle.cut_division.proofs.Near.{near_within}
use Rattle.kinds.specs.declared.Inputs.{Inputs}
use Rattle.kinds.specs.declared.Inputs.TheVariants as kinds
use Rattle.kinds.specs.Sound.{Sound, roughage, cattle, pigs}
use Rattle.excretion.proofs.Modest.{roughage-grams-le, roughage-fraction-le, cattle-fraction-le}
use Rattle.outputs.specs.Names.{number}
use Rattle.outputs.specs.Grams.{grams_at, figure}
use Rattle.herd.specs.Herd.{figures_of}
use Rattle.nearness_theorems.specs.Promised.{promised_at}
use Rattle.nearness_theorems.specs.Errors.{errors_at}
use Rattle.nearness_theorems.specs.Exact.{exact_of, exact_at, exact_figure}
use Rattle.nearness_theorems.proofs.Laws.{NearBy}
use Rattle.nearness_theorems.proofs.Table.{promise_kept}
use Rattle.nearness_theorems.proofs.Excretion.{near-excreted}
use Rattle.nearness_theorems.proofs.Roughage.{near-roughage}
use Rattle.nearness_theorems.proofs.Outdoor.{near-cattle}
use Rattle.nearness_theorems.proofs.Pigs.{near-pigs}

pub near-herd : (i : Inputs) → Sound i → (n : ℕ)
    → NearBy (errors_at i n) (grams_at (figures_of i).grams n) (exact_at i n)
unfolding errors_at figures_of exact_of exact_at
near-herd (kinds.Roughage r) (roughage s) =
    near-roughage r s _ _
    (near-excreted _ _ _ s.animals (roughage-grams-le r s) (roughage-fraction-le r s))
near-herd (kinds.Cattle c) (cattle s) =
    near-cattle c s _ _ (near-excreted _ _ _ s.animals s.grams (cattle-fraction-le c s))
near-herd (kinds.Pigs p) (pigs s) = near-pigs p _ _ (near-excreted _ _ _ s.animals s.grams s.fraction)

pub within-herd : (i : Inputs) → Sound i → (n : ℕ)
    → Within (promised_at i n) (grams_at (figures_of i).grams n) (exact_at i n)
within-herd i s n =
    let k = promise_kept i n in near_within (promised_at i n) k.kept-below k.kept_above (near-herd i s n)

-- under its name
pub within-figure : (i : Inputs) → Sound i → (t : String)
    → Within (promised_at i (number t)) (figure t (figures_of i)) (exact_figure t i)
within-figure i s t = within-herd i s (number t)
