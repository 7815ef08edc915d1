-- 02, W7: "Two advisers added the yard and pasture fractions by hand and were one gram off." The exact share of the
-- yard, and of the pasture, is the figure and what was cut off over the divisor; what remains of the N is the housing's
-- (`kept`, crate `model`). Assumes nothing.
use Prim.Native.Nat.{ℕ, ◌+◌, ◌*◌, ◌/◌, ◌%◌, ◌<◌}
use mathlib.Core.Path.{◌≡◌, ap}
use native.Mathlib.Omega.{arith}
use lib.IntN.{ℤ, pos}
use Rattle.cut_division.specs.Frac as F
use Rattle.cut_division.specs.Frac.{Frac, per, Same, ◌⊕◌}
use Rattle.cut_division.proofs.Quotients.{divides}
use Rattle.amounts.specs.Units.{tenths, year, day}
use Rattle.amounts.specs.Arithmetic.{cutting}
use Rattle.amounts.specs.Portion.{portion}
use Rattle.kinds.specs.declared.Cattle.{Cattle}
use Rattle.kinds.specs.declared.Inputs.TheVariants as kinds
use Rattle.yard.specs.Yard.{yard_time}
use Rattle.pasture.specs.Pasture.{outdoor_grazing_time}
use Rattle.outputs.specs.Grams.{figure}
use Rattle.herd.specs.Herd.{figures_of}
use Rattle.cuts.specs.Cuts.{cut_off}
use Rattle.cuts.specs.Herd.{cuts_of}
use Rattle.nearness_theorems.specs.Exact.{exact, exact_of, exact_at, exact_figure}

-- a figure in grams, and so many shares of so many more
abbrev pub and_over : ℤ → ℕ → ℕ → Frac
and_over g c d = record { num = g; den = 1 } ⊕ per c d

-- an exact portion of whole grams is the cut one and what was cut off
exact-portion : (a shares of : ℕ) → 0 < of
    → Same (portion exact (F.whole a) shares of) (and_over (pos (portion cutting a shares of)) (a * shares % of) of)
exact-portion a shares of h =
    let e : a * shares / of * of + a * shares % of ≡ a * shares = (divides (a * shares) of h).back in
    record {
      left_above = omega arith;
      right_above = omega arith;
      crosswise = ap pos (omega (arith, ap (λ (x : ℕ). x * of) e));
    }

module _ (c : Cattle) where
  pub yard-exactly : let i = kinds.Cattle c in
      Same (exact_figure "n_into_yard" i)
      (and_over (figure "n_into_yard" (figures_of i)) (cut_off "n_into_yard" (cuts_of i)) 3650)
  unfolding exact_at exact_of figures_of cuts_of
  yard-exactly = exact-portion (c.animals * c.inp_n_excretion) (yard_time c.outdoor) (tenths * year) (omega arith)

  pub pasture-exactly : let i = kinds.Cattle c in
      Same (exact_figure "n_into_grazing" i)
      (and_over (figure "n_into_grazing" (figures_of i)) (cut_off "n_into_grazing" (cuts_of i)) 876000)
  unfolding exact_at exact_of figures_of cuts_of
  pasture-exactly =
      exact-portion (c.animals * c.inp_n_excretion) (outdoor_grazing_time c.outdoor) (day * (tenths * year))
      (omega arith)
