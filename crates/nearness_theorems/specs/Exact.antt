-- What the exact value of a figure and of a total is: the formulas of crates `excretion` to `model`, under the names of
-- crate `outputs`, on the arithmetic below in place of `cutting`. Fractions are "never cut" and "exp taken as its
-- series terms 0 to 20" (01, Steps and cuts).
use Rattle.std.specs.Prelude.{ℕ, ◌*◌, List, [], get_or}
use Prim.Native.String.{String}
use Rattle.cut_division.specs.Frac as F
use Rattle.cut_division.specs.Frac.{Frac}
use Rattle.cut_division.specs.Total.{exact_total}
use Rattle.tables.specs.Growth.{growth_num, growth_den}
use Rattle.amounts.specs.Units.{billionths}
use Rattle.amounts.specs.Arithmetic.{Arithmetic}
use Rattle.kinds.specs.declared.Inputs.{Inputs}
use Rattle.outputs.specs.Sections.{FiguresIn}
use Rattle.outputs.specs.Names.{figures, number, addends}
use Rattle.herd.specs.Herd.{figures_in}

-- fractions, of which nothing is cut off; k is the sum of the terms, and not the table's entry
abbrev pub exact : Arithmetic
exact =
    record {
      Amount = Frac;
      whole = F.whole;
      ◌⊕◌ = F.◌⊕◌;
      ◌⊖◌ = F.◌⊖◌;
      ◌⊗◌ = F.◌⊗◌;
      ◌over◌ = λ q d. F.◌⊗◌ q (F.per 1 d);
      ◌at_most◌ = F.◌at_most◌;
      k = λ t. F.per (billionths * growth_num t) growth_den;
      Balance = Frac;
      balance = λ q. q;
      ◌less◌ = F.◌⊖◌;
    }

-- a herd's figures, exactly
unfoldable pub exact_of : Inputs → FiguresIn exact
exact_of i = figures_in exact i

-- the exact figure of a number; past the last 0
unfoldable pub exact_at : Inputs → ℕ → Frac
exact_at i n = get_or (figures exact (exact_of i)) n (F.whole 0)

-- a herd's exact figure under a name
abbrev pub exact_figure : String → Inputs → Frac
exact_figure t i = exact_at i (number t)

-- 2.1: for each addend of the total, its exact figure summed over the herds
unfoldable pub exact_of_total : List Inputs → ℕ → Frac
exact_of_total l t = exact_total (λ n. exact_total (λ i. exact_at i n) l) (get_or addends t [])
