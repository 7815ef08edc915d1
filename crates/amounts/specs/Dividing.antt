-- 02, W7: the arithmetic that tells in which division an amount was cut. The formulas are written once over any
-- arithmetic, so on this one "the dividend" of a cut is what stands before the division in its formula, and nothing
-- else. To be believed.
use Rattle.std.specs.Prelude.{ℕ, ◌+◌, ◌-◌, ◌*◌, ℤ, pos, ◌-ℤ◌}
use Rattle.cut_division.specs.declared.Quotient.{Quotient}
use Rattle.cut_division.specs.Cut.{quotient_of, undivided, least}
use Rattle.tables.specs.Growth.{k_of}
use Rattle.amounts.specs.Arithmetic.{Arithmetic}

-- an amount: a whole number, or what a division gave, of a dividend by a divisor
pub data Divided : Type 0 where
  uncut : ℕ → Divided
  division : ℕ → ℕ → Divided

-- what the cut division hands back for it
abbrev pub handed : Divided → Quotient
handed (uncut n) = undivided n
handed (division a b) = quotient_of a b

abbrev pub worth : Divided → ℕ
worth d = (handed d).whole

-- what was divided; of a whole number nothing
abbrev pub dividend : Divided → ℕ
dividend (uncut n) = 0
dividend (division a b) = a

-- what is left of an amount, which may be below zero, and where nothing was taken, the amount
pub record Left : Type 0 where
  pub left : ℤ
  pub amount : Divided

abbrev pub dividing : Arithmetic
dividing =
    record {
      Amount = Divided;
      whole = uncut;
      ◌⊕◌ = λ a b. uncut (worth a + worth b);
      ◌⊖◌ = λ a b. uncut (worth a - worth b);
      ◌⊗◌ = λ a b. uncut (worth a * worth b);
      ◌over◌ = λ a d. division (worth a) d;
      ◌at_most◌ = λ a n. uncut (least (worth a) n);
      k = λ t. uncut (k_of t);
      Balance = Left;
      balance = λ a. record { left = pos (worth a); amount = a };
      ◌less◌ = λ b a. record { left = b.left -ℤ pos (worth a); amount = uncut 0 };
    }
