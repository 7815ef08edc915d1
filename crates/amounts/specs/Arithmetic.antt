-- The formulas of the model are written once, over an arithmetic that says what an amount is and what dividing one
-- does. Four are used: `cutting`, on whole grams with every division rounded down, which the code computes; `exact` of
-- crate `nearness_theorems`, on fractions with nothing cut off, which says what the exact value of a figure is (01,
-- Steps and cuts; demand 3); and two beside this page that tell of divisions (02, W7): `dividing`, by which one an
-- amount was made, and `collecting`, all that were made on the way to it.
use Rattle.std.specs.Prelude.{ℕ, ◌+◌, ◌-◌, ◌*◌, ℤ, pos, ◌-ℤ◌}
use Rattle.cut_division.specs.Cut.{◌cut_by◌, least}
use Rattle.tables.specs.Growth.{k_of}

pub record Arithmetic : Type 1 where
  -- an amount of N or TAN, or a factor
  pub Amount : Type 0
  pub whole : ℕ → Amount
  pub ◌⊕◌ : Amount → Amount → Amount
  -- on whole grams it stops at zero; that no figure comes to that, the balances show (`kept` and `kept_in_housing` of
  -- crate `model`)
  pub ◌⊖◌ : Amount → Amount → Amount
  pub ◌⊗◌ : Amount → Amount → Amount
  -- the only place where something may be cut off
  pub ◌over◌ : Amount → ℕ → Amount
  -- an amount, but not above a whole number
  pub ◌at_most◌ : Amount → ℕ → Amount
  -- exp(0.0403 × hours) in billionths, by tenths of an hour
  pub k : ℕ → Amount
  -- what is left of an amount, which may be below zero
  pub Balance : Type 0
  pub balance : Amount → Balance
  pub ◌less◌ : Balance → Amount → Balance

abbrev pub cutting : Arithmetic
cutting =
    record {
      Amount = ℕ;
      whole = λ n. n;
      ◌⊕◌ = ◌+◌;
      ◌⊖◌ = ◌-◌;
      ◌⊗◌ = ◌*◌;
      ◌over◌ = ◌cut_by◌;
      ◌at_most◌ = least;
      k = k_of;
      Balance = ℤ;
      balance = pos;
      ◌less◌ = λ b a. b -ℤ pos a;
    }
