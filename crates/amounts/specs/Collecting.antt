-- 02, W7: the arithmetic that keeps every division. An amount is its grams, cut as `cutting` cuts them, and all the
-- divisions that were made on the way to it. So the formulas themselves tell which cuts a figure has, and no list of
-- names does. To be believed.
use Rattle.std.specs.Prelude.{ℕ, ◌+◌, ◌-◌, ◌*◌, List, [], ◌∷◌, ◌++◌, ℤ, pos, ◌-ℤ◌}
use Rattle.cut_division.specs.Cut.{◌cut_by◌, least}
use Rattle.tables.specs.Growth.{k_of}
use Rattle.amounts.specs.Arithmetic.{Arithmetic}

-- what was divided, and by what
pub record Division : Type 0 where
  pub dividend : ℕ
  pub divisor : ℕ

-- an amount, and the divisions on the way to it
pub record Collected : Type 0 where
  pub grams : ℕ
  pub divisions : List Division

-- what is left of an amount, which may be below zero, likewise
pub record CollectedLeft : Type 0 where
  pub left : ℤ
  pub divisions : List Division

abbrev pub collecting : Arithmetic
collecting =
    record {
      Amount = Collected;
      whole = λ n. record { grams = n; divisions = [] };
      ◌⊕◌ = λ a b. record { grams = a.grams + b.grams; divisions = a.divisions ++ b.divisions };
      ◌⊖◌ = λ a b. record { grams = a.grams - b.grams; divisions = a.divisions ++ b.divisions };
      ◌⊗◌ = λ a b. record { grams = a.grams * b.grams; divisions = a.divisions ++ b.divisions };
      ◌over◌ =
          λ a d. record {
            grams = a.grams cut_by d;
            divisions = record { dividend = a.grams; divisor = d } ∷ a.divisions;
          };
      ◌at_most◌ = λ a n. record { grams = least a.grams n; divisions = a.divisions };
      k = λ t. record { grams = k_of t; divisions = [] };
      Balance = CollectedLeft;
      balance = λ a. record { left = pos a.grams; divisions = a.divisions };
      ◌less◌ = λ b a. record { left = b.left -ℤ pos a.grams; divisions = b.divisions ++ a.divisions };
    }

-- a division is one of a list
infix 50 ◌is_one_of◌
pub data ◌is_one_of◌ (d : Division) : List Division → Type 0 where
  first : {l : List Division} → d is_one_of (d ∷ l)
  later : {e : Division} {l : List Division} → d is_one_of l → d is_one_of (e ∷ l)
