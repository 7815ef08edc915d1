-- How grams are written (01, The listing): as kilograms with exactly three decimals, `-` in front only below zero.
-- proofs/Written shows that these are numbers, with the values that they are written for.
use Rattle.std.specs.Prelude.{◌≡◌, List, [], ◌++◌, ℕ, ◌/◌, length, ℤ, pos, negsuc, nat_abs}
use Rattle.base.specs.Text.{bytes}
use Rattle.numbers.specs.Numbers.{Digits, Whole}
use Rattle.decimal.specs.Writing.{lowest, whole_of}

-- n thousandths, with three decimals
unfoldable pub thousandths_of : ℕ → List ℕ
thousandths_of n = whole_of (n / 1000) ++ bytes "." ++ lowest 3 n

unfoldable pub sign : ℤ → List ℕ
sign (pos n) = []
sign (negsuc n) = bytes "-"

-- grams, as kilograms
unfoldable pub kilograms_of : ℤ → List ℕ
kilograms_of g = sign g ++ thousandths_of (nat_abs g)

-- "kilograms with exactly three decimals, `-` in front only below zero", said of a text without how it is written
pub record ThreeDecimals (g : ℤ) (text : List ℕ) : Type 0 where
  pub whole : List ℕ
  pub decimals : List ℕ
  pub is_whole : Whole whole
  pub are_digits : Digits decimals
  pub three : length decimals ≡ 3
  pub is : text ≡ sign g ++ (whole ++ bytes "." ++ decimals)
