-- What 02 promises of a number of grams and its double (W13). proofs/Promised.antt shows it of every figure. To be
-- believed.
use Rattle.std.specs.Prelude.{◌≡◌, Bool, true, false, T, ℤ, pos, negsuc, nat_abs, ◌*ℤ◌, Float}
use Rattle.std.specs.Float.{fin, binary64}
use Rattle.std.specs.Float.Ieee.{round, div}
use Rattle.std.specs.Float.Ieee.Exact.{HasValue}
use Rattle.std.specs.Float.Ieee.Scale.{finite}
use Rattle.kilograms.specs.Kilograms.{double}

-- is it below zero?
abbrev pub below : ℤ → Bool
below (pos n) = false
below (negsuc n) = true

-- the double has exactly this whole number as its value, and +0 for 0
abbrev pub Exactly : ℤ → Float → Type 0
Exactly z x = HasValue x (below z) (nat_abs z) 1

pub record Promised (grams : ℤ) (kilograms : Float) : Type 0 where
  -- "turned into a double without loss"
  pub lossless : Exactly grams (double grams)
  -- "and divided by 1000 once", by the language's own division
  pub divided : kilograms ≡ div binary64 (double grams) (double (pos 1000))
  -- which gives the double that is nearest to the thousandth, at a tie the even one
  pub nearest : kilograms ≡ round binary64 (below grams) (nat_abs grams) 1000
  -- "Every figure that is a whole number of kilograms comes out exactly, below zero included"
  pub wholes : (k : ℤ) → grams ≡ pos 1000 *ℤ k → Exactly k kilograms
  -- "nothing gives negative zero"
  pub no_negative_zero : (e : ℤ) → kilograms ≡ fin true 0 e → ⊥
  -- no infinity, and a number
  pub is_finite : T (finite kilograms)
