-- A whole number of up to 64 bits, as a text holds it. To be believed: `wide_most` and `Reads`; the rest says how the
-- code goes.
use Rattle.std.specs.Prelude.{ℕ, ◌≤◌, List, None, Some, Option}
use Rattle.numbers.specs.Numbers.{IsNumber}
use Rattle.digits.specs.Digits.{Number}

-- what a text says as such a number, if it says one
abbrev pub WideNumber : Type 0
WideNumber = Option ℕ

abbrev pub wide_most : ℕ
wide_most = 18446744073709551615

-- what a text is read as: the value of the whole number of 01's form that it is, where that is within 64 bits
pub data Reads (s : List ℕ) : WideNumber → Type 0 where
  value : {v : ℕ} → IsNumber s 0 v → v ≤ wide_most → Reads s (Some v)
  unreadable : ((v : ℕ) → IsNumber s 0 v → v ≤ wide_most → ⊥) → Reads s None

-- ---- how the code goes; no reader has to believe it

-- what crate `numbers` reads, as such a number
abbrev pub widened : Number → WideNumber
widened (Some v) = Some v
widened None = None
