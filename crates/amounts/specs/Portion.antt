-- A portion of an amount: so many shares of it, of so many that make the whole, with one cut (01, Steps and cuts). Some
-- cuts are not of this form: c_grazing cuts a sum, and nh3_nhousing and tan_air_scrubber have factors that were cut
-- themselves.
use Rattle.std.specs.Prelude.{ℕ}
use Rattle.amounts.specs.Arithmetic.{Arithmetic}

module _ (A : Arithmetic) where
  open A use {Amount, whole, ◌⊗◌, ◌over◌}

  infixl 7 ◌⊗◌
  infixl 5 ◌over◌
  abbrev pub portion : Amount → ℕ → ℕ → Amount
  portion amount shares of = amount ⊗ whole shares over of
