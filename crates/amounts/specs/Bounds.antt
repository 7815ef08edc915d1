-- What the contracts of the formulas' code ask and promise of sizes, so that products fit 64 bits and nothing is taken
-- from less. No figure of 001 is defined here.
use Rattle.std.specs.Prelude.{◌≡◌, ℕ, ◌+◌, ◌*◌, ◌≤◌, ◌<◌, ◌^◌}
use Rattle.cut_division.specs.declared.Quotient.{Quotient}
use Rattle.cut_division.specs.Cut.{quotient_of}
use Rattle.amounts.specs.declared.Parts.{Parts}
use Rattle.amounts.specs.Units.{billionths}
use Rattle.amounts.specs.Arithmetic.{cutting}
use Rattle.amounts.specs.Portion.{portion}

-- the most N in a year, in grams: what the largest herd excretes
abbrev pub most_n : ℕ
most_n = 2000000000

-- what a herd excretes, or a portion of it: a bounded amount of N, and the TAN in it
pub record WithinMostN (n tan : ℕ) : Type 0 where
  pub n_most : n ≤ most_n
  pub tan_most : tan ≤ n

-- what is asked of a portion on whole grams, so that the product fits
pub record FitsPortion (amount shares of : ℕ) : Type 0 where
  pub amount_most : amount < 2 ^ 32
  pub of_most : of ≤ billionths
  pub above : 0 < of
  pub within : shares ≤ of

-- and what comes of it: the product cut once, whose quotient is the portion, and no more than the amount
pub record PortionOf (amount shares of : ℕ) (q : Quotient) : Type 0 where
  pub cut : q ≡ quotient_of (amount * shares) of
  pub is : q.whole ≡ portion cutting amount shares of
  pub most : q.whole ≤ amount

-- what is asked where the shares may be twice the whole (02, W3), and what comes of it: no more than twice the amount
pub record FitsPortionTwice (amount shares of : ℕ) : Type 0 where
  pub amount_most : amount < 2 ^ 32
  pub of_most : of ≤ billionths
  pub above : 0 < of
  pub within : shares ≤ of + of

pub record PortionToTwice (amount shares of : ℕ) (q : Quotient) : Type 0 where
  pub cut : q ≡ quotient_of (amount * shares) of
  pub most : q.whole ≤ amount + amount

-- the same portion of the N and of the TAN: the portion of the TAN is in that of the N
pub record PortionsOf (n tan shares of : ℕ) (r : Parts) : Type 0 where
  pub for_n : PortionOf n shares of r.n
  pub for_tan : PortionOf tan shares of r.tan
  pub modest : WithinMostN r.n.whole r.tan.whole

-- a number as the code hands it on: what it is, and that it is at most m
pub record UpTo (m is-it r : ℕ) : Type 0 where
  pub is : r ≡ is-it
  pub most : r ≤ m
