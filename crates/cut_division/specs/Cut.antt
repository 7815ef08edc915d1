-- What a cut division hands back: "cut" is division rounded down (01, Steps and cuts), and with the quotient come what
-- was cut off and the divisor (02, W7).
use Rattle.std.specs.Prelude.{◌≡◌, cond, ℕ, ◌+◌, ◌*◌, ◌/◌, ◌%◌, ◌<◌, ltb}
use Rattle.cut_division.specs.declared.Quotient.{Quotient}

-- the dividend a, cut by the divisor b
abbrev pub quotient_of : ℕ → ℕ → Quotient
quotient_of a b = record { whole = a / b; cut_off = a % b; divisor = b }

-- 02, W7: "Quotient times divisor plus what was cut off is the dividend, always."
pub record Divides (dividend : ℕ) (q : Quotient) : Type 0 where
  pub back : q.whole * q.divisor + q.cut_off ≡ dividend
  pub less : q.cut_off < q.divisor

-- a whole number where nothing was divided: the divisor is 0
abbrev pub undivided : ℕ → Quotient
undivided n = record { whole = n; cut_off = 0; divisor = 0 }

-- its quotient, for formulas: `amount * share cut_by 10000`
infixl 70 ◌cut_by◌
abbrev pub ◌cut_by◌ : ℕ → ℕ → ℕ
a cut_by b = (quotient_of a b).whole

-- the smaller of the two: a, at most b
abbrev pub least : ℕ → ℕ → ℕ
least a b = cond (ltb b a) b a
