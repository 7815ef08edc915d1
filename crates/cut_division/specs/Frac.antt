-- Exact figures (01, Steps and cuts): "a fraction is a whole number over a whole number above 0, never cut, and
-- "within" is compared after multiplying out".
use Rattle.std.specs.Prelude.{◌≡◌, ℕ, ◌*◌, ◌≤◌, ◌<◌, ℤ, pos, negsuc, ◌+ℤ◌, ◌-ℤ◌, ◌*ℤ◌, nat_abs}
use Rattle.cut_division.specs.Cut.{least}

-- num / den; the numerator may be below zero
pub record Frac : Type 0 where
  pub num : ℤ
  pub den : ℕ

-- the share n / d
abbrev pub per : ℕ → ℕ → Frac
per n d = record { num = pos n; den = d }

-- n, whole
abbrev pub whole : ℕ → Frac
whole n = per n 1

-- the sum
infixl 65 ◌⊕◌
abbrev pub ◌⊕◌ : Frac → Frac → Frac
q ⊕ r = record { num = q.num *ℤ pos r.den +ℤ r.num *ℤ pos q.den; den = q.den * r.den }

-- the difference, which may be below zero
infixl 65 ◌⊖◌
abbrev pub ◌⊖◌ : Frac → Frac → Frac
q ⊖ r = record { num = q.num *ℤ pos r.den -ℤ r.num *ℤ pos q.den; den = q.den * r.den }

-- the product; `q ⊗ per n d` is the share n / d of q
infixl 70 ◌⊗◌
abbrev pub ◌⊗◌ : Frac → Frac → Frac
q ⊗ r = record { num = q.num *ℤ r.num; den = q.den * r.den }

-- a numerator, at most n
abbrev pub least_num : ℤ → ℕ → ℤ
least_num (pos p) n = pos (least p n)
least_num (negsuc p) n = negsuc p

-- q where q is at most n, else n; compared after multiplying out
infixl 60 ◌at_most◌
abbrev pub ◌at_most◌ : Frac → ℕ → Frac
q at_most n = record { num = least_num q.num (n * q.den); den = q.den }

-- x lies within e of q: the denominator is above 0, and x times it differs from the numerator by at most e times it
pub record Within (e : ℕ) (x : ℤ) (q : Frac) : Type 0 where
  pub above : 0 < q.den
  pub near : nat_abs (x *ℤ pos q.den -ℤ q.num) ≤ e * q.den

-- two fractions are one number: both denominators are above 0, and multiplied out they are equal
pub record Same (p q : Frac) : Type 0 where
  pub left_above : 0 < p.den
  pub right_above : 0 < q.den
  pub crosswise : p.num *ℤ pos q.den ≡ q.num *ℤ pos p.den
