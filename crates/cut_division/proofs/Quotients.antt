-- 02, W7: quotient times divisor plus what was cut off is the dividend, and less than a divisor was cut off. Assumes
-- nothing.
use Prim.Native.Nat.{ℕ, ◌+◌, ◌/◌, ◌%◌, ◌<◌}
use mathlib.Core.Path.{◌∙◌, ap}
use native.Mathlib.Nat.{div-add-mod, mod-lt, mul_comm}
use Rattle.cut_division.specs.Cut.{quotient_of, Divides}

pub divides : (a b : ℕ) → 0 < b → Divides a (quotient_of a b)
divides a b h =
    record { back = ap (λ (x : ℕ). x + a % b) (mul_comm (a / b) b) ∙ div-add-mod a b; less = mod-lt a h }
