-- A number below zero, as the machine forms it from its size. Assumes nothing.
use Prim.Native.Nat.{ℕ, zero, suc, ◌<◌, ◌^◌}
use native.Mathlib.Omega.{arith}
use lib.IntN.{pos, negsuc, ◌-ℤ◌, +ℤ_idl}
use mir.Syntax.{w32, w64}
use mir.Val.{SFits, to_z}
use mir.Facts.{to_z_pos, sfits_lit}

minus_short : (v : ℕ) → v < 2 ^ 31 → SFits w32 (pos 0 -ℤ pos v)
minus_short zero h = sfits_lit tt
minus_short (suc v) h = rw (+ℤ_idl (negsuc v)) (record { sfits = omega arith })

minus_long : (v : ℕ) → v < 2 ^ 63 → SFits w64 (pos 0 -ℤ pos v)
minus_long zero h = sfits_lit tt
minus_long (suc v) h = rw (+ℤ_idl (negsuc v)) (record { sfits = omega arith })

pub short-below : (v : ℕ) → v < 2 ^ 31 → SFits w32 (pos 0 -ℤ to_z w32 v)
short-below v h = rw (to_z_pos w32 h) (minus_short v h)

pub long-below : (v : ℕ) → v < 2 ^ 63 → SFits w64 (pos 0 -ℤ to_z w64 v)
long-below v h = rw (to_z_pos w64 h) (minus_long v h)
