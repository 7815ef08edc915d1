-- The order of numbers that may be below zero, of sums: what is no smaller one by one is no smaller together.
-- Assumes nothing.
use mathlib.Core.List.{List}
use Prim.Native.Nat.{ℕ, ◌+◌, ◌≤◌}
use native.Mathlib.Omega.{arith}
use lib.Dec.{le→leb, leb→le}
use lib.IntN.{ℤ, pos, negsuc, ◌+ℤ◌}
use lib.Signed.{◌≤ℤ◌, le_z_yes}
use Rattle.base.specs.Each.{Each, none, more}
use Rattle.cut_division.specs.Total.{add_up}
use Rattle.cut_division.proofs.Signed.{up, dn, add_diff}

-- ---- by the differences that they are

to_whole : (a b : ℤ) → a ≤ℤ b → up a + dn b ≤ up b + dn a
to_whole (pos a) (pos b) h = omega (arith, leb→le a b h.le)
to_whole (pos a) (negsuc b) h = absurd h.le
to_whole (negsuc a) (pos b) h = omega arith
to_whole (negsuc a) (negsuc b) h = omega (arith, leb→le b a h.le)

of-whole : (a b : ℤ) → up a + dn b ≤ up b + dn a → a ≤ℤ b
of-whole (pos a) (pos b) h = le_z_yes (le→leb a b (omega arith))
of-whole (pos a) (negsuc b) h = absurd (omega arith)
of-whole (negsuc a) (pos b) h = le_z_yes tt
of-whole (negsuc a) (negsuc b) h = le_z_yes (le→leb b a (omega arith))

pub whole_le : {a b : ℕ} → a ≤ b → pos a ≤ℤ pos b
whole_le {a} {b} h = le_z_yes (le→leb a b h)

-- ---- sums

pub plus_le : (a b c d : ℤ) → a ≤ℤ b → c ≤ℤ d → (a +ℤ c) ≤ℤ (b +ℤ d)
plus_le a b c d h k =
    let first = to_whole a b h in
    let second = to_whole c d k in
    of-whole (a +ℤ c) (b +ℤ d) (omega (arith, (add_diff a c).eq, (add_diff b d).eq))

-- of a list, each from a start
module _ {A : Type 0} (f g : A → ℤ) where
  pub sum-le : (s t : ℤ) {l : List A} → s ≤ℤ t → Each (λ a. f a ≤ℤ g a) l → add_up ◌+ℤ◌ f s l ≤ℤ add_up ◌+ℤ◌ g t l
  sum-le s t h none = h
  sum-le s t h (more {a} k ks) = sum-le (s +ℤ f a) (t +ℤ g a) (plus_le s t (f a) (g a) h k) ks
