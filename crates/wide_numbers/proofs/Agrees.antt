-- What is read is the value of a whole number of 01's form within 64 bits, or there is none; and it is one. Assumes
-- nothing.
use Rattle.std.specs.Prelude.{None, Some}
use Prim.Native.Nat.{ℕ}
use mathlib.Core.List.{List}
use mathlib.Core.Path.{◌≡◌, refl, ap}
use Rattle.numbers.specs.Reading.{number_of}
use Rattle.numbers.proofs.Agrees.{number_iff, unreadable_iff, one_value}
use Rattle.wide_numbers.specs.Wide.{wide_most, Reads, value, unreadable, widened, WideNumber}
use Rattle.digits.specs.Digits.{Number}

pub reads_as : (s : List ℕ) (r : WideNumber) → r ≡ widened (number_of s 0 wide_most) → Reads s r
reads_as s r e = rw e (go (number_of s 0 wide_most) refl)
  where
    go : (n : Number) → number_of s 0 wide_most ≡ n → Reads s (widened n)
    go (Some v) q = let (is, small) = (number_iff s 0 wide_most v).0 q in value is small
    go None q = unreadable ((unreadable_iff s 0 wide_most).0 q)

pub one_number : {s : List ℕ} {a b : WideNumber} → Reads s a → Reads s b → a ≡ b
one_number (value x h) (value y k) = ap Some (one_value x y)
one_number (value {v} x h) (unreadable none) = absurd (none v x h)
one_number (unreadable none) (value {v} y k) = absurd (none v y k)
one_number (unreadable none) (unreadable other) = refl
