-- `test_kilograms::tell_bits` is safe: what equals itself is a number. Assumes nothing.
use mathlib.Core.Path.{◌≡◌, sym}
use mathlib.Core.Bool.{true, not, true≢false}
use lib.Dec.{T}
use lib.Ieee.{Float, nan, inf, fin, eq, is_nan}
use borrow.Author.Rules.{rules}
use Rattle.test_kilograms.proofs.tell_bits.Goals as goal

a-number : (x : Float) → eq x x ≡ true → T (not (is_nan x))
unfolding eq is_nan
a-number nan e = absurd (true≢false (sym e))
a-number (inf s) e = tt
a-number (fin s m d) e = tt

pub float_to_bits-x : goal.float_to_bits-x
float_to_bits-x g c = a-number c.args.x c.if-x.true
