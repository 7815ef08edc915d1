-- `kilogram_text::put_sign` meets its contract, by the sign.
-- Assumes nothing.
use mathlib.Core.Path.{sym, ap}
use native.Mathlib.Omega.{arith}
use lib.ListN.{length}
use Rattle.base.proofs.Writes.{wrote_as, wrote_nothing}
use Rattle.kilogram_text.proofs.Signs.{sign_below, sign-none}
use Rattle.kilogram_text.proofs.put_sign.Goals as goal

pub put_byte-requires : goal.put_byte-requires
put_byte-requires c = omega (arith, ap length (sign_below c.args.g c.ranges.g c.if-g-lt0.true))

pub returns-then-g-lt0 : goal.returns-then-g-lt0
returns-then-g-lt0 c = wrote_as (sym (sign_below c.args.g c.ranges.g c.if-g-lt0.true)) c.put_byte.ensures

pub returns-else-g-lt0 : goal.returns-else-g-lt0
returns-else-g-lt0 c = wrote_as (sym (sign-none c.args.g c.ranges.g c.if-g-lt0.false)) (wrote_nothing _ _)
