-- `value_texts::put_signed` meets its contract, by its calls, one after the other.
-- Assumes nothing.
use mathlib.Core.Path.{◌≡◌, ap, ◌∙◌}
use native.Mathlib.Omega.{arith}
use lib.ListN.{length}
use lib.IntN.{nat_abs}
use mir.Facts.{to_z-of_z}
use Rattle.base.proofs.Writes.{wrote_as, wrote-append}
use Rattle.decimal.specs.Writing.{whole_of}
use Rattle.kilogram_text.specs.Kilograms.{sign}
use Rattle.value_texts.proofs.Puts.{signed_is, signed-length}
use Rattle.value_texts.proofs.put_signed.Goals as goal

pub put_sign-a-requires : goal.put_sign-a-requires
put_sign-a-requires c = rw (to_z-of_z c.ranges.v) (omega (arith, signed-length c.args.v))

-- what `magnitude` gave, of v itself: a callee sees a signed argument as what is read back of its bits
pub put_whole-requires : goal.put_whole-requires
put_whole-requires c =
    let m-is : c.magnitude.result ≡ nat_abs c.args.v = c.magnitude.ensures ∙ ap nat_abs (to_z-of_z c.ranges.v) in
    omega (
      arith,
      signed-length c.args.v,
      ap (λ z. length (sign z)) (to_z-of_z c.ranges.v),
      ap (λ m. length (whole_of m)) m-is,
    )

pub returns : goal.returns
returns c =
    let m-is : c.magnitude.result ≡ nat_abs c.args.v = c.magnitude.ensures ∙ ap nat_abs (to_z-of_z c.ranges.v) in
    wrote_as (signed_is c.args.v c.magnitude.result m-is)
    (wrote-append (wrote_as (ap sign (to_z-of_z c.ranges.v)) c.put_sign-a.ensures) c.put_whole.ensures)
