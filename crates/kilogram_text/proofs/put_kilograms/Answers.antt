-- `kilogram_text::put_kilograms` meets its contract, by its calls, one after the other.
-- Assumes nothing.
use mathlib.Core.Path.{◌≡◌, ap, ◌∙◌}
use native.Mathlib.Omega.{arith}
use lib.ListN.{length}
use lib.IntN.{nat_abs}
use mir.Facts.{to_z-of_z}
use Rattle.base.proofs.Writes.{wrote_as, wrote-append}
use Rattle.kilogram_text.specs.Kilograms.{sign, thousandths_of}
use Rattle.kilogram_text.proofs.Lengths.{kilograms-is, kilograms-length}
use Rattle.kilogram_text.proofs.put_kilograms.Goals as goal

pub put_sign-a-requires : goal.put_sign-a-requires
put_sign-a-requires c = rw (to_z-of_z c.ranges.g) (omega (arith, kilograms-length c.args.g))

-- what `magnitude` gave, of g itself: a callee sees a signed argument as what is read back of its bits
pub put_thousandths-requires : goal.put_thousandths-requires
put_thousandths-requires c =
    let m-is : c.magnitude.result ≡ nat_abs c.args.g = c.magnitude.ensures ∙ ap nat_abs (to_z-of_z c.ranges.g) in
    omega (
      arith,
      kilograms-length c.args.g,
      ap (λ z. length (sign z)) (to_z-of_z c.ranges.g),
      ap (λ m. length (thousandths_of m)) m-is,
    )

pub returns : goal.returns
returns c =
    let m-is : c.magnitude.result ≡ nat_abs c.args.g = c.magnitude.ensures ∙ ap nat_abs (to_z-of_z c.ranges.g) in
    wrote_as (kilograms-is c.args.g c.magnitude.result m-is)
    (wrote-append (wrote_as (ap sign (to_z-of_z c.ranges.g)) c.put_sign-a.ensures) c.put_thousandths.ensures)
