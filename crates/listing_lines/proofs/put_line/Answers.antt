-- `listing_lines::put_line` meets its contract, by its calls, one after the other. A callee sees a signed argument as
-- what is read back of its bits. Assumes nothing.
use mathlib.Core.Path.{ap}
use native.Mathlib.Omega.{arith}
use lib.ListN.{length}
use mir.Facts.{to_z-of_z}
use Rattle.base.proofs.Writes.{wrote_as, wrote-append}
use Rattle.kilogram_text.specs.Kilograms.{kilograms_of}
use Rattle.listing_lines.proofs.LineByLine.{line-is, together-length}
use Rattle.listing_lines.proofs.put_line.Goals as goal

-- the line's length, part by part
pub put_text-a-requires : goal.put_text-a-requires
put_text-a-requires c =
    (omega arith, omega (arith, together-length c.args.owner.now c.args.middle.now c.args.grams))

pub put_text-b-requires : goal.put_text-b-requires
put_text-b-requires c =
    (omega arith, omega (arith, together-length c.args.owner.now c.args.middle.now c.args.grams))

pub put_kilograms-c-requires : goal.put_kilograms-c-requires
put_kilograms-c-requires c =
    omega (
      arith,
      together-length c.args.owner.now c.args.middle.now c.args.grams,
      ap (λ z. length (kilograms_of z)) (to_z-of_z c.ranges.grams),
    )

pub put-requires : goal.put-requires
put-requires c =
    omega (
      arith,
      together-length c.args.owner.now c.args.middle.now c.args.grams,
      ap (λ z. length (kilograms_of z)) (to_z-of_z c.ranges.grams),
    )

pub returns : goal.returns
returns c =
    let k = wrote_as (ap kilograms_of (to_z-of_z c.ranges.grams)) c.put_kilograms-c.ensures in
    wrote_as (line-is _ _ c.args.grams)
    (wrote-append (wrote-append (wrote-append c.put_text-a.ensures c.put_text-b.ensures) k) c.put.ensures)
