-- `kilograms::converted` meets its contract: a turn stores the kilograms of the next grams. Assumes nothing.
use borrow.Author.Rules.{rules}
use mathlib.Core.Path.{◌≡◌, sym, ap, ◌∙◌}
use lib.Ieee.{Float, binary64, of_bits}
use lib.IntN.{pos}
use lib.ListN.{length, replicate, length-replicate}
use Rattle.outputs.proofs.Mapped.{none_stored, one-stored, all-stored}
use Rattle.kilograms.specs.Kilograms.{in_kilograms}
use Rattle.kilograms.proofs.Converting.{read, small}
use Rattle.kilograms.proofs.converted.Goals as goal

-- what the array has before the loop
abbrev nothing : Float
nothing = of_bits binary64 0

pub loop-i-init : goal.loop-i-init
loop-i-init g c =
    let long : length (replicate g.row.N nothing) ≡ length c.args.grams.now =
    length-replicate g.row.N nothing ∙ sym c.told-grams in
    none_stored in_kilograms c.args.grams.now (replicate g.row.N nothing) long

pub in_kilograms-requires : goal.in_kilograms-requires
in_kilograms-requires g c = small _ _ c.requires

pub loop-i-preserved : goal.loop-i-preserved
loop-i-preserved g c =
    one-stored in_kilograms c.args.grams.now (pos 0) c.in_kilograms.result c.loop-i.invariant (search rules)
    (c.in_kilograms.ensures ∙ ap in_kilograms (read c.args.grams.now c.loop-i.i c.requires))

pub returns : goal.returns
returns g c = all-stored in_kilograms c.args.grams.now c.loop-i.invariant (search rules)
