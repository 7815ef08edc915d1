-- `kilograms::in_kilograms` meets its contract: the grams are such that the cast loses nothing, and the constant is
-- 1000. Assumes nothing.
use mathlib.Core.Path.{sym, ap, subst, ◌∙◌}
use lib.Dec.{T}
use lib.IntN.{ℤ}
use lib.Ieee.{binary64, in_float, div, of_bits}
use mir.Syntax.{w64}
use mir.ValLaws.{to_z-of_z}
use Rattle.kilograms.specs.Kilograms.{double, in_kilograms}
use Rattle.kilograms.proofs.Doubles.{exact, thousand}
use Rattle.kilograms.proofs.in_kilograms.Goals as goal

pub int_to_float-result : goal.int_to_float-result
int_to_float-result c = subst (λ (z : ℤ). T (in_float binary64 z)) (sym (to_z-of_z w64 c.args.grams c.ranges.grams))
    (exact c.args.grams c.requires)

pub returns : goal.returns
unfolding in_kilograms
returns c = ap (λ (z : ℤ). div binary64 (double z) (of_bits binary64 4652007308841189376))
    (to_z-of_z w64 c.args.grams c.ranges.grams)
    ∙ ap (div binary64 (double c.args.grams)) thousand
