-- The refusals of a step as they are printed, computed from the definition. Assumes nothing.
use Rattle.std.specs.Prelude.{Err}
use mathlib.Core.Path.{◌≡◌, refl}
use Rattle.base.specs.Text.{bytes}
use Rattle.decimal.specs.Writing.{width, whole_of}
use Rattle.refusal_line.specs.Lines.{refusal_line}
use Rattle.farm.specs.declared.Refusal.TheVariants.{EarlierLabel}
use Rattle.outputs.specs.declared.Totals.{Totals}
use Rattle.books.specs.declared.StepRefusal.TheVariants.{Record, NotPresent, TotalTooLarge}
use Rattle.lines_steps.specs.Lines.{step_lines}

-- a label that no herd has, a label that a herd has already, a total that is too large
pub refusals-printed : (t : Totals)
    → (step_lines (Err NotPresent) t ≡ bytes "refused,15,0\r\n")
    × (step_lines (Err (Record EarlierLabel)) t ≡ bytes "refused,8,0\r\n")
    × (step_lines (Err TotalTooLarge) t ≡ bytes "refused,16,0\r\n")
unfolding refusal_line whole_of width
refusals-printed t = (refl, refl, refl)
