-- A refusal's line in full, computed from the definition: the number first, then the record. Assumes nothing.
use mathlib.Core.Path.{◌≡◌, refl}
use Rattle.base.specs.Text.{bytes}
use Rattle.decimal.specs.Writing.{width, whole_of}
use Rattle.refusal_line.specs.Lines.{refusal_line}

-- a value that does not fit, refusal 7, in the fourth record
pub seven-at-four : refusal_line 7 4 ≡ bytes "refused,7,4\r\n"
unfolding refusal_line width whole_of
seven-at-four = refl
