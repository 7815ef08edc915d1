-- What is printed for the line's answer (02, W8), byte by byte: `yes,COUNT` or `no,COUNT` and CRLF, COUNT the number of
-- herds that were added up; or 01's "`refused,NUMBER,RECORD` and CRLF". To be believed.
use Rattle.std.specs.Prelude.{ℕ, List, [], ◌∷◌, ◌++◌, Ok, Err}
use Rattle.base.specs.Text.{bytes}
use Rattle.decimal.specs.Writing.{whole_of}
use Rattle.farm.specs.Refusals.{number}
use Rattle.refusal_line.specs.Lines.{refusal_line}
use Rattle.above_line.specs.declared.Above.{Above}
use Rattle.above_line.specs.declared.Above.TheVariants.{Yes, No}
use Rattle.above_line.specs.Answers.{LineAnswer}

-- a count behind a word
abbrev pub counted : List ℕ → ℕ → List ℕ
counted word count = word ++ whole_of count ++ bytes "\r\n"

abbrev pub above_line : Above → List ℕ
above_line (Yes count) = counted (bytes "yes,") count
above_line (No count) = counted (bytes "no,") count

abbrev pub answer_line : LineAnswer → List ℕ
answer_line (Ok a) = above_line a
answer_line (Err refused) = refusal_line (number refused.0) refused.1

-- ---- the record that yes or no is

abbrev pub above_fields : Above → List (List ℕ)
above_fields (Yes count) = bytes "yes" ∷ whole_of count ∷ []
above_fields (No count) = bytes "no" ∷ whole_of count ∷ []
