-- What the program prints for a farm file and a line (02, W8): the line of the file's answer. To be believed.
use Rattle.std.specs.Prelude.{ℕ, ◌≡◌, List, length, replicate}
use Rattle.std.proofs.lemmas.List.Edits.{sets}
use Rattle.refusal_line.specs.Rooms.{line_room}
use Rattle.limits.specs.declared.Source.{Source}
use Rattle.lines_above.specs.Lines.{answer_line}
use Rattle.line_calls.specs.Files.{FileAnswers}
use Rattle.line_answer.specs.declared.PutLine.{PutLine}

-- the answer, and its bytes before zeros
pub record Puts (source : Source) (s : List ℕ) (line : ℕ) (r : PutLine) : Type 0 where
  pub answers : FileAnswers source s line r.answer
  pub put : r.bytes ≡ sets (replicate line_room 0) 0 (answer_line r.answer)
  pub long : r.length ≡ length (answer_line r.answer)
