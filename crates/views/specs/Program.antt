-- 01, The listing: "The program reads a farm file from standard input and prints each herd, then the totals, or
-- `refused,NUMBER,RECORD` and CRLF." So goes every command: it prints what its view lists of an accepted farm, or that
-- line. To be believed: `output_of` is what a command prints for a file's bytes, `program_output` what the program does
-- where none is named.
use Rattle.std.specs.Prelude.{ℕ, ◌≤◌, ◌≡◌, List, Ok, Err}
use Rattle.base.specs.Wrote.{Wrote}
use Rattle.base.specs.Refused.{refuse}
use Rattle.farm.specs.declared.Farm.{Farm}
use Rattle.farm.specs.declared.Refusal.{Refusal}
use Rattle.farm.specs.Refusals.{number}
use Rattle.farm.specs.Answers.{Accepted, Checked}
use Rattle.limits.specs.declared.Source.{Source}
use Rattle.limits.specs.declared.Source.TheVariants.{StandardInput}
use Rattle.limits.specs.Limits.{limits_of}
use Rattle.reader.specs.Files.{read_of}
use Rattle.refusal_line.specs.Lines.{refusal_line}
use Rattle.views.specs.declared.View.{View}
use Rattle.views.specs.declared.View.TheVariants.{Figures}
use Rattle.views.specs.declared.Output.{Output}
use Rattle.views.specs.Views.{viewed, checked_for}
use Rattle.views.specs.Rooms.{output_room}
use Rattle.written.specs.Answer.{Written}

abbrev pub printed : View → Checked → Farm → List ℕ
printed view Accepted f = viewed view f
printed view (Err refused) f = refusal_line (number refused.0) refused.1

-- what a file is refused with in this view
abbrev pub read_for : Source → View → List ℕ → Checked
read_for source view s = checked_for view (read_of (limits_of source) s).checked (read_of (limits_of source) s).farm

unfoldable pub output_of : Source → View → List ℕ → List ℕ
output_of source view s = printed view (read_for source view s) (read_of (limits_of source) s).farm

-- "from standard input", "each herd, then the totals"
abbrev pub program_output : List ℕ → List ℕ
program_output s = output_of StandardInput Figures s

-- ---- how the code says that a farm, or a file, is listed or refused; no reader has to believe it

pub data Put (room : ℕ) (found : Checked) (text old : List ℕ) : List ℕ → Written → Type 0 where
  listed : {new : List ℕ} {n : ℕ} → found ≡ Accepted → Wrote old 0 text new n → n ≤ room
      → Put room found text old new (Ok n)
  refused : {refusal : Refusal} {n : ℕ} → found ≡ refuse refusal n
      → Put room found text old old (refuse refusal n)

abbrev pub PutFile : Source → View → List ℕ → List ℕ → List ℕ → Written → Type 0
PutFile source view s old new r =
    Put (output_room source) (read_for source view s) (viewed view (read_of (limits_of source) s).farm) old new r

-- ---- what the program prints was put from the front of the buffer on, and how reading ended is told

abbrev pub ended_of : Checked → ℕ → Written
ended_of Accepted n = Ok n
ended_of (Err why) n = Err why

pub record PutOutput (source : Source) (view : View) (s old new : List ℕ) (r : Output) : Type 0 where
  pub bytes : Wrote old 0 (output_of source view s) new r.length
  pub room : r.length ≤ output_room source
  pub ended : r.ended ≡ ended_of (read_for source view s) r.length
