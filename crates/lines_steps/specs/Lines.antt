-- What is printed for a step (02, W11), byte by byte: the listing of the totals after it (01, The listing), or 01's
-- "`refused,NUMBER,RECORD` and CRLF"; "record 0 in all". To be believed.
use Rattle.std.specs.Prelude.{ℕ, List, Err}
use Rattle.refusal_line.specs.Lines.{refusal_line}
use Rattle.outputs.specs.declared.Totals.{Totals}
use Rattle.listing.specs.Listing.{totals_listing}
use Rattle.books.specs.Rules.{number, Decided, Done}

abbrev pub step_lines : Decided → Totals → List ℕ
step_lines Done t = totals_listing t
step_lines (Err refusal) t = refusal_line (number refusal) 0
