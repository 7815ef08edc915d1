-- The line of a refusal, of its number and the number of its record (01, The listing: "`refused,NUMBER,RECORD` and
-- CRLF"). To be believed.
use Rattle.std.specs.Prelude.{ℕ, List, ◌++◌}
use Rattle.base.specs.Text.{bytes}
use Rattle.decimal.specs.Writing.{pair_of}

unfoldable pub refusal_line : ℕ → ℕ → List ℕ
refusal_line number record' = bytes "refused," ++ pair_of number record'
