-- When a message names the command `mend`: the file was refused, and the mended file is accepted, or refused at a later
-- record. To be believed.
use Rattle.std.specs.Prelude.{ℕ, List, length, Ok, Err}
use Rattle.base.specs.Pick.{pick}
use Rattle.farm.specs.Refusals as farms
use Rattle.farm.specs.Answers.{Accepted, Checked}
use Rattle.limits.specs.declared.Source.{Source}
use Rattle.limits.specs.Limits.{limits_of}
use Rattle.reader.specs.Files.{read_of}
use Rattle.gate_days.specs.Refusals as gates
use Rattle.gate.specs.Logs.{read_log, LogAnswer}
use Rattle.spreadsheet.specs.Mended.{mended_of, changes_of}
use Rattle.hints.specs.declared.Input.{Input}
use Rattle.hints.specs.declared.Input.TheVariants.{Farm, Log}
use Rattle.reach.specs.declared.Reach.{Reach}
use Rattle.reach.specs.declared.Reach.TheVariants.{Through}
use Rattle.reach.specs.Reach.{reach_of, further}

abbrev pub checked_reach : Checked → Reach
checked_reach Accepted = Through
checked_reach (Err refused) = reach_of (farms.number refused.0) refused.1

abbrev pub answer_reach : LogAnswer → Reach
answer_reach (Ok o) = Through
answer_reach (Err refused) = reach_of (gates.number refused.0) refused.1

unfoldable pub farm_reach : Source → List ℕ → Reach
farm_reach source s = checked_reach (read_of (limits_of source) s).checked

unfoldable pub log_reach : List ℕ → Reach
log_reach s = answer_reach (read_log s)

-- how far a file is read
abbrev pub read_to : Input → List ℕ → Reach
read_to (Farm source) s = farm_reach source s
read_to Log s = log_reach s

-- the number of changes, where mending brings reading further; else 0
unfoldable pub hint_of : Input → List ℕ → ℕ
hint_of input s = pick (further (read_to input s) (read_to input (mended_of s))) (length (changes_of s)) 0
