-- 02, W12: "W5's writer may now pass the new limit and then gives 1 with record 0, before 13." A file may be as long as
-- the longest that is read, which is a cooperative's. To be believed.
use Rattle.std.specs.Prelude.{ℕ, List, ltb, length}
use Rattle.base.specs.Pick.{pick}
use Rattle.base.specs.Refused.{refuse}
use Rattle.farm.specs.declared.Refusal.TheVariants.{FileTooLong}
use Rattle.farm.specs.Answers.{Accepted, Checked}
use Rattle.limits.specs.Limits.{cooperative_bytes}

unfoldable pub file_checked : List ℕ → Checked
file_checked file = pick (ltb cooperative_bytes (length file)) (refuse FileTooLong 0) Accepted
