-- `bench_repeat::screened` is safe and ends: a farm that is read passes the record checks. Assumes nothing.
use borrow.Author.Rules.{rules}
use Rattle.views.proofs.FileSteps.{passes}
use Rattle.bench_repeat.proofs.screened.Goals as goal

pub repeat_line-requires : goal.repeat_line-requires
repeat_line-requires c = search (rules, passes)
