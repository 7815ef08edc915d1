-- `herd_reasons::answers::herd_reason` meets its contract: the answer is the one that the check picks. Assumes nothing.
use mathlib.Core.Path.{◌∙◌}
use Rattle.base.proofs.SameRefused.{handed_on}
use Rattle.herd_reasons.proofs.Steps.{answer_steps, is-refused}
use borrow.Author.Rules.{rules}
use Rattle.herd_reasons.proofs.answers.herd_reason.Goals as goal

pub told_of-requires : goal.told_of-requires
told_of-requires c = search (rules, answer_steps)

pub returns : goal.returns
returns c = search (rules, answer_steps)

pub returns-in_err-check_herd : goal.returns-in_err-check_herd
returns-in_err-check_herd c =
    handed_on c.from_residual.ensures ∙ is-refused c.args.h _ c.check_herd.ensures _ c.in_err-check_herd.was
