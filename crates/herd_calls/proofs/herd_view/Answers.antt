-- `herd_calls::herd_view` meets its contract: what the record's checks refuse, then what the writer says. Assumes
-- nothing.
use Rattle.contracts.proofs.RecordSteps.{herd_steps}
use borrow.Author.Rules.{rules}
use Rattle.base.proofs.SameRefused.{handed_on}
use Rattle.herd_calls.proofs.herd_view.Goals as goal

pub write_herd-requires : goal.write_herd-requires
write_herd-requires c = search (rules, herd_steps, c.in_ok-check_herd.was)

pub returns : goal.returns
returns c = search (rules, herd_steps, c.in_ok-check_herd.was)

pub returns-in_err-check_herd : goal.returns-in_err-check_herd
returns-in_err-check_herd c = search (rules, herd_steps, c.in_err-check_herd.was, handed_on c.from_residual.ensures)
