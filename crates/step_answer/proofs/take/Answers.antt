-- `step_answer::take` meets its contract: the answer has room, whatever is handed in. Assumes nothing.
use Rattle.step_answer.proofs.Room.{answer-room}
use Rattle.step_answer.proofs.Steps.{step-taken}
use borrow.Author.Rules.{rules}
use Rattle.step_answer.proofs.take.Goals as goal

pub put_answer-length-requires : goal.put_answer-length-requires
put_answer-length-requires c = search (rules, answer-room)

pub returns : goal.returns
returns c = search (rules, step-taken)
