-- `numbers::read_number` meets its contract, by the first byte, and the second where that is a zero.
-- Assumes nothing.
use Rattle.numbers.proofs.Steps.{number_steps}
use borrow.Author.Rules.{rules}
use Rattle.numbers.proofs.read_number.Goals as goal

pub returns-then-s-eq0 : goal.returns-then-s-eq0
returns-then-s-eq0 c = search (rules, number_steps)

pub returns-then-s-eq1 : goal.returns-then-s-eq1
returns-then-s-eq1 c = search (rules, number_steps)

pub returns-then-s-eq46 : goal.returns-then-s-eq46
returns-then-s-eq46 c = search (rules, number_steps)

pub returns-then-s-eq48 : goal.returns-then-s-eq48
returns-then-s-eq48 c = search (rules, number_steps)

pub returns-in_default : goal.returns-in_default
returns-in_default c = search (rules, number_steps)

pub whole-requires : goal.whole-requires
whole-requires c = search (rules, number_steps)

pub returns : goal.returns
returns c = search (rules, number_steps)
