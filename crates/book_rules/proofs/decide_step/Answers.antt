-- 16 and 4 are of every step, and the rules behind them are those of the step. Assumes nothing.
use borrow.Author.Rules.{rules}
use Rattle.farm.proofs.Left.{length_mapped}
use Rattle.book_rules.proofs.RuleSteps.{rule_steps}
use Rattle.book_rules.proofs.decide_step.Goals as goal

pub returns-then-is_beyond : goal.returns-then-is_beyond
returns-then-is_beyond c = search (rules, rule_steps)

pub returns-then-not-label_ok : goal.returns-then-not-label_ok
returns-then-not-label_ok c = search (rules, rule_steps)

pub returns-in-Add : goal.returns-in-Add
returns-in-Add c = search (rules, rule_steps, length_mapped)

pub returns-in-Replace : goal.returns-in-Replace
returns-in-Replace c = search (rules, rule_steps)

pub returns-in-Remove : goal.returns-in-Remove
returns-in-Remove c = search (rules, rule_steps)
