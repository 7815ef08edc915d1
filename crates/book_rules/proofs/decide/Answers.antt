-- The farm's record is checked first. Assumes nothing.
use borrow.Author.Rules.{rules}
use Rattle.book_rules.proofs.RuleSteps.{rule_steps}
use Rattle.book_rules.proofs.decide.Goals as goal

pub decide_step-requires : goal.decide_step-requires
decide_step-requires c = search (rules, rule_steps)

pub returns-in-Ok : goal.returns-in-Ok
returns-in-Ok c = search (rules, rule_steps)

pub returns-in-Err : goal.returns-in-Err
returns-in-Err c = search (rules, rule_steps)
