use Rattle.quoting.proofs.Steps.{form_steps}
use borrow.Author.Rules.{rules}
use Rattle.quoting.proofs.form_of.Goals as goal

pub returns-then-s-eq0 : goal.returns-then-s-eq0
returns-then-s-eq0 c = search (rules, form_steps)

pub loop-i-init : goal.loop-i-init
loop-i-init c = search (rules, form_steps)

pub loop-i-preserved : goal.loop-i-preserved
loop-i-preserved c = search (rules, form_steps)

pub returns : goal.returns
returns c = search (rules, form_steps)
