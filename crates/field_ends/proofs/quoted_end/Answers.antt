use Rattle.field_ends.proofs.Scans.{quoted_steps}
use borrow.Author.Rules.{rules}
use Rattle.field_ends.proofs.quoted_end.Goals as goal

pub loop-i-preserved-then-s-i-ne34 : goal.loop-i-preserved-then-s-i-ne34
loop-i-preserved-then-s-i-ne34 c = search (rules, quoted_steps)

pub returns-then-s-j : goal.returns-then-s-j
returns-then-s-j c = search (rules, quoted_steps)

pub returns-in-44 : goal.returns-in-44
returns-in-44 c = search (rules, quoted_steps)

pub returns-in-13 : goal.returns-in-13
returns-in-13 c = search (rules, quoted_steps)

pub returns-in_default : goal.returns-in_default
returns-in_default c = search (rules, quoted_steps)

pub loop-i-preserved : goal.loop-i-preserved
loop-i-preserved c = search (rules, quoted_steps)

pub returns : goal.returns
returns c = search (rules, quoted_steps)
