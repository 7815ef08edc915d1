-- `quoting::put_opening` meets its contract: by the form. Assumes nothing.
use native.Mathlib.Omega.{arith}
use Rattle.quoting.proofs.Steps.{no-opening, quote_steps}
use borrow.Author.Rules.{rules}
use Rattle.quoting.proofs.put_opening.Goals as goal

pub returns-in-Plain : goal.returns-in-Plain
returns-in-Plain c = (no-opening _ _ _ c.in-Plain.is, omega arith)

pub returns-in-Quoted : goal.returns-in-Quoted
returns-in-Quoted c = search (rules, quote_steps)

pub returns-in-Escaped : goal.returns-in-Escaped
returns-in-Escaped c = search (rules, quote_steps)
