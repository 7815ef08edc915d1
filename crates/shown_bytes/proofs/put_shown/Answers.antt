-- `shown_bytes::put_shown` meets its contract: by the form. Assumes nothing.
use Rattle.shown_bytes.proofs.Steps.{byte_steps}
use borrow.Author.Rules.{rules}
use Rattle.shown_bytes.proofs.put_shown.Goals as goal

pub returns-in-Plain : goal.returns-in-Plain
returns-in-Plain c = search (rules, byte_steps)

pub returns-in-Quoted : goal.returns-in-Quoted
returns-in-Quoted c = search (rules, byte_steps)

pub returns-in-Escaped : goal.returns-in-Escaped
returns-in-Escaped c = search (rules, byte_steps)
