-- `value_texts::put_value` meets its contract, by what the record has. Assumes nothing.
use borrow.Author.Rules.{rules}
use Rattle.value_texts.proofs.Puts.{value_steps}
use Rattle.value_texts.proofs.put_value.Goals as goal

pub overflow_cast-v : goal.overflow_cast-v
overflow_cast-v c = search (rules, value_steps)

pub put_signed-requires : goal.put_signed-requires
put_signed-requires c = search (rules, value_steps)

pub returns-in-Signed : goal.returns-in-Signed
returns-in-Signed c = search (rules, value_steps)
