-- `finding::find_input` meets its contract: the search by places is the search by texts. Assumes nothing.
use borrow.Author.Rules.{rules}
use Rattle.finding.proofs.Searches.{input_steps}
use Rattle.finding.proofs.find_input.Goals as goal

pub returns-in_err-module : goal.returns-in_err-module
returns-in_err-module c = search (rules, input_steps)

pub returns-in_err-place : goal.returns-in_err-place
returns-in_err-place c = search (rules, input_steps)

pub returns-in_err-kind : goal.returns-in_err-kind
returns-in_err-kind c = search (rules, input_steps)

pub returns : goal.returns
returns c = search (rules, input_steps)
