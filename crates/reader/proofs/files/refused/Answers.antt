-- `reader::files::refused` meets its contract: the refusal, and a farm of no herds. Assumes nothing.
use borrow.Author.Rules.{rules}
use Rattle.reader.proofs.FileSteps.{gets_refusal}
use Rattle.reader.proofs.files.refused.Goals as goal

pub returns : goal.returns
returns c = search (rules, gets_refusal)
