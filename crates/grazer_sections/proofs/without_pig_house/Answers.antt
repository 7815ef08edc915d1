-- `grazer_sections::without_pig_house` meets its contract: the sections of the pigs are empty. Assumes nothing.
use borrow.Author.Rules.{rules}
use Rattle.herd.proofs.Herds.{is_plain}
use Rattle.grazer_sections.proofs.without_pig_house.Goals as goal

pub returns : goal.returns
returns c = search (rules, is_plain)
