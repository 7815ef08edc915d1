-- `herd_figures::sections_of` meets its contract, by the kind. Assumes nothing.
use borrow.Author.Rules.{rules}
use Rattle.kinds.proofs.OfKind.{of_kind}
use Rattle.herd_figures.proofs.sections_of.Goals as goal

pub roughage_sections-requires : goal.roughage_sections-requires
roughage_sections-requires c = search (rules, of_kind)

pub cattle_sections-requires : goal.cattle_sections-requires
cattle_sections-requires c = search (rules, of_kind)

pub pigs_sections-requires : goal.pigs_sections-requires
pigs_sections-requires c = search (rules, of_kind)

pub returns-in-Roughage : goal.returns-in-Roughage
returns-in-Roughage c = rw (c.roughage_sections.ensures, c.in-Roughage.is)

pub returns-in-Cattle : goal.returns-in-Cattle
returns-in-Cattle c = rw (c.cattle_sections.ensures, c.in-Cattle.is)

pub returns-in-Pigs : goal.returns-in-Pigs
returns-in-Pigs c = rw (c.pigs_sections.ensures, c.in-Pigs.is)
