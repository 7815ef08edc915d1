-- `pasture::pigs_grazing`: outdoors all comes onto the pasture, else nothing. Assumes nothing.
use borrow.Author.Rules.{rules}
use Rattle.pasture.proofs.Into.{pigs_steps}
use Rattle.pasture.proofs.pigs_grazing.Goals as goal

pub returns : goal.returns
returns c = search (rules, pigs_steps)
