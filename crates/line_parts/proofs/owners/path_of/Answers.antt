-- `line_parts::owners::path_of` meets its contract, kind by kind. Assumes nothing.
use Rattle.line_parts.proofs.owners.path_of.Goals as goal

pub returns-in-Roughage : goal.returns-in-Roughage
returns-in-Roughage c = rw c.in-Roughage.is

pub returns-in-Cattle : goal.returns-in-Cattle
returns-in-Cattle c = rw c.in-Cattle.is

pub returns-in-Pigs : goal.returns-in-Pigs
returns-in-Pigs c = rw c.in-Pigs.is

pub returns-in-DairyCow : goal.returns-in-DairyCow
returns-in-DairyCow c = rw c.in-DairyCow.is
