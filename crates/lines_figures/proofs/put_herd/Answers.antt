-- `lines_figures::put_herd` meets its contract: the lines of the figures of the herd's inputs. Assumes nothing.
use Rattle.lines_figures.proofs.HerdSteps.{herd_steps}
use borrow.Author.Rules.{rules}
use Rattle.lines_figures.proofs.put_herd.Goals as goal

pub figures-requires : goal.figures-requires
figures-requires c = search (rules, herd_steps)

pub put_herd_lines-requires : goal.put_herd_lines-requires
put_herd_lines-requires c = search (rules, herd_steps)

pub returns : goal.returns
returns c = search (rules, herd_steps)
