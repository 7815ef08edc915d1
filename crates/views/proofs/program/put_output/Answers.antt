-- `views::program::put_output` meets its contract: what was listed, or the line of the refusal. Assumes nothing.
use native.Mathlib.Omega.{arith}
use Rattle.views.proofs.OutputSteps.{line-within, output_steps}
use borrow.Author.Rules.{rules}
use Rattle.views.proofs.program.put_output.Goals as goal

pub put_line-requires : goal.put_line-requires
put_line-requires c = let s = c in
    omega (arith, s.requires, line-within s.args.source)

pub returns-in-Ok : goal.returns-in-Ok
returns-in-Ok c = search (rules, output_steps)

pub returns-in-Err : goal.returns-in-Err
returns-in-Err c = search (rules, output_steps)
