use mathlib.Core.Path.{refl}
use Rattle.mend_print.proofs.LineSteps.{line-goes}
use Rattle.mend_print.proofs.lines.put_lines.Goals as goal

pub loop-rest-preserved : goal.loop-rest-preserved
loop-rest-preserved c =
    line-goes _ _ _ _ _ c.loop-rest.invariant c.in-len2-up.len_at_least _ _ c.put_pair-at.ensures.0
    c.put_pair-at.ensures.1
    _ refl
