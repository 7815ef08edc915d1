-- The steps of the scan, and its end, which is past the file where the scan begins there. Assumes nothing.
use mathlib.Core.Path.{◌≡◌, ◌∙◌}
use native.Mathlib.Omega.{arith}
use Rattle.plain_fields.proofs.Scans.{stop-end, stop_steps}
use borrow.Author.Rules.{rules}
use Rattle.plain_fields.proofs.plain_stop.Goals as goal
use Rattle.plain_fields.proofs.plain_stop.Goals.{else-s-i-le44-via-then-s-i-le44+else-ends_plain}
use Rattle.plain_fields.proofs.plain_stop.Goals.{else-s-i-le44-via-else-s-i-le44}

pub returns-then-ends_plain : goal.returns-then-ends_plain
returns-then-ends_plain c = search (rules, stop_steps)

pub loop-i-preserved : goal.loop-i-preserved
loop-i-preserved c = (
  omega arith,
  elim c.else-s-i-le44.branch [
    | else-s-i-le44-via-then-s-i-le44+else-ends_plain w ↦ search (rules, stop_steps)
    | else-s-i-le44-via-else-s-i-le44 w ↦ search (rules, stop_steps)
  ],
)

pub returns : goal.returns
returns c =
    let e : c.max.result ≡ c.loop-i.i = omega arith in
    e ∙ stop-end _ _ _ c.loop-i.invariant.1 c.loop-i-test.false
