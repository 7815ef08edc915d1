use mathlib.Core.Path.{◌≡◌}
use mathlib.Core.Bool.{false}
use lib.ListN.{take}
use borrow.Author.Rules.{rules}
use Rattle.herd_tests.specs.Tests.{earlier_label}
use Rattle.herd_tests.proofs.PrintsSoFar.{new-by_print, new-by-label}
use Rattle.reader.proofs.LoopSteps.{read_steps}
use Rattle.reader.proofs.files.read_records.Goals as goal
use Rattle.reader.proofs.files.read_records.Goals.{then-has_print+else-earlier_label, else-has_print}

pub loop-done-init : goal.loop-done-init
loop-done-init c = search (rules, read_steps)

pub returns-then-lacking-ne0 : goal.returns-then-lacking-ne0
returns-then-lacking-ne0 c = search (rules, read_steps)

pub herds_so_far-count-requires : goal.herds_so_far-count-requires
herds_so_far-count-requires c = search (rules, read_steps)

pub returns-in-Ends : goal.returns-in-Ends
returns-in-Ends c = search (rules, read_steps)

pub returns-in-Wrong : goal.returns-in-Wrong
returns-in-Wrong c = search (rules, read_steps)

pub loop-done-smaller-in-Adds : goal.loop-done-smaller-in-Adds
loop-done-smaller-in-Adds c = search (rules, read_steps)

pub loop-done-preserved-in-Adds : goal.loop-done-preserved-in-Adds
loop-done-preserved-in-Adds c = search (rules, read_steps)

pub returns-then-earlier_label : goal.returns-then-earlier_label
returns-then-earlier_label c = search (rules, read_steps)

pub is_full-requires : goal.is_full-requires
is_full-requires c = search (rules, read_steps)

pub returns-then-is_full : goal.returns-then-is_full
returns-then-is_full c =
    let l = c.loop-done in
    let new : earlier_label (take l.count l.herds) c.read_at-read.result.herd.label
    ≡ false = elim c.if-has_print.branch [
      | then-has_print+else-earlier_label w ↦ new-by-label _ _ w.earlier_label.ensures w.if-earlier_label.false
      | else-has_print w ↦
          new-by_print l.herds _ l.prints l.count l.invariant.printed c.print_of.ensures c.has_print.ensures
          w.if-has_print.false
    ] in
    search (rules, read_steps, new)

pub herds_so_far-count-requires-in-Begins : goal.herds_so_far-count-requires-in-Begins
herds_so_far-count-requires-in-Begins c = search (rules, read_steps)

pub loop-done-smaller : goal.loop-done-smaller
loop-done-smaller c = search (rules, read_steps)

pub loop-done-preserved : goal.loop-done-preserved
loop-done-preserved c =
    let l = c.loop-done in
    let new : earlier_label (take l.count l.herds) c.read_at-read.result.herd.label
    ≡ false = elim c.if-has_print.branch [
      | then-has_print+else-earlier_label w ↦ new-by-label _ _ w.earlier_label.ensures w.if-earlier_label.false
      | else-has_print w ↦
          new-by_print l.herds _ l.prints l.count l.invariant.printed c.print_of.ensures c.has_print.ensures
          w.if-has_print.false
    ] in
    search (rules, read_steps, new)
