-- `checks::check_farm` meets its contract: a herd more is checked against those before it, whose labels are compared
-- where a print is the same. Assumes nothing.
use Prim.Native.Nat.{ℕ, ◌<◌}
use mathlib.Core.Path.{◌≡◌, ◌∙◌}
use mathlib.Core.Bool.{false}
use mathlib.Core.List.{[]}
use native.Mathlib.Omega.{arith}
use lib.ListN.{get_or, take}
use borrow.Author.Rules.{rules}
use Rattle.base.proofs.SameRefused.{handed_on}
use Rattle.farm.specs.Limits.{herds_most}
use Rattle.inputs.specs.declared.Kind.TheVariants.{Roughage}
use Rattle.farm.specs.declared.Herd.{Herd}
use Rattle.farm.specs.declared.Farm.{Farm}
use Rattle.herd_tests.specs.Tests.{earlier_label}
use Rattle.farm.proofs.Left.{length_mapped}
use Rattle.herd_tests.proofs.PrintsSoFar.{prints-next, new-by_print, new-by-label}
use Rattle.checks.proofs.HerdSteps.{farm_steps, herd-refused}
use Rattle.checks.proofs.check_farm.Goals as goal
use Rattle.checks.proofs.check_farm.Goals.{
  else-has_print-via-then-has_print+else-earlier_label,
  else-has_print-via-else-has_print,
}

-- what stands at a place that an array does not have
abbrev none : Herd
none = record { label = record { bytes = []; len = 0 }; kind = Roughage; slots = [] }

-- the label at i is that of no earlier herd: its print is none of theirs, or it is another label than theirs
abbrev IsNew : Farm → ℕ → Type 0
IsNew f i = earlier_label (take i f.herds) (get_or f.herds i none).label ≡ false

pub returns-then-farm-gt-HERDS_MOST : goal.returns-then-farm-gt-HERDS_MOST
returns-then-farm-gt-HERDS_MOST c = search (rules, farm_steps)

pub loop-i-init : goal.loop-i-init
loop-i-init c = search (rules, farm_steps, length_mapped)

pub returns-then-not-label_ok : goal.returns-then-not-label_ok
returns-then-not-label_ok c = search (rules, farm_steps)

pub returns-then-earlier_label : goal.returns-then-earlier_label
returns-then-earlier_label c = search (rules, farm_steps)

pub loop-i-preserved : goal.loop-i-preserved
loop-i-preserved c =
    let v = c.loop-i.invariant in
    let b : c.loop-i.i < herds_most = omega (arith, c.loop-i-test.true, c.if-farm-gt-HERDS_MOST.false) in
    let new : IsNew c.args.farm c.loop-i.i = elim c.else-has_print.branch [
      | else-has_print-via-then-has_print+else-earlier_label w ↦
          new-by-label _ _ w.earlier_label.ensures w.if-earlier_label.false
      | else-has_print-via-else-has_print w ↦
          new-by_print c.args.farm.herds _ c.loop-i.prints c.loop-i.i v.2 c.print_of-print.ensures c.has_print.ensures
          w.if-has_print.false
    ] in (
      search rules,
      search rules,
      prints-next _ _ _ v.2 v.1 v.0 b none c.print_of-print.ensures,
      search (rules, farm_steps, new, c.if-not-label_ok.false, c.label_ok.ensures, c.loop-i-test.true, v),
    )

pub returns-in_err-check_inputs : goal.returns-in_err-check_inputs
returns-in_err-check_inputs c =
    let v = c.loop-i.invariant in
    let new : IsNew c.args.farm c.loop-i.i = elim c.else-has_print.branch [
      | else-has_print-via-then-has_print+else-earlier_label w ↦
          new-by-label _ _ w.earlier_label.ensures w.if-earlier_label.false
      | else-has_print-via-else-has_print w ↦
          new-by_print c.args.farm.herds _ c.loop-i.prints c.loop-i.i v.2 c.print_of-print.ensures c.has_print.ensures
          w.if-has_print.false
    ] in
    let refused = c.in_err-check_inputs.was in
    handed_on c.from_residual.ensures
    ∙ herd-refused c.args.farm c.loop-i.i v.3 v.0 c.if-farm-gt-HERDS_MOST.false c.loop-i-test.true none _
    c.label_ok.ensures c.if-not-label_ok.false new _ c.check_inputs.ensures refused

pub returns : goal.returns
returns c = search (rules, farm_steps)
