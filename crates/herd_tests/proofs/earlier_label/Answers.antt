-- `herd_tests::earlier_label` meets its contract: the labels are compared in their order. Assumes nothing.
use borrow.Author.Rules.{rules}
use borrow.Author.Tests.{tests}
use mathlib.Core.Path.{◌∙◌}
use Rattle.std.proofs.lemmas.Iterator.{YieldsList-from_slice}
use Rattle.std.proofs.lemmas.Iterator.Search.{any_from_yields_List}
use Rattle.farm.specs.Labels.{same_label}
use Rattle.herd_tests.proofs.LabelSteps.{any-labelled}
use Rattle.herd_tests.proofs.earlier_label.Goals as goal

pub returns : goal.returns
returns c =
    any_from_yields_List (λ h. same_label h.label c.args.l) _ _ _ c.any.ensures.ran
    (YieldsList-from_slice c.args.herds.now cc) (λ x b q k. search (rules, tests))
    ∙ any-labelled c.args.herds.now c.args.l
