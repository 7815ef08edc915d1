-- `farm::labels::label_ok` meets its contract: the tests are the definition's, in its order. Assumes nothing.
use borrow.Author.Rules.{rules}
use borrow.Author.Tests.{tests}
use Rattle.std.proofs.lemmas.Iterator.{YieldsList-from_slice}
use Rattle.std.proofs.lemmas.Iterator.Search.{all_from_yields_List}
use Rattle.farm.specs.Labels.{byte_ok, text}
use Rattle.farm.proofs.LabelSteps.{label_in, label_out}
use Rattle.farm.proofs.labels.label_ok.Goals as goal

pub returns-then-l-le-LABEL_MOST : goal.returns-then-l-le-LABEL_MOST
returns-then-l-le-LABEL_MOST c =
    label_in c.args.l c.if-l-le-LABEL_MOST.true.0 c.if-l-le-LABEL_MOST.true.1
    (all_from_yields_List byte_ok _ _ _ c.all.ensures.ran (YieldsList-from_slice (text c.args.l) cc)
    (λ x b q k. search (rules, tests)))

pub returns-else-l-le-LABEL_MOST : goal.returns-else-l-le-LABEL_MOST
returns-else-l-le-LABEL_MOST c = cc (label_out c.args.l c.if-l-le-LABEL_MOST.either)
