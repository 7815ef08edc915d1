-- `herd_tests::lacks_input` meets its contract: the slots of the inputs are the first of the herd's. Assumes nothing.
use mathlib.Core.Path.{◌≡◌}
use lib.ListN.{take}
use borrow.Author.Rules.{rules}
use borrow.Author.Tests.{tests}
use Rattle.std.specs.List.{list_any}
use Rattle.std.proofs.lemmas.Iterator.{YieldsList-from_slice}
use Rattle.std.proofs.lemmas.Iterator.Search.{any_from_yields_List}
use Rattle.farm.specs.Herds.{is_missing}
use Rattle.farm.proofs.Left.{length_mapped}
use Rattle.herd_tests.proofs.SlotSteps.{any-lacks}
use Rattle.herd_tests.proofs.lacks_input.Goals as goal

pub returns : goal.returns
returns c =
    let first = take c.count_of.result c.args.h.slots in
    let any : c.any.result ≡ list_any (λ s. is_missing s.given) first =
    any_from_yields_List (λ s. is_missing s.given) _ _ c.any.result c.any.ensures.ran
    (YieldsList-from_slice first cc) (λ x b q k. search (rules, tests)) in
    search (rules, any-lacks, length_mapped, any)
