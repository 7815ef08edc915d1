-- The rules of a step (02, W11) in the parts in which the code asks them; `present` says whether a herd has the label.
-- It mirrors the code for its contracts: that these are the rules is what `decide_step` promises.
use Rattle.std.specs.Prelude.{ℕ, min, Bool, not, List, [], ◌∷◌, leb, Err}
use Rattle.base.specs.First.{Test, ◌when◌}
use Rattle.farm.specs.declared.Herd.{Herd}
use Rattle.farm.specs.declared.Refusal.TheVariants.{BadValue, EarlierLabel, NoRoomForHerd, InputMissing}
use Rattle.farm.specs.Limits.{herds_most}
use Rattle.herd_tests.specs.Tests.{lacks}
use Rattle.fits.specs.Fits.{unfit}
use Rattle.books.specs.declared.StepRefusal.TheVariants.{Record, NotPresent}
use Rattle.books.specs.Rules.{Decided}

abbrev pub herd_tests : Herd → List (Test Decided)
herd_tests h = Err (Record InputMissing) when lacks h ∷ Err (Record BadValue) when unfit h ∷ []

abbrev pub add_tests : Bool → ℕ → ℕ → Herd → List (Test Decided)
add_tests present count room h =
    Err (Record EarlierLabel) when present ∷ Err (Record NoRoomForHerd) when leb (min room herds_most) count
    ∷ herd_tests h

abbrev pub replace_tests : Bool → Herd → List (Test Decided)
replace_tests present h = Err NotPresent when not present ∷ herd_tests h

abbrev pub remove_tests : Bool → List (Test Decided)
remove_tests present = Err NotPresent when not present ∷ []
