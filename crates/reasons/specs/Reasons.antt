-- 02, W2: "the reason behind the share on days with both: no such days, yard not available, share as chosen, or
-- lowered, with the number of overlapping days. Exactly one is given, the first in that order whose fact holds in the
-- herd's record, and the share follows from it." Over 2.33 and 2.34, and of dairy cows 2.18 and
-- 2.19 (crate `yard`). To be believed.
use Rattle.std.specs.Prelude.{ℕ, ◌+◌, ◌≤◌, ◌<◌, ◌≡◌, Bool, true, false, List, [], ◌∷◌, eqb, leb, None, Some, Option}
use Prim.Native.String.{String}
use Rattle.base.specs.First.{Test, ◌when◌, first}
use Rattle.amounts.specs.Units.{year}
use Rattle.kinds.specs.declared.ExerciseYard.{ExerciseYard}
use Rattle.kinds.specs.declared.ExerciseYard.TheVariants as yards
use Rattle.kinds.specs.declared.Outdoor.{Outdoor}
use Rattle.kinds.specs.declared.Cattle.{Cattle}
use Rattle.kinds.specs.declared.Inputs.{Inputs}
use Rattle.kinds.specs.declared.Inputs.TheVariants as kinds
use Rattle.yard.specs.Yard.{days_with_grazing_and_yard, share_excretion}
use Rattle.yard.specs.Yard.{share_available_roughage_is_partly_supplied_in_the_exercise_yard}
use Rattle.reasons.specs.declared.Reason.{Reason}
use Rattle.reasons.specs.declared.Reason.TheVariants.{NoSuchDays, NotAvailable, AsChosen, Lowered}
use Rattle.reasons.specs.declared.Why.{Why}

-- what a kind of herd is told: the reason, or nothing where it has no yard
abbrev pub YardReason : Type 0
YardReason = Option Why

-- the number of each, in 02's order, and the word that is printed
abbrev pub number : Reason → ℕ
number NoSuchDays = 1
number NotAvailable = 2
number AsChosen = 3
number Lowered = 4

abbrev pub word : Reason → String
word NoSuchDays = "no_such_days"
word NotAvailable = "not_available"
word AsChosen = "as_chosen"
word Lowered = "lowered"

-- ---- which reason

-- 0.2, in tenths
abbrev pub partly : ℕ
partly = share_available_roughage_is_partly_supplied_in_the_exercise_yard

-- the share as chosen: 2.34 and 2.19, share_excretion
abbrev pub chosen_share : Outdoor → ℕ
chosen_share o = share_excretion o.exercise_yard

abbrev pub is_not_available : ExerciseYard → Bool
is_not_available yards.NotAvailable = true
is_not_available yards.NotSupplied = false
is_not_available yards.Partly = false
is_not_available yards.Exclusively = false

-- the tests in 02's order
abbrev pub reason_tests : Outdoor → List (Test Reason)
reason_tests o =
    NoSuchDays when eqb (days_with_grazing_and_yard o) 0
    ∷ NotAvailable when is_not_available o.exercise_yard
    ∷ AsChosen when leb (chosen_share o) partly
    ∷ []

unfoldable pub reason_of : Outdoor → Reason
reason_of o = first (reason_tests o) Lowered

-- ---- the share on days with both follows from the reason and from the chosen share

abbrev pub share_from : Reason → ℕ → ℕ
share_from NoSuchDays chosen = chosen
share_from NotAvailable chosen = 0
share_from AsChosen chosen = chosen
share_from Lowered chosen = partly

abbrev pub why_of : Outdoor → Why
why_of o =
    record {
      reason = reason_of o;
      days = days_with_grazing_and_yard o;
      chosen = chosen_share o;
      share = share_from (reason_of o) (chosen_share o);
    }

-- a kind with the module `Outdoor` of 2.33 or 2.18 is told the reason; the others have no yard
unfoldable pub told_of : Inputs → YardReason
told_of (kinds.Roughage r) = None
told_of (kinds.Cattle c) = Some (why_of c.outdoor)
told_of (kinds.Pigs p) = None

-- ---- the same without a word of how it is found: proofs/Reasons.antt shows that it is that one

-- the facts, each by itself
pub data Fact (o : Outdoor) : Reason → Type 0 where
  no_such_days : o.grazing_days + o.yard_days ≤ year → Fact o NoSuchDays
  not_available : o.exercise_yard ≡ yards.NotAvailable → Fact o NotAvailable
  as_chosen : chosen_share o ≤ partly → Fact o AsChosen
  lowered : partly < chosen_share o → Fact o Lowered

-- "the first in that order whose fact holds"
pub record FirstReason (o : Outdoor) (r : Reason) : Type 0 where
  pub holds : Fact o r
  pub none_sooner : (other : Reason) → Fact o other → number other < number r → ⊥

-- the herds that have a yard
pub data HasOutdoor : Inputs → Outdoor → Type 0 where
  cattle : {c : Cattle} → HasOutdoor (kinds.Cattle c) c.outdoor
