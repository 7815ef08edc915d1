-- 02, W11, Refusals: "in order: 01's for a farm record, 16 a stored total beyond 10,000,000,000,000 grams above or
-- below zero, 4 bad label, 15 label not present (replace, remove), 8 label present (add), 9 farm full (add), 12, 7
-- (add, replace); record 0 in all." To be believed.
use Rattle.std.specs.Prelude.{Err}
use Rattle.std.specs.Prelude.{ℕ, min, Bool, true, false, not, ◌&&◌, ◌||◌, List, [], ◌∷◌, length, leb, ltb, ℤ, nat_abs}
use Rattle.std.specs.Prelude.{Result, Ok, Err, ⊤}
use Rattle.base.specs.First.{Test, ◌when◌, first}
use Rattle.farm.specs.declared.Herd.{Herd}
use Rattle.farm.specs.declared.Farm.{Farm}
use Rattle.farm.specs.declared.Refusal.TheVariants.{BadLabel, BadValue, EarlierLabel, NoRoomForHerd, InputMissing}
use Rattle.farm.specs.Refusals as farms
use Rattle.farm.specs.Limits.{herds_most}
use Rattle.farm.specs.Labels.{label_ok}
use Rattle.farm.specs.Answers.{Accepted, Checked}
use Rattle.herd_tests.specs.Tests.{lacks, earlier_label}
use Rattle.fits.specs.Fits.{unfit}
use Rattle.checks.specs.Checks.{check_farm, herds_of}
use Rattle.outputs.specs.declared.Totals.{Totals}
use Rattle.books.specs.declared.Step.{Step}
use Rattle.books.specs.declared.Step.TheVariants.{Add, Replace, Remove}
use Rattle.books.specs.declared.StepRefusal.{StepRefusal}
use Rattle.books.specs.declared.StepRefusal.TheVariants.{Record, NotPresent, TotalTooLarge}

-- what was decided of a step: it was done, or why nothing was changed
abbrev pub Decided : Type 0
Decided = Result ⊤ StepRefusal

pattern abbrev pub Done : Decided
Done = Ok tt

abbrev pub number : StepRefusal → ℕ
number (Record refusal) = farms.number refusal
number NotPresent = 15
number TotalTooLarge = 16

-- ---- 16

abbrev pub total_most : ℕ
total_most = 10000000000000

-- one of them is beyond it, "above or below zero"
abbrev pub any_beyond : List ℤ → Bool
any_beyond [] = false
any_beyond (g ∷ gs) = ltb total_most (nat_abs g) || any_beyond gs

unfoldable pub beyond : Totals → Bool
beyond t = any_beyond t.grams

-- ---- the rules of a step, behind those of the farm's record

-- a rule: its refusal, the steps that it is of, and whether it applies to what they are handed
pub record Rule : Type 0 where
  pub refusal : StepRefusal
  pub steps : List Step
  pub holds : Bool

abbrev every : List Step
every = Add ∷ Replace ∷ Remove ∷ []

-- in their order: the herds hs and the totals t are the farm's, `room` is how many herds the array has room for
abbrev pub rules : ℕ → Herd → List Herd → Totals → List Rule
rules room h hs t =
    record { refusal = TotalTooLarge; steps = every; holds = beyond t }
    ∷ record { refusal = Record BadLabel; steps = every; holds = not (label_ok h.label) }
    ∷ record { refusal = NotPresent; steps = Replace ∷ Remove ∷ []; holds = not (earlier_label hs h.label) }
    ∷ record { refusal = Record EarlierLabel; steps = Add ∷ []; holds = earlier_label hs h.label }
    ∷ record { refusal = Record NoRoomForHerd; steps = Add ∷ []; holds = leb (min room herds_most) (length hs) }
    ∷ record { refusal = Record InputMissing; steps = Add ∷ Replace ∷ []; holds = lacks h }
    ∷ record { refusal = Record BadValue; steps = Add ∷ Replace ∷ []; holds = unfit h }
    ∷ []

abbrev pub same : Step → Step → Bool
same Add Add = true
same Add Replace = false
same Add Remove = false
same Replace Add = false
same Replace Replace = true
same Replace Remove = false
same Remove Add = false
same Remove Replace = false
same Remove Remove = true

abbrev pub is_of : List Step → Step → Bool
is_of [] step = false
is_of (s ∷ steps) step = same s step || is_of steps step

abbrev pub tests : Step → List Rule → List (Test Decided)
tests step [] = []
tests step (r ∷ rs) = Err r.refusal when (is_of r.steps step && r.holds) ∷ tests step rs

-- ---- what is decided: 01's refusals of the farm's record first, then the rules

abbrev pub decided_after : Checked → Decided → Decided
decided_after Accepted d = d
decided_after (Err refused) d = Err (Record refused.0)

unfoldable pub decided_of : Farm → ℕ → Totals → Step → Herd → Decided
decided_of f room t step h = decided_after (check_farm f) (first (tests step (rules room h (herds_of f) t)) Done)
