-- 02, W11, Refusals: when each refusal of a step applies, said of the array, the book and the step and not of how they
-- are checked, and which is the first: "in order: 01's for a farm record, 16 a stored total beyond 10,000,000,000,000
-- grams above or below zero, 4 bad label, 15 label not present (replace, remove), 8 label present (add), 9 farm full
-- (add), 12, 7 (add, replace); record 0 in all." proofs/Refusals.antt shows that a step is decided exactly so. To be
-- believed.
use Rattle.std.specs.Prelude.{ℕ, ◌<◌, ◌≤◌, ◌≡◌, true, false, List, length, get_or, nat_abs, Err}
use Rattle.inputs.specs.Inputs.{count_of, form_of}
use Rattle.farm.specs.declared.Given.TheVariants.{Missing}
use Rattle.farm.specs.declared.Herd.{Herd}
use Rattle.farm.specs.declared.Refusal.{Refusal}
use Rattle.farm.specs.declared.Refusal.TheVariants.{BadLabel, BadValue, EarlierLabel, NoRoomForHerd, InputMissing}
use Rattle.farm.specs.Limits.{herds_most}
use Rattle.farm.specs.Labels.{label_ok, same_label}
use Rattle.farm.specs.Herds.{no_herd}
use Rattle.first_refusal.specs.First.{FirstOf}
use Rattle.fits.specs.Fits.{OutOfRange}
use Rattle.checks.specs.Refusals as record-rules
use Rattle.checks.specs.Refusals.{given_at}
use Rattle.farm_calls.specs.Refusals.{AppliesIn}
use Rattle.outputs.specs.Grams.{grams_at}
use Rattle.books.specs.declared.Book.{Book}
use Rattle.books.specs.declared.Step.{Step}
use Rattle.books.specs.declared.Step.TheVariants.{Add, Replace, Remove}
use Rattle.books.specs.declared.StepRefusal.{StepRefusal}
use Rattle.books.specs.declared.StepRefusal.TheVariants as gives
use Rattle.books.specs.declared.StepRefusal.TheVariants.{NotPresent, TotalTooLarge}
use Rattle.books.specs.Rules.{total_most, Decided, Done}

-- ---- the steps that a refusal is of

-- "(replace, remove)": those that name a herd of the farm
pub data NamesOne : Step → Type 0 where
  replacing : NamesOne Replace
  removing : NamesOne Remove

-- "(add, replace)": those that bring a herd
pub data BringsOne : Step → Type 0 where
  adding : BringsOne Add
  replacing : BringsOne Replace

-- "(add)"
pub data AddsOne : Step → Type 0 where
  adding : AddsOne Add

-- ---- a step's own refusals

-- one of the farm's herds has the label of this one, at this place
pub record NamedAt (array : List Herd) (count : ℕ) (h : Herd) (place : ℕ) : Type 0 where
  pub inside : place < count
  pub there : place < length array
  pub same : same_label (get_or array place no_herd).label h.label ≡ true

-- "9 when the array or the 512 is full" (02, W12)
pub data Full (array : List Herd) (count : ℕ) : Type 0 where
  the_array : length array ≤ count → Full array count
  the_most : herds_most ≤ count → Full array count

-- 16 of the total of some number, 12 and 7 of some slot
pub data AppliesToStep (array : List Herd) (book : Book) (step : Step) (h : Herd) : StepRefusal → Type 0 where
  too_large : (n : ℕ) → total_most < nat_abs (grams_at book.totals.grams n)
      → AppliesToStep array book step h TotalTooLarge
  bad_label : label_ok h.label ≡ false → AppliesToStep array book step h (gives.Record BadLabel)
  not_present : NamesOne step → ((place : ℕ) → NamedAt array book.count h place → ⊥)
      → AppliesToStep array book step h NotPresent
  present : {place : ℕ} → AddsOne step → NamedAt array book.count h place
      → AppliesToStep array book step h (gives.Record EarlierLabel)
  full : AddsOne step → Full array book.count → AppliesToStep array book step h (gives.Record NoRoomForHerd)
  input_missing : {slot : ℕ} → BringsOne step → slot < count_of h.kind → given_at h slot ≡ Missing
      → AppliesToStep array book step h (gives.Record InputMissing)
  bad_value : {slot : ℕ} → BringsOne step → slot < count_of h.kind
      → OutOfRange (form_of h.kind slot) (given_at h slot) → AppliesToStep array book step h (gives.Record BadValue)

-- their order
pub data Turn : StepRefusal → ℕ → Type 0 where
  total : Turn TotalTooLarge 0
  label : Turn (gives.Record BadLabel) 1
  not_present : Turn NotPresent 2
  present : Turn (gives.Record EarlierLabel) 3
  room : Turn (gives.Record NoRoomForHerd) 4
  missing : Turn (gives.Record InputMissing) 5
  value : Turn (gives.Record BadValue) 6

-- ---- all of them

-- what is wrong: something of the farm's record, or of the step; and the refusal that it is told by
pub data Fault : Type 0 where
  of_farm : Refusal → Fault
  of_step : StepRefusal → Fault

abbrev pub told_by : Fault → StepRefusal
told_by (of_farm refusal) = gives.Record refusal
told_by (of_step refusal) = refusal

-- it applies; of the farm's record at this place of its herds
pub data AppliesTo (array : List Herd) (book : Book) (step : Step) (h : Herd) : ℕ → Fault → Type 0 where
  to_farm : {place : ℕ} {refusal : Refusal} → AppliesIn array book.count place refusal
      → AppliesTo array book step h place (of_farm refusal)
  to_step : {refusal : StepRefusal} → AppliesToStep array book step h refusal
      → AppliesTo array book step h 0 (of_step refusal)

pub data Sooner : ℕ → Fault → ℕ → Fault → Type 0 where
  within_farm : {m n : ℕ} {refusal other : Refusal} → record-rules.Sooner m refusal n other
      → Sooner m (of_farm refusal) n (of_farm other)
  farm_first : {m n : ℕ} {refusal : Refusal} {other : StepRefusal} → Sooner m (of_farm refusal) n (of_step other)
  in_that_order : {m n s t : ℕ} {refusal other : StepRefusal} → Turn refusal s → Turn other t → s < t
      → Sooner m (of_step refusal) n (of_step other)

-- the first refusal: what it tells of applies, and nothing that applies is sooner
pub record FirstOfStep (array : List Herd) (book : Book) (step : Step) (h : Herd) (refusal : StepRefusal)
    : Type 0 where
  pub place : ℕ
  pub fault : Fault
  pub told : told_by fault ≡ refusal
  pub is_first : FirstOf (AppliesTo array book step h) Sooner place fault

-- what is decided: that none applies; or the first
pub data StepGets (array : List Herd) (book : Book) (step : Step) (h : Herd) : Decided → Type 0 where
  done : ((place : ℕ) (fault : Fault) → AppliesTo array book step h place fault → ⊥) → StepGets array book step h Done
  gets_refusal : {refusal : StepRefusal} → FirstOfStep array book step h refusal
      → StepGets array book step h (Err refusal)
