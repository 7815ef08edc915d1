-- 01, Refusal numbers: when each refusal applies, said of a file's records and not of how they are read, and which is
-- the first. proofs/Refuses.antt shows that the reader gives exactly that one. To be believed.
use Rattle.std.specs.Prelude.{ℕ, ◌+◌, ◌<◌, ◌≡◌, List, [], ◌∷◌, ◌++◌, length, get_or}
use Rattle.base.specs.Each.{Each}
use Rattle.grammar.specs.Grammar.{FileOf, Breaks}
use Rattle.inputs.specs.declared.Kind.{Kind}
use Rattle.inputs.specs.declared.Form.{Form}
use Rattle.inputs.specs.declared.Form.TheVariants.{NoStandard}
use Rattle.inputs.specs.Inputs.{count_of, form_of}
use Rattle.farm.specs.declared.Given.{Given}
use Rattle.farm.specs.declared.Refusal.{Refusal}
use Rattle.farm.specs.declared.Refusal.TheVariants.{
  FileTooLong,
  RecordBroken,
  NotFourFields,
  BadLabel,
  NotInTheList,
  StandardForbidden,
  BadValue,
  EarlierLabel,
  NoRoomForHerd,
  OtherKind,
  GivenAlready,
  InputMissing,
}
use Rattle.farm.specs.Refusals.{number}
use Rattle.limits.specs.declared.Limits.{Limits}
use Rattle.first_refusal.specs.First.{FirstOf}
use Rattle.first_refusal.specs.Records.{Record, RecordAt}
use Rattle.rules_theorems.specs.Lists.{Some, Apart, Last}
use Rattle.rules_theorems.specs.Rules.{GoodLabel, Names, IsStandard, ValueIs}

-- ---- a record's fields; one that is not there is empty

abbrev pub label_text : Record → List ℕ
label_text cs = get_or cs 0 []

abbrev pub value_in : Record → List ℕ
value_in cs = get_or cs 3 []

-- the record names the input
abbrev pub NamesInput : Record → Kind → ℕ → Type 0
NamesInput cs kind slot = Names (get_or cs 1 []) (get_or cs 2 []) kind slot

-- two records have one label
abbrev pub SameLabel : Record → Record → Type 0
SameLabel r cs = label_text r ≡ label_text cs

-- ---- 3 to 11, of the record cs that stands behind these

-- inp_n_excretion and tan_fraction of cattle or pigs, inp_n_excretion of dairy cows (02, W9)
pub data Forbids : Form → Type 0 where
  forbids : {decimals most : ℕ} → Forbids (NoStandard decimals most)

-- as many labels stand among the records as there may be herds
pub record ManyLabels (limits : Limits) (rs : List Record) : Type 0 where
  pub labels : List (List ℕ)
  pub many : length labels ≡ limits.herds
  pub apart : Apart labels
  pub each : Each (λ label. Some (λ r. label_text r ≡ label) rs) labels

pub data Applies (limits : Limits) (before : List Record) (cs : Record) : Refusal → Type 0 where
  not_four_fields : (length cs ≡ 4 → ⊥) → Applies limits before cs NotFourFields
  bad_label : (GoodLabel (label_text cs) → ⊥) → Applies limits before cs BadLabel
  not_in_the_list : ((kind : Kind) (slot : ℕ) → NamesInput cs kind slot → ⊥) → Applies limits before cs NotInTheList
  standard_forbidden : {kind : Kind} {slot : ℕ} → NamesInput cs kind slot → Forbids (form_of kind slot)
      → IsStandard (value_in cs) → Applies limits before cs StandardForbidden
  bad_value : {kind : Kind} {slot : ℕ} → NamesInput cs kind slot
      → ((given : Given) → ValueIs (form_of kind slot) (value_in cs) given → ⊥) → Applies limits before cs BadValue
  has_earlier_label : Some (λ r. SameLabel r cs) before → ((r : Record) → Last before r → SameLabel r cs → ⊥)
      → Applies limits before cs EarlierLabel
  no_room_for_herd : (Some (λ r. SameLabel r cs) before → ⊥) → ManyLabels limits before
      → Applies limits before cs NoRoomForHerd
  other_kind : {r : Record} {own kind : Kind} {i slot : ℕ} → Last before r → SameLabel r cs → NamesInput r own i
      → NamesInput cs kind slot → (own ≡ kind → ⊥)
      → Applies limits before cs OtherKind
  given_already : {kind : Kind} {slot : ℕ} → NamesInput cs kind slot
      → Some (λ r. SameLabel r cs × NamesInput r kind slot) before → Applies limits before cs GivenAlready

-- ---- 12

-- the herd of the record cs lacks an input: there is one of its kind that no record of its label names
pub record Lacks (rs : List Record) (cs : Record) : Type 0 where
  pub kind : Kind
  pub named : ℕ
  pub names : NamesInput cs kind named
  pub slot : ℕ
  pub inside : slot < count_of kind
  pub lacking : Each (λ r. SameLabel r cs → NamesInput r kind slot → ⊥) rs

-- ---- a file's refusals

-- the refusal applies to the file, with this record number; 12 with each record of a herd that lacks an input
pub data AppliesAt (limits : Limits) (s : List ℕ) : ℕ → Refusal → Type 0 where
  too_long : limits.bytes < length s → AppliesAt limits s 0 FileTooLong
  broken : {rs : List Record} → Breaks rs s → AppliesAt limits s (length rs + 1) RecordBroken
  wrong : {before : List Record} {cs : Record} {refusal : Refusal} → RecordAt s before cs
      → Applies limits before cs refusal
      → AppliesAt limits s (length before + 1) refusal
  missing : (before : List Record) (cs : Record) (after : List Record) → FileOf (before ++ (cs ∷ after)) s
      → Lacks (before ++ (cs ∷ after)) cs
      → AppliesAt limits s (length before + 1) InputMissing

-- "1 comes before all; then records from the front, in each 2 to 11 in that order; then 12", which tells the first
-- record of the first such herd
pub data Sooner : ℕ → Refusal → ℕ → Refusal → Type 0 where
  too_long_first : {m n : ℕ} {refusal : Refusal} → number FileTooLong < number refusal → Sooner m FileTooLong n refusal
  from_the_front : {m n : ℕ} {refusal other : Refusal} → number refusal < number InputMissing
      → number other < number InputMissing → m < n → Sooner m refusal n other
  in_that_order : {n : ℕ} {refusal other : Refusal} → number other < number InputMissing → number refusal < number other
      → Sooner n refusal n other
  then_missing : {m n : ℕ} {refusal : Refusal} → number refusal < number InputMissing → Sooner m refusal n InputMissing
  first_herd : {m n : ℕ} → m < n → Sooner m InputMissing n InputMissing

-- the first refusal: it applies, and none that applies is sooner
abbrev pub First : Limits → List ℕ → ℕ → Refusal → Type 0
First limits s n refusal = FirstOf (AppliesAt limits s) Sooner n refusal
