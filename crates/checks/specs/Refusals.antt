-- 01, Refusal numbers, of a record that is handed in: when each refusal applies, said of the record and not of how it
-- is checked, and which is the first. proofs/Refuses.antt shows that the checks give exactly that one. To be believed.
use Rattle.std.specs.Prelude.{ℕ, ◌<◌, ◌≡◌, true, false, List, [], ◌∷◌, length, get_or, take}
use Rattle.inputs.specs.Inputs.{count_of, form_of}
use Rattle.farm.specs.declared.Given.{Given}
use Rattle.farm.specs.declared.Given.TheVariants.{Missing}
use Rattle.farm.specs.declared.Herd.{Herd}
use Rattle.farm.specs.declared.Farm.{Farm}
use Rattle.farm.specs.declared.Refusal.{Refusal}
use Rattle.farm.specs.declared.Refusal.TheVariants.{BadLabel, BadValue, EarlierLabel, NoRoomForHerd, InputMissing}
use Rattle.farm.specs.Limits.{herds_most}
use Rattle.farm.specs.Labels.{label_ok, same_label}
use Rattle.farm.specs.Herds.{no_slot, no_herd}
use Rattle.farm.specs.Answers.{Accepted, Checked}
use Rattle.first_refusal.specs.First.{FirstOf}
use Rattle.fits.specs.Fits.{OutOfRange}
use Rattle.checks.specs.Checks.{check_herd, herds_of, check_farm}
use Rattle.base.specs.Refused.{refuse}

-- ---- 4, 8, 12, 7, of the herd h that stands behind these

-- what the herd's slot says
abbrev pub given_at : Herd → ℕ → Given
given_at h slot = (get_or h.slots slot no_slot).given

pub data Applies (before : List Herd) (h : Herd) : Refusal → Type 0 where
  bad_label : label_ok h.label ≡ false → Applies before h BadLabel
  has_earlier_label : {i : ℕ} → i < length before → same_label (get_or before i no_herd).label h.label ≡ true
      → Applies before h EarlierLabel
  input_missing : {slot : ℕ} → slot < count_of h.kind → given_at h slot ≡ Missing → Applies before h InputMissing
  bad_value : {slot : ℕ} → slot < count_of h.kind → OutOfRange (form_of h.kind slot) (given_at h slot)
      → Applies before h BadValue

-- ---- a record's refusals

-- a record that is handed in, its herds, and what its checks say
pub data Handed : Type 0 where
  herd : Herd → Handed
  farm : Farm → Handed

abbrev pub herds_in : Handed → List Herd
herds_in (herd h) = h ∷ []
herds_in (farm f) = herds_of f

abbrev pub check_of : Handed → Checked
check_of (herd h) = check_herd h
check_of (farm f) = check_farm f

-- the refusal applies to the record, at this place of its herds, from 0 on; 9 at the first
pub data AppliesAt : Handed → ℕ → Refusal → Type 0 where
  no_room : {f : Farm} → herds_most < f.count → AppliesAt (farm f) 0 NoRoomForHerd
  of_herd : {x : Handed} {i : ℕ} {refusal : Refusal} → i < length (herds_in x)
      → Applies (take i (herds_in x)) (get_or (herds_in x) i no_herd) refusal → AppliesAt x i refusal

-- "For a herd: 4 .., 12 .., 7 .., in that order. For a farm: 9 more than 64 herds, then herd by herd 4, 8 .., 12, 7":
-- the turn of each
pub data Turn : Refusal → ℕ → Type 0 where
  room : Turn NoRoomForHerd 0
  label : Turn BadLabel 1
  earlier : Turn EarlierLabel 2
  missing : Turn InputMissing 3
  value : Turn BadValue 4

pub data Sooner : ℕ → Refusal → ℕ → Refusal → Type 0 where
  herd_by_herd : {m n : ℕ} {refusal other : Refusal} → m < n → Sooner m refusal n other
  in_that_order : {n s t : ℕ} {refusal other : Refusal} → Turn refusal s → Turn other t → s < t
      → Sooner n refusal n other

-- the first refusal: it applies, and none that applies is sooner
pub record FirstOfRecord (x : Handed) (refusal : Refusal) : Type 0 where
  pub place : ℕ
  pub is_first : FirstOf (AppliesAt x) Sooner place refusal

-- what its checks say: that none applies; or the first, "always with record 0"
pub data RecordGets (x : Handed) : Checked → Type 0 where
  fine : ((place : ℕ) (refusal : Refusal) → AppliesAt x place refusal → ⊥) → RecordGets x Accepted
  gets_refusal : {refusal : Refusal} → FirstOfRecord x refusal → RecordGets x (refuse refusal 0)
