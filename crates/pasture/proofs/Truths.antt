-- 2.35, 2.61 and 2.88 in plain words: no more TAN than N comes onto a pasture; where no yard is available the yard days
-- change nothing there; 01's wording of the share on days with both comes to the same; outdoor pigs put all on pasture
-- and leave nothing for the housing, and housed pigs put nothing there. Assumes nothing.
use mathlib.Core.Path.{◌≡◌, refl, ap}
use Prim.Native.Nat.{ℕ, ◌+◌, ◌-◌, ◌*◌, ◌/◌, ◌≤◌}
use native.Mathlib.Nat.{le_refl}
use native.Mathlib.Omega.{arith}
use Rattle.cut_division.proofs.Shares.{part_mono}
use Rattle.amounts.specs.Units.{tenths, year, day}
use Rattle.amounts.specs.Arithmetic.{Arithmetic, cutting}
use Rattle.kinds.specs.declared.ExerciseYard.TheVariants.{NotAvailable}
use Rattle.kinds.specs.declared.Outdoor.{Outdoor}
use Rattle.kinds.specs.declared.Roughage.{Roughage}
use Rattle.kinds.specs.declared.HousingType.{HousingType}
use Rattle.kinds.specs.declared.HousingType.TheVariants as housed
use Rattle.kinds.specs.Sound.{SoundOutdoor}
use Rattle.rates.specs.declared.Rates.{Rates}
use Rattle.yard.specs.Yard.{days_with_grazing_and_yard, share_on_both}
use Rattle.yard.proofs.Times.{is-both}
use Rattle.yard.proofs.Truths.{not_available_shared, worded}
use Rattle.pasture.specs.Pasture.{
  outdoor_grazing_time,
  roughage_grazing_time,
  pigs_into_grazing,
  after_gases,
  outdoor_grazing,
  roughage_grazing,
  pigs_grazing,
}

-- ---- TAN and N

module _ (n tan : ℕ) (h : tan ≤ n) where
  same-share : (shares of : ℕ) → tan * shares / of ≤ n * shares / of
  same-share shares of = part_mono of h (le_refl shares)

  pub tan_into_outdoor-grazing_in_n : (r : Rates) (o : Outdoor)
      → (outdoor_grazing cutting r o n tan).tan_into_grazing ≤ (outdoor_grazing cutting r o n tan).n_into_grazing
  tan_into_outdoor-grazing_in_n r o = same-share (outdoor_grazing_time o) (day * (tenths * year))

  pub tan_into_roughage-grazing_in_n : (r : Roughage)
      → (roughage_grazing cutting r n tan).tan_into_grazing ≤ (roughage_grazing cutting r n tan).n_into_grazing
  tan_into_roughage-grazing_in_n r = same-share (roughage_grazing_time r) (day * year)

  pub tan_into_pigs-grazing_in_n : (t : HousingType)
      → (pigs_grazing cutting t n tan).tan_into_grazing ≤ (pigs_grazing cutting t n tan).n_into_grazing
  tan_into_pigs-grazing_in_n housed.Outdoor = h
  tan_into_pigs-grazing_in_n housed.SlurryConventional = le_refl 0
  tan_into_pigs-grazing_in_n housed.SlurryLabel = le_refl 0
  tan_into_pigs-grazing_in_n housed.SlurryLabelOpen = le_refl 0
  tan_into_pigs-grazing_in_n housed.DeepLitter = le_refl 0

-- ---- not_available

abbrev pub with_yard_days : ℕ → Outdoor → Outdoor
with_yard_days days o =
    record {
      yard_days = days;
      exercise_yard = o.exercise_yard;
      floor_properties_exercise_yard = o.floor_properties_exercise_yard;
      free_correction_factor = o.free_correction_factor;
      grazing_days = o.grazing_days;
      grazing_hours = o.grazing_hours;
    }

still-sound : (o : Outdoor) (days : ℕ) → SoundOutdoor o → days ≤ year → SoundOutdoor (with_yard_days days o)
still-sound o days s h = record { yard = h; free = s.free; days = s.days; hours = s.hours }

not_available_time : (o : Outdoor) → SoundOutdoor o → o.exercise_yard ≡ NotAvailable
    → outdoor_grazing_time o ≡ o.grazing_hours * (o.grazing_days * tenths)
unfolding outdoor_grazing_time
not_available_time o s none =
    let b = is-both o s (days_with_grazing_and_yard o) refl in
    rw (not_available_shared o none) (ap (λ (x : ℕ). o.grazing_hours * x) (omega (arith, b.in_grazing)))

pub not_available_same-pasture : (A : Arithmetic) (r : Rates) (o : Outdoor) (days : ℕ) (n tan : A.Amount)
    → SoundOutdoor o → days ≤ year → o.exercise_yard ≡ NotAvailable
    → outdoor_grazing A r (with_yard_days days o) n tan ≡ outdoor_grazing A r o n tan
not_available_same-pasture A r o days n tan s h none =
    rw (not_available_time o s none, not_available_time (with_yard_days days o) (still-sound o days s h) none) refl

-- ---- the share on days with both, as 01 words it

pub grazing_time_worded : (o : Outdoor)
    → let both = days_with_grazing_and_yard o in
    outdoor_grazing_time o
    ≡ o.grazing_hours
    * ((o.grazing_days - both) * tenths + (tenths - share_on_both o.exercise_yard) * both)
unfolding outdoor_grazing_time
grazing_time_worded o =
    let both = days_with_grazing_and_yard o in
    ap (λ (x : ℕ). o.grazing_hours * ((o.grazing_days - both) * tenths + x)) (worded o (λ s. tenths - s))

-- ---- pigs

pub outdoor-pigs-all : (A : Arithmetic) (amount : A.Amount) → pigs_into_grazing A housed.Outdoor amount ≡ amount
outdoor-pigs-all A amount = refl

pub outdoor-pigs_leave_nothing : (n : ℕ) → n - pigs_into_grazing cutting housed.Outdoor n ≡ 0
outdoor-pigs_leave_nothing n = omega arith

pub housed-pigs-nothing : (A : Arithmetic) (t : HousingType) (amount : A.Amount) → (t ≡ housed.Outdoor → ⊥)
    → pigs_into_grazing A t amount ≡ A.whole 0
housed-pigs-nothing A housed.Outdoor amount h = absurd (h refl)
housed-pigs-nothing A housed.SlurryConventional amount h = refl
housed-pigs-nothing A housed.SlurryLabel amount h = refl
housed-pigs-nothing A housed.SlurryLabelOpen amount h = refl
housed-pigs-nothing A housed.DeepLitter amount h = refl

-- so none of their figures on pasture is above 0
pub housed-pigs-no-pasture : (t : HousingType) (n tan : ℕ) → (t ≡ housed.Outdoor → ⊥)
    → pigs_grazing cutting t n tan ≡ after_gases cutting 0 0 0 0 0 0
housed-pigs-no-pasture t n tan h = rw (housed-pigs-nothing cutting t n h, housed-pigs-nothing cutting t tan h) refl
