-- What is true of every accepted record and plain to say, over the figures by name (proofs/Truths.antt).
use Rattle.std.specs.Prelude.{ℕ, ◌*◌, ◌≤◌, ◌<◌, ◌≡◌, List, ◌++◌, map, take, ℤ, nat_abs, pos, ◌≤ℤ◌}
use Prim.Native.String.{String}
use Rattle.base.specs.Each.{Each}
use Rattle.tables.specs.Growth.{k_of}
use Rattle.amounts.specs.Arithmetic.{cutting}
use Rattle.amounts.specs.Units.{billionths}
use Rattle.kinds.specs.declared.Roughage.{Roughage}
use Rattle.kinds.specs.declared.Inputs.{Inputs}
use Rattle.kinds.specs.declared.Inputs.TheVariants as typed
use Rattle.inputs.specs.declared.Kind.TheVariants.{Cattle}
use Rattle.inputs.specs.Inputs.{rows_of, count_of}
use Rattle.farm.specs.declared.Herd.{Herd}
use Rattle.typed_inputs.specs.Typed.{place_named, given_at}
use Rattle.pasture.specs.Pasture.{GrazingIn}
use Rattle.housing.specs.Housing.{HousingIn, c_grazing, ef_nh3_nhousing, uncapped}
use Rattle.pig_house.specs.PigHouse.{PigHouseIn}
use Rattle.pig_house.specs.NxOx.{NxOxIn}
use Rattle.outputs.specs.declared.Figures.{Figures}
use Rattle.outputs.specs.Names.{Field, grazing, housing, pig_house, nx_ox}
use Rattle.outputs.specs.Grams.{figure}

-- no more TAN than N at excretion, on the yard and on the pasture. Not so into the housing: by the cuts the TAN of
-- cattle can be a gram above the N there (specs/Edges.antt has such a herd)
pub record TanInN (f : Figures) : Type 0 where
  pub excreted : figure "tan_excretion" f ≤ℤ figure "n_excretion" f
  pub on_yard_within : figure "tan_into_yard" f ≤ℤ figure "n_into_yard" f
  pub on_pasture_within : figure "tan_into_grazing" f ≤ℤ figure "n_into_grazing" f

-- a herd's free factor
abbrev pub free_of : Inputs → ℤ
free_of (typed.Roughage r) = r.free_correction_factor
free_of (typed.Cattle c) = c.outdoor.free_correction_factor
free_of (typed.Pigs p) = p.free_correction_factor

-- a factor below 0.73, so that the ceiling of 1 is not reached
pub record BelowCeiling (r : Roughage) : Type 0 where
  pub factor_most : ef_nh3_nhousing cutting r < 730000000
  pub no_ceiling : ef_nh3_nhousing cutting r ≡ uncapped cutting r

-- 2.87 and 2.85: 1 ≤ c ≤ k, and before the ceiling a factor below 1.46; below 0.73 where the free factor is not below
-- zero (02, W3)
pub record InHousing (r : Roughage) : Type 0 where
  pub c_least : billionths ≤ c_grazing cutting r.grazing_days r.grazing_hours
  pub c_most : c_grazing cutting r.grazing_days r.grazing_hours ≤ k_of r.grazing_hours
  pub before_ceiling : uncapped cutting r < 1460000000
  pub not_raised : (free : ℕ) → r.free_correction_factor ≡ pos free → BelowCeiling r

-- the housing emits no more TAN than goes in, and at most 0.73 of it where the free factor is not below zero
abbrev pub EmitsNoMore : Figures → Type 0
EmitsNoMore f = nat_abs (figure "nh3_nhousing" f) ≤ nat_abs (figure "tan_into_housing" f)

abbrev pub EmitsPart : Figures → Type 0
EmitsPart f = 100 * nat_abs (figure "nh3_nhousing" f) ≤ 73 * nat_abs (figure "tan_into_housing" f)

-- two records of cattle, or of dairy cows, that say the same of every input but the yard days, which have one place in
-- both lists
abbrev pub SameButYardDays : Herd → Herd → Type 0
SameButYardDays h g =
    (place : ℕ) → (place ≡ place_named "yard_days" (rows_of Cattle) → ⊥) → given_at g place ≡ given_at h place

-- two records that differ at most in the slots behind the inputs of their kind
pub record SameInFront (h g : Herd) : Type 0 where
  pub label : g.label ≡ h.label
  pub kind : g.kind ≡ h.kind
  pub front : take (count_of h.kind) g.slots ≡ take (count_of h.kind) h.slots

-- none of the section's figures is above 0 or below
abbrev pub Nothing : List String → Figures → Type 0
Nothing names f = Each (λ t. figure t f ≡ pos 0) names

abbrev pub pasture_names : List String
pasture_names = map (λ (x : Field GrazingIn). x.text) grazing

abbrev pub housing_names : List String
housing_names = map (λ (x : Field HousingIn). x.text) housing

-- what goes into a house, comes of it and leaves it, the gases of its fractions too (02, W1)
abbrev pub house_names : List String
house_names =
    housing_names ++ map (λ (x : Field PigHouseIn). x.text) pig_house ++ map (λ (x : Field NxOxIn). x.text) nx_ox

-- none of these is below zero
abbrev pub NotBelowZero : List String → Figures → Type 0
NotBelowZero names f = Each (λ t. pos 0 ≤ℤ figure t f) names
