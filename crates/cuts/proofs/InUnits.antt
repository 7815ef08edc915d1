-- 02, W7: the cuts that a herd carries are those of the table, name by name, with its dividends and its divisors.
-- Assumes nothing.
use Prim.Native.Nat.{◌-◌, ◌*◌}
use mathlib.Core.Path.{◌≡◌, refl, ap, ◌∙◌}
use mathlib.Core.Bool.{Bool, true, false}
use mathlib.Core.List.{map}
use lib.Dec.{ltb}
use Rattle.amounts.specs.Units.{year, day}
use Rattle.kinds.specs.declared.Roughage.{Roughage}
use Rattle.kinds.specs.declared.HousingType.{HousingType}
use Rattle.kinds.specs.declared.AirScrubber.{AirScrubber}
use Rattle.kinds.specs.declared.AirScrubber.TheVariants as scrubber
use Rattle.kinds.specs.declared.Pigs.{Pigs}
use Rattle.kinds.specs.declared.Inputs.{Inputs}
use Rattle.kinds.specs.declared.Inputs.TheVariants as kinds
use Rattle.pasture.specs.Pasture.{roughage_grazing_time}
use Rattle.pig_house.specs.Parameters.{share_liquid}
use Rattle.cuts.specs.Herd.{made_names, cuts_of}
use Rattle.cuts.specs.Divisions.{carried, cuts_carried}
use Rattle.cuts.specs.InUnits.{cuts_in_units}
use Rattle.cuts.proofs.AddUp.{cuts-named}
use Rattle.cuts.proofs.Agree.{shared-whole}

-- the cuts under the names of the herd's list
abbrev Listed : Inputs → Type 0
Listed i = map (carried i (cuts_of i)) (made_names i) ≡ cuts_in_units i

roughage-listed : (r : Roughage) (b : Bool) → ltb (r.grazing_days * r.grazing_hours) (year * day) ≡ b
    → Listed (kinds.Roughage r)
unfolding cuts_of roughage_grazing_time
roughage-listed r true e = rw (e, e) refl
roughage-listed r false e = rw (e, e) refl

-- pigs in a house of this type, with this scrubber
abbrev pub housed_in : HousingType → AirScrubber → Pigs → Pigs
housed_in t s p =
    record {
      animals = p.animals;
      inp_n_excretion = p.inp_n_excretion;
      tan_fraction = p.tan_fraction;
      housing_type = t;
      air_scrubber = s;
      mitigation_housing_floor = p.mitigation_housing_floor;
      mitigation_housing_air = p.mitigation_housing_air;
      free_correction_factor = p.free_correction_factor;
    }

pigs-listed : (t : HousingType) (s : AirScrubber) (p : Pigs) → Listed (kinds.Pigs (housed_in t s p))
unfolding cuts_of
pigs-listed t scrubber.Acid p = rw (shared-whole (share_liquid t) _, shared-whole (1 - share_liquid t) _) refl
pigs-listed t scrubber.Biotrickling p =
    rw (shared-whole (share_liquid t) _, shared-whole (1 - share_liquid t) _) refl
pigs-listed t scrubber.None p = rw (shared-whole (share_liquid t) _, shared-whole (1 - share_liquid t) _) refl

listed : (i : Inputs) → Listed i
unfolding cuts_of
listed (kinds.Roughage r) = roughage-listed r _ refl
listed (kinds.Cattle c) = refl
listed (kinds.Pigs p) = pigs-listed p.housing_type p.air_scrubber p

pub cuts_in_units_lem : (i : Inputs) → cuts_carried i (cuts_of i) ≡ cuts_in_units i
cuts_in_units_lem i = ap (map (carried i (cuts_of i))) (cuts-named i) ∙ listed i
