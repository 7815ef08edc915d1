-- The same herd with another number of animals, and other grams of N a head (02, W14): all other inputs stay.
-- Assumes nothing.
use Prim.Native.Nat.{ℕ}
use Rattle.kinds.specs.declared.Entered.{Entered}
use Rattle.kinds.specs.declared.Roughage.{Roughage}
use Rattle.kinds.specs.declared.Cattle.{Cattle}
use Rattle.kinds.specs.declared.Pigs.{Pigs}

abbrev pub grown_roughage : ℕ → Entered → Roughage → Roughage
grown_roughage animals n r =
    record {
      animalcategory = r.animalcategory;
      animals = animals;
      inp_n_excretion = n;
      tan_fraction = r.tan_fraction;
      free_correction_factor = r.free_correction_factor;
      grazing_days = r.grazing_days;
      grazing_hours = r.grazing_hours;
    }

abbrev pub grown_cattle : ℕ → ℕ → Cattle → Cattle
grown_cattle animals n c =
    record {
      kind = c.kind;
      animals = animals;
      inp_n_excretion = n;
      tan_fraction = c.tan_fraction;
      outdoor = c.outdoor;
    }

abbrev pub grown_pigs : ℕ → ℕ → Pigs → Pigs
grown_pigs animals n p =
    record {
      animals = animals;
      inp_n_excretion = n;
      tan_fraction = p.tan_fraction;
      housing_type = p.housing_type;
      air_scrubber = p.air_scrubber;
      mitigation_housing_floor = p.mitigation_housing_floor;
      mitigation_housing_air = p.mitigation_housing_air;
      free_correction_factor = p.free_correction_factor;
    }
