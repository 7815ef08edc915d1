-- 2.52 to 2.62, what the names of a pig house stand for: the values of the Technical Parameters, by the page's decimals
-- (crate `printed_numbers`). To be believed.
use Rattle.std.specs.Prelude.{ℕ, ◌*◌}
use Rattle.kinds.specs.declared.HousingType.{HousingType}
use Rattle.kinds.specs.declared.HousingType.TheVariants as housed
use Rattle.kinds.specs.declared.AirScrubber.{AirScrubber}
use Rattle.kinds.specs.declared.AirScrubber.TheVariants as scrubber
use Rattle.kinds.specs.declared.HousingFloor.{HousingFloor}
use Rattle.kinds.specs.declared.HousingFloor.TheVariants as floor
use Rattle.kinds.specs.declared.HousingAir.{HousingAir}
use Rattle.kinds.specs.declared.HousingAir.TheVariants as air
use Rattle.pig_house.specs.declared.NxOxRates.{NxOxRates}
use Rattle.pig_house.specs.declared.HousingRow.{HousingRow}

-- a thousandth and a hundredth, in billionths
abbrev pub thousandth : ℕ
thousandth = 1_000_000

abbrev pub hundredth : ℕ
hundredth = 10_000_000

-- ---- 2.62, in ten-thousandths

-- of N2, NO and N2O, from the solid fraction and from the liquid one
abbrev pub nxox_rates : ℕ → ℕ → ℕ → ℕ → ℕ → ℕ → NxOxRates
nxox_rates n2s nos n2os n2l nol n2ol =
    record {
      er_n2_nsolid = n2s;
      er_no_nsolid = nos;
      er_n2o_nsolid = n2os;
      er_n2_nliquid = n2l;
      er_no_nliquid = nol;
      er_n2o_nliquid = n2ol;
    }

-- er_…_solid_Slurry and er_…_liquid_Slurry
abbrev pub slurry_rates : NxOxRates
slurry_rates = nxox_rates 200 20 20 200 20 20

-- er_…_solid_Solid and er_…_liquid_Solid
abbrev pub solid_rates : NxOxRates
solid_rates = nxox_rates 500 100 100 500 100 100

-- outdoors 0
abbrev pub no_rates : NxOxRates
no_rates = nxox_rates 0 0 0 0 0 0

-- ---- the types of housing, a row each, under its section: er in thousandths and share_liquid, all or nothing, of that
-- section, share_indoor of 2.52, in tenths, and the rates of the gases

infix 68 er◌liquid◌indoor◌gases◌
abbrev er◌liquid◌indoor◌gases◌ : ℕ → ℕ → ℕ → NxOxRates → HousingRow
er rate liquid share indoor tenths gases rates =
    record { er = rate; share_liquid = share; share_indoor = tenths; rates = rates }

abbrev pub row_of : HousingType → HousingRow
row_of housed.SlurryConventional = er 243 liquid 1 indoor 10 gases slurry_rates  -- 2.53
row_of housed.SlurryLabel = er 486 liquid 1 indoor 5 gases slurry_rates  -- 2.54
row_of housed.SlurryLabelOpen = er 340 liquid 1 indoor 5 gases slurry_rates  -- 2.55
row_of housed.DeepLitter = er 486 liquid 0 indoor 10 gases solid_rates  -- 2.56
row_of housed.Outdoor = er 0 liquid 0 indoor 10 gases no_rates  -- 2.57

abbrev pub share_liquid : HousingType → ℕ
share_liquid t = (row_of t).share_liquid

abbrev pub share_indoor : HousingType → ℕ
share_indoor t = (row_of t).share_indoor

abbrev pub rates_of : HousingType → NxOxRates
rates_of t = (row_of t).rates

-- 2.52, er_housing, in billionths
abbrev pub er_housing : HousingType → ℕ
er_housing t = (row_of t).er * thousandth

-- ---- the other names

-- 2.52, c_area: animal places count as equal to the animals (02, W1), so area_increase is 0
abbrev pub c_area : ℕ
c_area = 1

-- 2.58, red_air_scrubber, in tenths
abbrev pub red_air_scrubber : AirScrubber → ℕ
red_air_scrubber scrubber.Acid = 9
red_air_scrubber scrubber.Biotrickling = 7
red_air_scrubber scrubber.None = 0

-- 2.59, red_housing_floor: no selection is available
abbrev pub red_housing_floor : HousingFloor → ℕ
red_housing_floor floor.None = 0

-- 2.59, red_housing_air, in tenths
abbrev pub red_housing_air : HousingAir → ℕ
red_housing_air air.LowImpulsAirSupply = 2
red_housing_air air.None = 0
