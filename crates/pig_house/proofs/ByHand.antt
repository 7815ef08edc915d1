-- Six pig houses worked out by hand from 2.51 to 2.62, with the decimals of the page. The factors come out exactly, so
-- the order of the products shows in tan_air_scrubber alone: share_indoor × red_air_scrubber × tan_excretion ×
-- ef_housing_indoor_before_air_scrubber, each product cut. Every order in which that last factor comes earlier, and one
-- cut at the end, gives `worked-label` another gram. share_indoor × tan_excretion × red_air_scrubber, and then that
-- factor, gives `worked-label_lighter` another one. red_air_scrubber × tan_excretion × share_indoor, and then it, gives
-- no herd another: share_indoor is a half or 1, and half of a cut number, cut, is half of the number, cut. Assumes
-- nothing.
use mathlib.Core.Path.{◌≡◌, refl}
use Prim.Native.Nat.{ℕ}
use lib.IntN.{ℤ, pos, negsuc}
use Rattle.amounts.specs.Arithmetic.{cutting}
use Rattle.kinds.specs.declared.HousingType.{HousingType}
use Rattle.kinds.specs.declared.HousingType.TheVariants as housed
use Rattle.kinds.specs.declared.AirScrubber.{AirScrubber}
use Rattle.kinds.specs.declared.AirScrubber.TheVariants as scrubber
use Rattle.kinds.specs.declared.HousingFloor.TheVariants as floor
use Rattle.kinds.specs.declared.HousingAir.{HousingAir}
use Rattle.kinds.specs.declared.HousingAir.TheVariants as air
use Rattle.kinds.specs.declared.Pigs.{Pigs}
use Rattle.housing.specs.Housing.{HousingIn}
use Rattle.pig_house.specs.PigHouse.{PigHouseIn, pig_housing, pig_house}
use Rattle.pig_house.specs.NxOx.{NxOxIn, nx_ox}

-- 97 pigs by the grams a head, with 70 percent TAN
abbrev herd : ℕ → HousingType → AirScrubber → HousingAir → ℤ → Pigs
herd grams t s a free =
    record {
      animals = 97;
      inp_n_excretion = grams;
      tan_fraction = 7000;
      housing_type = t;
      air_scrubber = s;
      mitigation_housing_floor = floor.None;
      mitigation_housing_air = a;
      free_correction_factor = free;
    }

-- a house by its figures: what goes into it, N and TAN, nh3_nhousing, and what leaves it, N and TAN
abbrev through : ℕ → ℕ → ℕ → ℕ → ℕ → HousingIn cutting
through n tan nh3 n_out tan_out =
    record {
      n_into_housing = n;
      tan_into_housing = tan;
      nh3_nhousing = nh3;
      n_outhousing = n_out;
      tan_outhousing = tan_out;
    }

-- tan_air_scrubber, and the liquid and the solid fraction, N and TAN
abbrev fractions : ℕ → ℕ → ℕ → ℕ → ℕ → PigHouseIn cutting
fractions scrubbed n_liquid tan_liquid n_solid tan_solid =
    record {
      tan_air_scrubber = scrubbed;
      n_outhousing_liquid = n_liquid;
      tan_outhousing_liquid = tan_liquid;
      n_outhousing_solid = n_solid;
      tan_outhousing_solid = tan_solid;
    }

-- N2, NO and N2O of the solid fraction, and of the liquid one
abbrev gases : ℕ → ℕ → ℕ → ℕ → ℕ → ℕ → NxOxIn cutting
gases n2s nos n2os n2l nol n2ol =
    record {
      n2_nsolid = n2s;
      no_nsolid = nos;
      n2o_nsolid = n2os;
      n2_nliquid = n2l;
      no_nliquid = nol;
      n2o_nliquid = n2ol;
    }

-- the three parts of a worked house, into which all that the herd excretes goes
pub record Worked (p : Pigs) (house : HousingIn cutting) (q : PigHouseIn cutting) (x : NxOxIn cutting) : Type 0 where
  pub housing : let tan = house.tan_into_housing in pig_housing cutting p tan house.n_into_housing tan ≡ house
  pub pig_house_lem : let tan = house.tan_into_housing in pig_house cutting p tan house.n_into_housing tan ≡ q
  pub nxox : nx_ox cutting p.housing_type house.n_into_housing ≡ x

-- ef_nh3_nhousing is 0.243 × 0.1, 0.024 3; the acid keeps nothing
pub worked_conventional :
    Worked (herd 11_025 housed.SlurryConventional scrubber.Acid air.None (pos 0))
    (through 1_069_425 748_597 18_190 1_051_235 730_407)
    (fractions 0 1_051_235 730_407 0 0)
    (gases 0 0 0 21_388 2_138 2_138)
worked_conventional = record { housing = refl; pig_house_lem = refl; nxox = refl }

-- before the scrubber 0.243 × 1.25, 0.303 75; ef_nh3_nhousing is 0.3 × that, 0.091 125; all is indoors, so the filter
-- keeps 0.7 of the TAN, 524,017 g, times 0.303 75
pub worked_conventional_filter :
    Worked (herd 11_025 housed.SlurryConventional scrubber.Biotrickling air.None (negsuc 24))
    (through 1_069_425 748_597 68_215 842_040 521_212)
    (fractions 159_170 842_040 521_212 0 0)
    (gases 0 0 0 21_388 2_138 2_138)
worked_conventional_filter = record { housing = refl; pig_house_lem = refl; nxox = refl }

-- before the scrubber 0.486 × 0.93 × 0.8, 0.361 584; ef_nh3_nhousing is 0.5 × 0.3 × that + 0.5 × 0.486 × 0.93,
-- 0.280 227 6; the filter keeps 0.35 of the TAN, 262,008 g, times 0.361 584
pub worked-label :
    Worked (herd 11_025 housed.SlurryLabel scrubber.Biotrickling air.LowImpulsAirSupply (pos 7))
    (through 1_069_425 748_597 209_777 764_911 444_083)
    (fractions 94_737 764_911 444_083 0 0)
    (gases 0 0 0 21_388 2_138 2_138)
worked-label = record { housing = refl; pig_house_lem = refl; nxox = refl }

-- the same house with 11,008 g a head: the filter keeps 0.35 of the TAN, 261,605 g, times 0.361 584; 0.7 of half the
-- TAN, cut, would be 261,604 g
pub worked-label_lighter :
    Worked (herd 11_008 housed.SlurryLabel scrubber.Biotrickling air.LowImpulsAirSupply (pos 7))
    (through 1_067_776 747_443 209_454 763_730 443_397)
    (fractions 94_592 763_730 443_397 0 0)
    (gases 0 0 0 21_355 2_135 2_135)
worked-label_lighter = record { housing = refl; pig_house_lem = refl; nxox = refl }

-- before the scrubber 0.34 × 0.88, 0.299 2; ef_nh3_nhousing is 0.5 × 0.3 × that + 0.5 × that, 0.194 48; the filter
-- keeps 262,008 g times 0.299 2
pub worked-label_open :
    Worked (herd 11_025 housed.SlurryLabelOpen scrubber.Biotrickling air.None (pos 12))
    (through 1_069_425 748_597 145_587 845_446 524_618)
    (fractions 78_392 845_446 524_618 0 0)
    (gases 0 0 0 21_388 2_138 2_138)
worked-label_open = record { housing = refl; pig_house_lem = refl; nxox = refl }

-- ef_nh3_nhousing is 0.486 × 0.65 × 0.8, 0.252 72; all leaves the house as solid manure
pub worked_deep_litter :
    Worked (herd 11_025 housed.DeepLitter scrubber.None air.LowImpulsAirSupply (pos 35))
    (through 1_069_425 748_597 189_185 880_240 559_412)
    (fractions 0 0 0 880_240 559_412)
    (gases 53_471 10_694 10_694 0 0 0)
worked_deep_litter = record { housing = refl; pig_house_lem = refl; nxox = refl }
