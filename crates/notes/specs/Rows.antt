-- 01, Notes, and those of 02, W3 and W9, on both sides of every edge: herds, and the notes that each gets, by name; of
-- a herd that gets none the list is empty. Row 8 of 01 is among them (Herds on both sides of an edge), and all are
-- lines of the one table of crate `model`, specs/Edges. proofs/Rows.antt computes them from the definitions. To be
-- believed.
use Rattle.std.specs.Prelude.{ℕ, ◌+◌, ◌-◌, Bool, List, [], ◌∷◌, ◌++◌, ◌≡◌, ℤ, pos, ◌-ℤ◌}
use Prim.Native.String.{String}
use Rattle.base.specs.Pick.{pick}
use Rattle.words.specs.Find.{place_in}
use Rattle.names.specs.Names.{categories}
use Rattle.tables.specs.Standards.{◌kg, ◌g}
use Rattle.kinds.specs.declared.Entered.{Entered}
use Rattle.kinds.specs.declared.Entered.TheVariants as entered
use Rattle.kinds.specs.declared.ExerciseYard.{ExerciseYard}
use Rattle.kinds.specs.declared.ExerciseYard.TheVariants.{NotAvailable, NotSupplied, Partly, Exclusively}
use Rattle.kinds.specs.declared.Floor.{Floor}
use Rattle.kinds.specs.declared.Floor.TheVariants.{Solid}
use Rattle.kinds.specs.declared.HousingType.{HousingType}
use Rattle.kinds.specs.declared.HousingType.TheVariants as housed
use Rattle.kinds.specs.declared.AirScrubber.{AirScrubber}
use Rattle.kinds.specs.declared.AirScrubber.TheVariants as scrubbed
use Rattle.kinds.specs.declared.HousingFloor.TheVariants as floored
use Rattle.kinds.specs.declared.HousingAir.{HousingAir}
use Rattle.kinds.specs.declared.HousingAir.TheVariants as aired
use Rattle.kinds.specs.declared.CattleKind.{CattleKind}
use Rattle.kinds.specs.declared.CattleKind.TheVariants.{OtherCattle, DairyCow}
use Rattle.kinds.specs.declared.Outdoor.{Outdoor}
use Rattle.kinds.specs.declared.Inputs.{Inputs}
use Rattle.kinds.specs.declared.Inputs.TheVariants as kinds
use Rattle.notes.specs.declared.Notes.{Notes}
use Rattle.notes.specs.Notes.{notes_of}

-- ---- herds

abbrev cattle_of : CattleKind → ℕ → ℕ → Entered → Outdoor → Inputs
cattle_of kind animals grams tan outdoor =
    kinds.Cattle (record {
      kind = kind;
      animals = animals;
      inp_n_excretion = grams;
      tan_fraction = tan;
      outdoor = outdoor;
    })

-- animals, grams a head and ten-thousandths of TAN, and what is outdoors
abbrev pub cattle : ℕ → ℕ → ℕ → Outdoor → Inputs
cattle animals grams tan outdoor = cattle_of OtherCattle animals grams (entered.Number tan) outdoor

-- the same of dairy cows, whose TAN may be left to the standard
abbrev pub dairy_cows : ℕ → ℕ → Entered → Outdoor → Inputs
dairy_cows = cattle_of DairyCow

-- yard days, the yard, its floor and free factor, grazing days and tenths of an hour
abbrev pub outdoors : ℕ → ExerciseYard → Floor → ℤ → ℕ → ℕ → Outdoor
outdoors yard-days yard floor free days hours =
    record {
      yard_days = yard-days;
      exercise_yard = yard;
      floor_properties_exercise_yard = floor;
      free_correction_factor = free;
      grazing_days = days;
      grazing_hours = hours;
    }

-- 10 head of a category: grams a head and ten-thousandths of TAN as entered, free factor, grazing days and tenths of an
-- hour
abbrev pub roughage : ℕ → Entered → Entered → ℤ → ℕ → ℕ → Inputs
roughage category n tan free days hours =
    kinds.Roughage (record {
      animalcategory = category;
      animals = 10;
      inp_n_excretion = n;
      tan_fraction = tan;
      free_correction_factor = free;
      grazing_days = days;
      grazing_hours = hours;
    })

-- 10 head, grams a head and ten-thousandths of TAN; the type of their house, its scrubber, its air and its free factor
abbrev pub pigs_in : ℕ → ℕ → HousingType → AirScrubber → HousingAir → ℤ → Inputs
pigs_in grams tan housing scrubber air free =
    kinds.Pigs (record {
      animals = 10;
      inp_n_excretion = grams;
      tan_fraction = tan;
      housing_type = housing;
      air_scrubber = scrubber;
      mitigation_housing_floor = floored.None;
      mitigation_housing_air = air;
      free_correction_factor = free;
    })

-- with nothing that lowers an emission
abbrev pub pigs : ℕ → ℕ → HousingType → Inputs
pigs grams tan housing = pigs_in grams tan housing scrubbed.None aired.None (pos 0)

-- a category by its name
abbrev pub category : String → ℕ
category name = place_in categories name

-- ---- a row

-- the notes that say yes, by name
abbrev name_if : Bool → String → List String
name_if flag name = pick flag (name ∷ []) []

abbrev pub names_of : Notes → List String
names_of n =
    name_if n.n_off_standard "n_off_standard"
    ++ name_if n.tan_off_standard "tan_off_standard"
    ++ name_if n.free_factor "free_factor"
    ++ name_if n.share_lowered "share_lowered"
    ++ name_if n.factor_above_1 "factor_above_1"

pub record Row : Type 0 where
  pub herd : Inputs
  pub notes : List String

infix 68 ◌gets◌
abbrev pub ◌gets◌ : Inputs → List String → Row
i gets names = record { herd = i; notes = names }

-- what the theorem says of a row: the herd gets these notes and no other
abbrev pub told : Row → List String
told r = names_of (notes_of r.herd)

abbrev pub Right : Row → Type 0
Right r = told r ≡ r.notes

-- ---- N entered, for roughage: below 0.7 or above 1.3 of the standard

abbrev enters : String → ℕ → Inputs
enters name grams = roughage (category name) (entered.Number grams) entered.Standard (pos 0) 0 0

-- 0.7 and 1.3 of the standard, and a gram beyond either
abbrev edges_of : String → ℕ → ℕ → List Row
edges_of name low high =
    enters name low gets []
    ∷ enters name high gets []
    ∷ enters name (low - 1) gets ("n_off_standard" ∷ [])
    ∷ enters name (high + 1) gets ("n_off_standard" ∷ [])
    ∷ []

abbrev of_n : List Row
of_n =
    -- 01, row 8
    enters "red_deer" (28 kg) gets []
    ∷ enters "red_deer" (52 kg) gets []
    ∷ enters "red_deer" 27999 gets ("n_off_standard" ∷ [])
    ∷ enters "red_deer" 52001 gets ("n_off_standard" ∷ [])
    -- standard
    ∷ roughage (category "red_deer") entered.Standard entered.Standard (pos 0) 0 0 gets []
    ∷ edges_of "fallow_deer" (14 kg) (26 kg)
    ++ edges_of "wapiti" (56 kg) (104 kg)
    ++ edges_of "bison_older_than_3yr" (42 kg) (78 kg)
    ++ edges_of "bison_younger_than_3yr" (14 kg) (26 kg)
    ++ edges_of "lama_older_than_2yr" (11900 g) (22100 g)
    ++ edges_of "lama_younger_than_2yr" (7700 g) (14300 g)
    ++ edges_of "alpaca_older_than_2yr" (7700 g) (14300 g)
    ++ edges_of "alpaca_younger_than_2yr" (4900 g) (9100 g)
    ++ edges_of "rabbit_doe_kits" (1820 g) (3380 g)
    ++ edges_of "rabbit_young" (553 g) (1027 g)

-- ---- TAN entered, for roughage: off 0.4 by more than 0.2

abbrev enters_tan : ℕ → Inputs
enters_tan tan = roughage (category "wapiti") entered.Standard (entered.Number tan) (pos 0) 0 0

abbrev of_tan : List Row
of_tan =
    enters_tan 2000 gets []
    ∷ enters_tan 6000 gets []
    ∷ enters_tan 1999 gets ("tan_off_standard" ∷ [])
    ∷ enters_tan 6001 gets ("tan_off_standard" ∷ [])
    ∷ []

-- ---- free factor not 0, for each kind

-- a number below zero
abbrev pub below : ℕ → ℤ
below n = pos 0 -ℤ pos n

abbrev roughage_free : ℤ → Inputs
roughage_free free = roughage (category "rabbit_young") entered.Standard entered.Standard free 0 0

-- without a yard
abbrev cattle_free : ℤ → Inputs
cattle_free free = cattle 10 (73 kg) 6000 (outdoors 0 NotAvailable Solid free 0 0)

abbrev pigs_free : HousingType → ℤ → Inputs
pigs_free housing free = pigs_in (13 kg) 7000 housing scrubbed.None aired.None free

abbrev of_free : List Row
of_free =
    roughage_free (pos 0) gets []
    ∷ roughage_free (pos 1) gets ("free_factor" ∷ [])
    ∷ roughage_free (pos 100) gets ("free_factor" ∷ [])
    ∷ roughage_free (below 1) gets ("free_factor" ∷ [])
    ∷ cattle_free (pos 0) gets []
    ∷ cattle_free (pos 1) gets ("free_factor" ∷ [])
    ∷ cattle_free (pos 100) gets ("free_factor" ∷ [])
    ∷ cattle_free (below 100) gets ("free_factor" ∷ [])
    ∷ pigs_free housed.SlurryLabel (pos 0) gets []
    ∷ pigs_free housed.SlurryLabel (pos 1) gets ("free_factor" ∷ [])
    ∷ pigs_free housed.SlurryLabel (pos 100) gets ("free_factor" ∷ [])
    ∷ pigs_free housed.SlurryLabel (below 100) gets ("free_factor" ∷ [])
    -- of outdoor pigs too, which have no house
    ∷ pigs_free housed.Outdoor (pos 0) gets []
    ∷ pigs_free housed.Outdoor (pos 1) gets ("free_factor" ∷ [])
    ∷ []

-- ---- share lowered, for cattle: days with both, and a share above 0.2

-- so many yard days and 200 grazing days; from 166 yard days on there are days with both
abbrev grazing : ExerciseYard → ℕ → Inputs
grazing yard yard-days = cattle 10 (73 kg) 6000 (outdoors yard-days yard Solid (pos 0) 200 120)

abbrev of_share : List Row
of_share =
    grazing Exclusively 165 gets []
    ∷ grazing Exclusively 166 gets ("share_lowered" ∷ [])
    ∷ grazing Partly 166 gets []
    ∷ grazing NotSupplied 166 gets []
    ∷ grazing NotAvailable 166 gets []
    ∷ []

-- ---- the housing's factor above 1, for roughage (02, W3): no days, hours and free factor give exactly 1; these two
-- are the nearest to it

abbrev in_housing : ℤ → ℕ → ℕ → Inputs
in_housing free days hours = roughage (category "wapiti") entered.Standard entered.Standard free days hours

abbrev of_ceiling : List Row
of_ceiling =
    in_housing (below 84) 364 239 gets ("free_factor" ∷ [])
    ∷ in_housing (below 56) 365 210 gets ("free_factor" ∷ "factor_above_1" ∷ [])
    ∷ in_housing (below 100) 365 239 gets ("free_factor" ∷ "factor_above_1" ∷ [])
    -- without grazing 0.275, twice
    ∷ in_housing (below 100) 0 240 gets ("free_factor" ∷ [])
    ∷ []

-- ---- dairy cows, by 2.2 (02, W9)

-- grams a head and TAN as entered; without a yard
abbrev milked : ℕ → Entered → Inputs
milked grams tan = dairy_cows 10 grams tan (outdoors 0 NotAvailable Solid (pos 0) 0 0)

abbrev of_dairy_cows : List Row
of_dairy_cows =
    milked (78400 g) entered.Standard gets []
    ∷ milked (145600 g) entered.Standard gets []
    ∷ milked (78399 g) entered.Standard gets ("n_off_standard" ∷ [])
    ∷ milked (145601 g) entered.Standard gets ("n_off_standard" ∷ [])
    ∷ milked (112 kg) (entered.Number 3500) gets []
    ∷ milked (112 kg) (entered.Number 7500) gets []
    ∷ milked (112 kg) (entered.Number 3499) gets ("tan_off_standard" ∷ [])
    ∷ milked (112 kg) (entered.Number 7501) gets ("tan_off_standard" ∷ [])
    -- free factor not 0, and the share lowered, as for other cattle
    ∷ dairy_cows 10 (112 kg) entered.Standard (outdoors 0 NotAvailable Solid (below 1) 0 0) gets ("free_factor" ∷ [])
    ∷ dairy_cows 10 (112 kg) entered.Standard (outdoors 165 Exclusively Solid (pos 0) 200 120) gets []
    ∷ dairy_cows 10 (112 kg) entered.Standard (outdoors 166 Exclusively Solid (pos 0) 200 120) gets
    ("share_lowered" ∷ [])
    ∷ []

-- ---- what a kind is not told, at values that another kind would be told of

abbrev of_others : List Row
of_others =
    -- other cattle, whose standards 01 leaves out
    cattle 10 0 0 (outdoors 0 NotAvailable Solid (pos 0) 0 0) gets []
    ∷ cattle 10 (200 kg) 10000 (outdoors 0 NotAvailable Solid (pos 0) 0 0) gets []
    -- nor a housing of which more than the flow is known, and the yard's ceiling is no note
    ∷ cattle 10 (73 kg) 6000 (outdoors 365 Exclusively Solid (below 100) 0 0) gets ("free_factor" ∷ [])
    -- roughage-consuming animals have no yard
    ∷ roughage (category "wapiti") entered.Standard entered.Standard (pos 0) 365 240 gets []
    -- pigs have neither, and what their house lowers is no note
    ∷ pigs 0 0 housed.Outdoor gets []
    ∷ pigs (200 kg) 10000 housed.Outdoor gets []
    ∷ pigs (200 kg) 10000 housed.DeepLitter gets []
    ∷ pigs_in (200 kg) 10000 housed.SlurryConventional scrubbed.Acid aired.LowImpulsAirSupply (pos 0) gets []
    ∷ []

abbrev pub table : List Row
table = of_n ++ of_tan ++ of_free ++ of_share ++ of_ceiling ++ of_dairy_cows ++ of_others
