-- 01, Herds on both sides of an edge: the rows marked (P), as one table under one statement (`edges` of
-- proofs/Edges.antt). With them the c of row 9, which a program runs: no figure shows it, since nothing goes into the
-- housing there. Then the rows of the notes (crate `notes`, specs/Rows), 01's example of a cut that is no rounding to
-- nearest, a row for each share and each floor, rows of days with both that are not all, of roughage herds on pasture
-- and of entered N and TAN, of three pig houses (02, W1), of free factors below zero (02, W3), of dairy cows (02, W9),
-- and all totals of a farm (2.1). To be believed.
use Rattle.std.specs.Prelude.{ℕ, ◌≡◌, List, [], ◌∷◌, ◌++◌, map, ℤ, pos, negsuc}
use Prim.Native.String.{String}
use Rattle.tables.specs.Standards.{◌kg, ◌g}
use Rattle.tables.specs.Growth.{k_of}
use Rattle.amounts.specs.Arithmetic.{cutting}
use Rattle.kinds.specs.declared.Entered.{Entered}
use Rattle.kinds.specs.declared.Entered.TheVariants.{Standard, Number}
use Rattle.kinds.specs.declared.ExerciseYard.{ExerciseYard}
use Rattle.kinds.specs.declared.ExerciseYard.TheVariants.{NotAvailable, NotSupplied, Partly, Exclusively}
use Rattle.kinds.specs.declared.Floor.{Floor}
use Rattle.kinds.specs.declared.Floor.TheVariants.{Solid, Unpaved, Perforated, Paddock}
use Rattle.kinds.specs.declared.HousingType.TheVariants as housed
use Rattle.kinds.specs.declared.AirScrubber.TheVariants as scrubber
use Rattle.kinds.specs.declared.HousingAir.TheVariants as air
use Rattle.kinds.specs.declared.Inputs.{Inputs}
use Rattle.kinds.specs.declared.Inputs.TheVariants as kinds
use Rattle.housing.specs.Housing.{c_grazing}
use Rattle.notes.specs.Rows as notes
use Rattle.notes.specs.Rows.{Row, told, ◌gets◌, below, cattle, dairy_cows, outdoors, roughage, pigs_in, pigs, category}
use Rattle.outputs.specs.Grams.{figure, total, totals_of}
use Rattle.herd.specs.Herd.{figures_of}

-- what a line is about: grams, notes by name, or a factor in billionths
pub data Value : Type 0 where
  grams : ℤ → Value
  names : List String → Value
  factor : ℕ → Value

-- a line: what the definitions give, and what 01 says that it is
pub record Edge : Type 0 where
  pub given : Value
  pub said : Value

abbrev pub Holds : Edge → Type 0
Holds e = e.given ≡ e.said

-- a herd's figure under a name
abbrev gives : Inputs → String → ℤ → Edge
gives i t z = record { given = grams (figure t (figures_of i)); said = grams z }

-- the total of these herds under a name
abbrev adds : List Inputs → String → ℤ → Edge
adds l t z = record { given = grams (total t (totals_of (map figures_of l))); said = grams z }

-- a herd's notes
abbrev noted : Row → Edge
noted r = record { given = names (told r); said = names r.notes }

-- k at so many tenths of an hour, and c at so many days and tenths of an hour
abbrev k_edge : ℕ → ℕ → Edge
k_edge hours k = record { given = factor (k_of hours); said = factor k }

abbrev c_at : ℕ → ℕ → ℕ → Edge
c_at days hours c = record { given = factor (c_grazing cutting days hours); said = factor c }

-- ---- the herds

-- the cattle rows marked C: "10 head, 73 kg, TAN 60 percent, yard 365 days, solid floor, free 0, 12 hours"
abbrev freed : ℤ → Floor → ExerciseYard → ℕ → Inputs
freed free floor yard days = cattle 10 (73 kg) 6000 (outdoors 365 yard floor free days 120)

abbrev on_floor : Floor → ExerciseYard → ℕ → Inputs
on_floor floor yard days = freed (pos 0) floor yard days

abbrev pub C : ExerciseYard → ℕ → Inputs
C yard days = on_floor Solid yard days

abbrev pub row4 : Inputs
row4 = cattle 10 (73 kg) 200 (outdoors 0 NotAvailable Solid (pos 0) 365 240)

abbrev deer : ℤ → ℕ → ℕ → Inputs
deer free days hours = roughage (category "fallow_deer") Standard Standard free days hours

abbrev fallow_deer : Inputs
fallow_deer = deer (pos 0) 0 0

-- on pasture for 200 days of 12 hours
abbrev grazing_deer : Inputs
grazing_deer = deer (pos 0) 200 120

-- 10 red deer, whose standards are 40 kg and 0.4: the N and the TAN as entered
abbrev red_deer : Entered → Entered → Inputs
red_deer n tan = roughage (category "red_deer") n tan (pos 0) 0 0

abbrev outdoor_pigs : Inputs
outdoor_pigs = pigs (13 kg) 7000 housed.Outdoor

-- "5 grams, share 0.1, both counts 365, 24 hours"
abbrev five_grams : Inputs
five_grams = cattle 1 (5 g) 0 (outdoors 365 NotSupplied Solid (pos 0) 365 240)

-- 5 grams of N, 4 of them TAN, on yard and pasture a fifth of the year each
abbrev four_of_five : Inputs
four_of_five = cattle 1 (5 g) 8000 (outdoors 365 Partly Solid (pos 0) 365 60)

-- yard and pasture for a part of the year each, and 135 days with both
abbrev overlapping : Inputs
overlapping = cattle 10 (73100 g) 6000 (outdoors 300 Exclusively Solid (pos 0) 200 75)

-- so much TAN that a billionth of the factor shows: 10,000 red deer of 200 kg, all of it TAN, free factor −25
abbrev many_deer : Inputs
many_deer =
    kinds.Roughage (record {
      animalcategory = category "red_deer";
      animals = 10000;
      inp_n_excretion = Number (200 kg);
      tan_fraction = Number 10000;
      free_correction_factor = below 25;
      grazing_days = 100;
      grazing_hours = 80;
    })

-- 02, W1: three pig houses with 130,000 g N and 91,000 g TAN
abbrev acid_house : Inputs
acid_house = pigs_in (13 kg) 7000 housed.SlurryConventional scrubber.Acid air.None (pos 0)

abbrev filter_house : Inputs
filter_house = pigs_in (13 kg) 7000 housed.SlurryLabel scrubber.Biotrickling air.LowImpulsAirSupply (pos 7)

abbrev litter_house : Inputs
litter_house = pigs (13 kg) 7000 housed.DeepLitter

-- 02, W3: the same with twice its rate
abbrev litter_twice : Inputs
litter_twice = pigs_in (13 kg) 7000 housed.DeepLitter scrubber.None air.None (below 100)

-- 02, W9: 10 dairy cows of 112 kg at the TAN of 2.2, 1,120,000 g N and 616,000 g TAN
abbrev milked : Inputs
milked = dairy_cows 10 (112 kg) Standard (outdoors 365 Exclusively Solid (pos 0) 200 120)

-- a farm with yard, pasture and housing: row 1, the deer on pasture, and the filter's house
abbrev three_herds : List Inputs
three_herds = C Partly 200 ∷ grazing_deer ∷ filter_house ∷ []

-- ---- the table

abbrev herds : List Edge
herds =
    -- 1
    gives (C Partly 200) "n_into_yard" (pos 146000)
    ∷ gives (C Partly 200) "tan_into_yard" (pos 87600)
    ∷ gives (C Partly 200) "nh3_nyard" (pos 61320)
    ∷ gives (C Partly 200) "n_outyard_liquid" (pos 84680)
    ∷ gives (C Partly 200) "tan_outyard_liquid" (pos 26280)
    ∷ gives (C Partly 200) "n_into_grazing" (pos 160000)
    ∷ gives (C Partly 200) "tan_into_grazing" (pos 96000)
    ∷ gives (C Partly 200) "nh3_ngrazing" (pos 7968)
    ∷ gives (C Partly 200) "no_ngrazing" (pos 880)
    ∷ gives (C Partly 200) "n2o_ngrazing" (pos 3200)
    ∷ gives (C Partly 200) "n_remain_grazing" (pos 147952)
    ∷ gives (C Partly 200) "tan_remain_grazing" (pos 83952)
    ∷ gives (C Partly 200) "n_into_housing" (pos 424000)
    ∷ gives (C Partly 200) "tan_into_housing" (pos 254400)
    -- 2
    ∷ gives (C Exclusively 200) "n_into_yard" (pos 278000)
    ∷ gives (C Exclusively 200) "n_into_grazing" (pos 160000)
    ∷ gives (C Exclusively 200) "n_into_housing" (pos 292000)
    ∷ noted (C Exclusively 200 gets ("share_lowered" ∷ []))
    -- 3
    ∷ gives (C Exclusively 0) "n_into_yard" (pos 438000)
    ∷ noted (C Exclusively 0 gets [])
    -- 4
    ∷ gives row4 "tan_into_grazing" (pos 14600)
    ∷ gives row4 "nh3_ngrazing" (pos 1211)
    ∷ gives row4 "no_ngrazing" (pos 4015)
    ∷ gives row4 "n2o_ngrazing" (pos 14600)
    ∷ gives row4 "n_remain_grazing" (pos 710174)
    ∷ gives row4 "tan_remain_grazing" (negsuc 5225)
    -- 5
    ∷ gives fallow_deer "n_excretion" (pos 200000)
    ∷ gives fallow_deer "tan_excretion" (pos 80000)
    ∷ gives fallow_deer "nh3_nhousing" (pos 22000)
    ∷ gives fallow_deer "n_outhousing" (pos 178000)
    ∷ gives fallow_deer "tan_outhousing" (pos 58000)
    -- 6
    ∷ gives outdoor_pigs "n_excretion" (pos 130000)
    ∷ gives outdoor_pigs "tan_excretion" (pos 91000)
    ∷ gives outdoor_pigs "n_into_grazing" (pos 130000)
    ∷ gives outdoor_pigs "tan_into_grazing" (pos 91000)
    ∷ gives outdoor_pigs "nh3_ngrazing" (pos 18200)
    ∷ gives outdoor_pigs "n2_ngrazing" (pos 0)
    ∷ gives outdoor_pigs "no_ngrazing" (pos 715)
    ∷ gives outdoor_pigs "n2o_ngrazing" (pos 2600)
    ∷ gives outdoor_pigs "n_remain_grazing" (pos 108485)
    ∷ gives outdoor_pigs "tan_remain_grazing" (pos 69485)
    ∷ gives outdoor_pigs "n_into_housing" (pos 0)
    ∷ gives outdoor_pigs "tan_into_housing" (pos 0)
    -- 7
    ∷ k_edge 0 1000000000
    -- 8 stands among the rows of the notes
    -- 9
    ∷ c_at 365 240 1000000000
    ∷ []

abbrev further : List Edge
further =
    -- Readings that look right and aren't: no rounding to nearest, which would give 1 and 5
    gives five_grams "n_into_yard" (pos 0)
    ∷ gives five_grams "n_into_grazing" (pos 4)
    -- by the cuts the TAN into the housing of cattle can be a gram above the N
    ∷ gives four_of_five "n_into_housing" (pos 3)
    ∷ gives four_of_five "tan_into_housing" (pos 4)
    -- the shares of 2.34: 0, 0.1, 0.2, 0.6
    ∷ gives (C NotAvailable 0) "n_into_yard" (pos 0)
    ∷ gives (C NotSupplied 0) "n_into_yard" (pos 73000)
    ∷ gives (C Partly 0) "n_into_yard" (pos 146000)
    ∷ gives (C Exclusively 0) "n_into_yard" (pos 438000)
    -- one cut for the days with both and the others together: 1260 of 3650 on the yard, 1730 × 7.5 of 87600 on pasture
    ∷ gives overlapping "n_into_yard" (pos 252345)
    ∷ gives overlapping "tan_into_yard" (pos 151407)
    ∷ gives overlapping "n_into_grazing" (pos 108273)
    ∷ gives overlapping "tan_into_grazing" (pos 64963)
    ∷ gives overlapping "n_into_housing" (pos 370382)
    ∷ gives overlapping "tan_into_housing" (pos 222230)
    -- its floors: 1 less 0, 0.5, 0.75, 0.9
    ∷ gives (on_floor Solid Partly 0) "nh3_nyard" (pos 61320)
    ∷ gives (on_floor Unpaved Partly 0) "nh3_nyard" (pos 30660)
    ∷ gives (on_floor Perforated Partly 0) "nh3_nyard" (pos 15330)
    ∷ gives (on_floor Paddock Partly 0) "nh3_nyard" (pos 6132)
    -- 2.84 to 2.88, with pasture: c is 1.234680284, and ef_nh3_nhousing cut(c × 0.275), 0.339537078
    ∷ gives grazing_deer "n_into_grazing" (pos 54794)
    ∷ gives grazing_deer "tan_into_grazing" (pos 21917)
    ∷ gives grazing_deer "nh3_ngrazing" (pos 2739)
    ∷ gives grazing_deer "n2_ngrazing" (pos 0)
    ∷ gives grazing_deer "no_ngrazing" (pos 301)
    ∷ gives grazing_deer "n2o_ngrazing" (pos 547)
    ∷ gives grazing_deer "n_remain_grazing" (pos 51207)
    ∷ gives grazing_deer "tan_remain_grazing" (pos 18330)
    ∷ gives grazing_deer "n_into_housing" (pos 145206)
    ∷ gives grazing_deer "tan_into_housing" (pos 58083)
    ∷ gives grazing_deer "nh3_nhousing" (pos 19721)
    ∷ gives grazing_deer "n_outhousing" (pos 125485)
    ∷ gives grazing_deer "tan_outhousing" (pos 38362)
    ∷ c_at 200 120 1234680284
    -- the factor is cut(c × 0.275), and then cut(× 1.25): 0.370036463, and a billionth more in the other order or with
    -- one cut
    ∷ gives many_deer "tan_into_housing" (pos 1817351599)
    ∷ gives many_deer "nh3_nhousing" (pos 672486357)
    -- 2.84: what is entered counts, and not the standard
    ∷ gives (red_deer (Number (28 kg)) Standard) "n_excretion" (pos 280000)
    ∷ gives (red_deer (Number (28 kg)) Standard) "tan_excretion" (pos 112000)
    ∷ gives (red_deer Standard (Number 5000)) "n_excretion" (pos 400000)
    ∷ gives (red_deer Standard (Number 5000)) "tan_excretion" (pos 200000)
    -- a conventional house with an acid scrubber: 0.243 × 0.1 of the TAN is emitted
    ∷ gives acid_house "nh3_nhousing" (pos 2211)
    ∷ gives acid_house "tan_air_scrubber" (pos 0)
    ∷ gives acid_house "n_outhousing_liquid" (pos 127789)
    ∷ gives acid_house "tan_outhousing_liquid" (pos 88789)
    -- a label house with a filter: 0.486 × 0.93 × 0.8 before the filter, of which half is let out at 0.3; the filter
    -- keeps 0.35 × that
    ∷ gives filter_house "nh3_nhousing" (pos 25500)
    ∷ gives filter_house "tan_air_scrubber" (pos 11516)
    ∷ gives filter_house "n_outhousing_liquid" (pos 92984)
    ∷ gives filter_house "tan_outhousing_liquid" (pos 53984)
    ∷ gives filter_house "n_outhousing_solid" (pos 0)
    ∷ gives filter_house "n2_nliquid" (pos 2600)
    ∷ gives filter_house "no_nliquid" (pos 260)
    ∷ gives filter_house "n2o_nliquid" (pos 260)
    -- deep litter: 0.486, and all of it solid
    ∷ gives litter_house "nh3_nhousing" (pos 44226)
    ∷ gives litter_house "n_outhousing_liquid" (pos 0)
    ∷ gives litter_house "n_outhousing_solid" (pos 85774)
    ∷ gives litter_house "tan_outhousing_solid" (pos 46774)
    ∷ gives litter_house "n2_nsolid" (pos 6500)
    ∷ gives litter_house "no_nsolid" (pos 1300)
    ∷ gives litter_house "n2o_nsolid" (pos 1300)
    -- 02, W3: 25 percent more, of the yard and of the housing
    ∷ gives (freed (below 25) Solid Partly 0) "nh3_nyard" (pos 76650)
    ∷ gives (deer (below 25) 0 0) "nh3_nhousing" (pos 27500)
    -- the yard's ceiling: 0.7 × 1.42 is below 1, 0.7 × 1.43 above
    ∷ gives (freed (below 42) Solid Partly 0) "nh3_nyard" (pos 87074)
    ∷ gives (freed (below 43) Solid Partly 0) "nh3_nyard" (pos 87600)
    ∷ gives (freed (below 43) Solid Partly 0) "tan_outyard_liquid" (pos 0)
    -- which is one of the whole factor: 0.7 × 0.5 × 2 is below 1
    ∷ gives (freed (below 100) Unpaved Partly 0) "nh3_nyard" (pos 61320)
    -- the ceiling of the housing: 1.44 would be emitted
    ∷ gives (deer (below 100) 365 239) "tan_into_housing" (pos 334)
    ∷ gives (deer (below 100) 365 239) "nh3_nhousing" (pos 334)
    ∷ gives (deer (below 100) 365 239) "tan_outhousing" (pos 0)
    -- deep litter comes to 0.972, and to no ceiling
    ∷ gives litter_twice "nh3_nhousing" (pos 88452)
    ∷ gives litter_twice "tan_outhousing_solid" (pos 2548)
    -- 02, W9: the yard has 0.6 of 165 days and 0.2 of 200
    ∷ gives milked "n_excretion" (pos 1120000)
    ∷ gives milked "tan_excretion" (pos 616000)
    ∷ gives milked "n_into_yard" (pos 426520)
    ∷ gives milked "tan_into_yard" (pos 234586)
    ∷ gives milked "nh3_nyard" (pos 164210)
    ∷ gives milked "n_outyard_liquid" (pos 262310)
    ∷ gives milked "tan_outyard_liquid" (pos 70376)
    ∷ gives milked "n_into_grazing" (pos 245479)
    ∷ gives milked "tan_into_grazing" (pos 135013)
    ∷ gives milked "nh3_ngrazing" (pos 11206)
    ∷ gives milked "n2_ngrazing" (pos 0)
    ∷ gives milked "no_ngrazing" (pos 1350)
    ∷ gives milked "n2o_ngrazing" (pos 4909)
    ∷ gives milked "n_remain_grazing" (pos 228014)
    ∷ gives milked "tan_remain_grazing" (pos 117548)
    ∷ gives milked "n_into_housing" (pos 448001)
    ∷ gives milked "tan_into_housing" (pos 246401)
    -- 2.1: the totals of three herds, of which each brings its figures above
    ∷ adds three_herds "n_excretion" (pos 1060000)
    ∷ adds three_herds "tan_excretion" (pos 609000)
    ∷ adds three_herds "n_into_housing" (pos 699206)
    ∷ adds three_herds "tan_into_housing" (pos 403483)
    ∷ adds three_herds "n_into_yard" (pos 146000)
    ∷ adds three_herds "tan_into_yard" (pos 87600)
    ∷ adds three_herds "n_into_grazing" (pos 214794)
    ∷ adds three_herds "tan_into_grazing" (pos 117917)
    ∷ adds three_herds "nh3_nhousing" (pos 45221)
    ∷ adds three_herds "nh3_nyard" (pos 61320)
    ∷ adds three_herds "nh3_ngrazing" (pos 10707)
    ∷ adds three_herds "nh3_nhousing_and_yard" (pos 106541)
    ∷ adds three_herds "nh3_nlivestock" (pos 117248)
    ∷ adds three_herds "n2_ngrazing" (pos 0)
    ∷ adds three_herds "no_ngrazing" (pos 1181)
    ∷ adds three_herds "n2o_ngrazing" (pos 3747)
    ∷ adds three_herds "n_remain_grazing" (pos 199159)
    ∷ adds three_herds "tan_remain_grazing" (pos 102282)
    ∷ []

abbrev pub table : List Edge
table = herds ++ map noted notes.table ++ further
