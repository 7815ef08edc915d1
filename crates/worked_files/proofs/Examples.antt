-- Files on both sides of the rules, computed from the definitions under one statement: the pigs of 01, a whole file of
-- each other kind, its row 10, and a file for each refusal of reading, all from standard input; and files on both sides
-- of other limits. Assumes nothing.
use Prim.Native.Nat.{ℕ, zero, suc, ◌+◌, ◌-◌, ◌/◌, ◌%◌}
use Prim.Native.String.{String}
use mathlib.Core.Path.{◌≡◌, refl, ap}
use mathlib.Core.List.{List, [], ◌∷◌, ◌++◌, map}
use lib.IntN.{ℤ, pos, negsuc}
use lib.ListN.{length, get_or, take, replicate}
use Rattle.base.specs.Text.{bytes}
use Rattle.base.specs.Part.{part, same_bytes, lower, lowered}
use Rattle.grammar.specs.Reading.{at_start, in_plain, in_quotes, past_quote, past_cR, reading_from, reading_of}
use Rattle.numbers.specs.Reading.{whole_from, zero_from, any_number_of, number_of}
use Rattle.digits.specs.Digits.{fraction_from, point_from}
use Rattle.inputs.specs.declared.Kind.{Kind}
use Rattle.inputs.specs.declared.Kind.TheVariants.{Roughage, Cattle, Pigs, DairyCow}
use Rattle.words.specs.Find.{first_from, is_name, find_text}
use Rattle.names.specs.Find.{find_name}
use Rattle.inputs.specs.Inputs.{count_of}
use Rattle.finding.specs.Find.{is_row, first_row, find_among, find_input}
use Rattle.farm.specs.declared.Given.{Given}
use Rattle.farm.specs.declared.Given.TheVariants.{Standard, Value, Signed}
use Rattle.farm.specs.declared.Slot.{Slot}
use Rattle.farm.specs.declared.Herd.{Herd}
use Rattle.farm.specs.declared.Refusal.TheVariants.{
  FileTooLong,
  RecordBroken,
  NotFourFields,
  BadLabel,
  NotInTheList,
  StandardForbidden,
  BadValue,
  EarlierLabel,
  NoRoomForHerd,
  OtherKind,
  GivenAlready,
  InputMissing,
}
use Rattle.farm.specs.Limits.{slots}
use Rattle.farm.specs.Labels.{byte_ok, label_ok, same_label, label_of}
use Rattle.limits.specs.declared.Limits.{Limits}
use Rattle.limits.specs.declared.Source.TheVariants.{StandardInput}
use Rattle.limits.specs.Limits.{limits_of}
use Rattle.herd_tests.specs.Tests.{lacks, earlier_label}
use Rattle.farm.specs.Herds.{no_slot}
use Rattle.reader.specs.declared.FileAnswer.{FileAnswer}
use Rattle.number_values.specs.Numbers.{signed_read}
use Rattle.values.specs.Values.{is_standard, value_of}
use Rattle.progress.specs.Herds.{with_input, new_herd}
use Rattle.reader.specs.Files.{refused, accepted, closed, record_tests, taken, finished, read_from, read_of}
use Rattle.rules_theorems.specs.Rules.{allowed, farm_of, KeepsRules}
use Rattle.rules_theorems.proofs.Accepts.{accepts-exactly}

-- ---- files

-- a record of a herd, with its end
abbrev line : String → String → String → String → List ℕ
line label path name value =
    bytes label ++ bytes "," ++ bytes path ++ bytes "," ++ bytes name ++ bytes "," ++ bytes value ++ bytes "\r\n"

abbrev pig : String → String → String → List ℕ
pig label name value = line label "Livestock::FatteningPigs::Excretion" name value

abbrev housed : String → String → List ℕ
housed label value = line label "Livestock::FatteningPigs::Housing::Type" "housing_type" value

abbrev scrubbed : String → String → List ℕ
scrubbed label value = line label "Livestock::FatteningPigs::Housing::AirScrubber" "air_scrubber" value

abbrev mitigated : String → String → String → List ℕ
mitigated label name value = line label "Livestock::FatteningPigs::Housing::MitigationOptions" name value

abbrev freed : String → String → List ℕ
freed label value = line label "Livestock::FatteningPigs::Housing::CFreeFactor" "free_correction_factor" value

abbrev cows : String → String → List ℕ
cows name value = line "C1" "Livestock::DairyCow::Excretion" name value

abbrev heifers : String → String → List ℕ
heifers name value = line "C1" "Livestock::OtherCattle::Excretion" name value

abbrev deer : String → String → List ℕ
deer name value = line "D" "Livestock::RoughageConsuming::Excretion" name value

-- what 01's pigs excrete
abbrev excreting : List ℕ
excreting = pig "P1" "animals" "10" ++ pig "P1" "inp_n_excretion" "13" ++ pig "P1" "tan_fraction" "70"

-- a house with nothing that lowers an emission
abbrev plain : List ℕ
plain =
    scrubbed "P1" "none"
    ++ mitigated "P1" "mitigation_housing_floor" "none"
    ++ mitigated "P1" "mitigation_housing_air" "none"
    ++ freed "P1" "0"

-- the pigs of 01
abbrev pigs : List ℕ
pigs = excreting ++ housed "P1" "Outdoor" ++ plain

-- the same in another order, with a quoted label and without the last CRLF
abbrev pigs_again : List ℕ
pigs_again =
    plain
    ++ housed "\"P1\"" "Outdoor"
    ++ pig "P1" "tan_fraction" "70.00"
    ++ pig "P1" "inp_n_excretion" "13.0"
    ++ bytes "P1,Livestock::FatteningPigs::Excretion,animals,10"

-- in a house with a scrubber, low impulse air and a free factor
abbrev pigs_mitigated : String → List ℕ
pigs_mitigated free =
    excreting
    ++ housed "P1" "Slurry_Label_Open"
    ++ freed "P1" free
    ++ scrubbed "P1" "biotrickling"
    ++ mitigated "P1" "mitigation_housing_air" "low_impuls_air_supply"
    ++ mitigated "P1" "mitigation_housing_floor" "none"

abbrev slot : Given → Slot
slot g = record { given = g }

-- the type of the house, its scrubber, floor and air by their places, and its free factor
abbrev pigs_housed : ℕ → ℕ → ℕ → ℕ → ℤ → Herd
pigs_housed type scrubber floor air free =
    record {
      label = label_of (bytes "P1");
      kind = Pigs;
      slots =
          slot (Value 10)
          ∷ slot (Value 13000)
          ∷ slot (Value 7000)
          ∷ slot (Value type)
          ∷ slot (Value scrubber)
          ∷ slot (Value floor)
          ∷ slot (Value air)
          ∷ slot (Signed free)
          ∷ replicate (slots - count_of Pigs) no_slot;
    }

abbrev pub pig_herd : Herd
pig_herd = pigs_housed 4 2 0 1 (pos 0)

-- ten red deer by the standards
abbrev deer_file : List ℕ
deer_file =
    deer "animalcategory" "red_deer" ++ deer "animals" "10" ++ deer "inp_n_excretion" "standard"
    ++ deer "tan_fraction" "StandarD"
    ++ line "D" "Livestock::RoughageConsuming::Housing::CFreeFactor" "free_correction_factor" "0"
    ++ line "D" "Livestock::RoughageConsuming::Grazing" "grazing_days" "365"
    ++ line "D" "Livestock::RoughageConsuming::Grazing" "grazing_hours" "7.5"

abbrev deer_herd : Herd
deer_herd =
    record {
      label = label_of (bytes "D");
      kind = Roughage;
      slots = slot (Value 1) ∷ slot (Value 10) ∷ slot Standard ∷ slot Standard ∷ slot (Signed (pos 0))
          ∷ slot (Value 365) ∷ slot (Value 75) ∷ replicate (slots - count_of Roughage) no_slot;
    }

-- ten heads of other cattle or of dairy cows, by the modules of their kind: the TAN as given, a yard and a pasture for
-- a part of the year each, every input of the two modules with a value of its own
abbrev grazers : String → String → String → List ℕ
grazers excretion outdoor tan =
    line "C1" excretion "animals" "10"
    ++ line "C1" excretion "inp_n_excretion" "73"
    ++ line "C1" excretion "tan_fraction" tan
    ++ line "C1" outdoor "yard_days" "300"
    ++ line "C1" outdoor "exercise_yard" "available_roughage_is_not_supplied_in_the_exercise_yard"
    ++ line "C1" outdoor "floor_properties_exercise_yard" "perforated_floor"
    ++ line "C1" outdoor "free_correction_factor" "-25"
    ++ line "C1" outdoor "grazing_days" "200"
    ++ line "C1" outdoor "grazing_hours" "12"

abbrev cattle_file : List ℕ
cattle_file = grazers "Livestock::OtherCattle::Excretion" "Livestock::OtherCattle::Outdoor" "60"

abbrev dairy_file : List ℕ
dairy_file = grazers "Livestock::DairyCow::Excretion" "Livestock::DairyCow::Outdoor" "standard"

abbrev grazing_herd : Kind → Given → Herd
grazing_herd k tan =
    record {
      label = label_of (bytes "C1");
      kind = k;
      slots = slot (Value 10) ∷ slot (Value 73000) ∷ slot tan ∷ slot (Value 300) ∷ slot (Value 1) ∷ slot (Value 2)
          ∷ slot (Signed (negsuc 24)) ∷ slot (Value 200) ∷ slot (Value 120) ∷ replicate (slots - count_of k) no_slot;
    }

-- a herd of each kind: 01's pigs, the cattle of its row 1, ten dairy cows, ten fallow deer
abbrev outdoors : String → String → String → List ℕ
outdoors label kind yard =
    line label kind "yard_days" "365"
    ++ line label kind "exercise_yard" yard
    ++ line label kind "floor_properties_exercise_yard" "solid_floor"
    ++ line label kind "free_correction_factor" "0"
    ++ line label kind "grazing_days" "200"
    ++ line label kind "grazing_hours" "12"

abbrev pub four_kinds : List ℕ
four_kinds =
    pigs
    ++ line "\"C, partly\"" "Livestock::OtherCattle::Excretion" "animals" "10"
    ++ line "\"C, partly\"" "Livestock::OtherCattle::Excretion" "inp_n_excretion" "73"
    ++ line "\"C, partly\"" "Livestock::OtherCattle::Excretion" "tan_fraction" "60"
    ++ outdoors "\"C, partly\"" "Livestock::OtherCattle::Outdoor"
    "available_roughage_is_partly_supplied_in_the_exercise_yard"
    ++ line "Milk" "Livestock::DairyCow::Excretion" "animals" "10"
    ++ line "Milk" "Livestock::DairyCow::Excretion" "inp_n_excretion" "112"
    ++ line "Milk" "Livestock::DairyCow::Excretion" "tan_fraction" "standard"
    ++ outdoors "Milk" "Livestock::DairyCow::Outdoor" "available_roughage_is_exclusively_supplied_in_the_exercise_yard"
    ++ line "Deer" "Livestock::RoughageConsuming::Excretion" "animalcategory" "fallow_deer"
    ++ line "Deer" "Livestock::RoughageConsuming::Excretion" "animals" "10"
    ++ line "Deer" "Livestock::RoughageConsuming::Excretion" "inp_n_excretion" "standard"
    ++ line "Deer" "Livestock::RoughageConsuming::Excretion" "tan_fraction" "standard"
    ++ line "Deer" "Livestock::RoughageConsuming::Housing::CFreeFactor" "free_correction_factor" "0"
    ++ line "Deer" "Livestock::RoughageConsuming::Grazing" "grazing_days" "100"
    ++ line "Deer" "Livestock::RoughageConsuming::Grazing" "grazing_hours" "6"

-- the slots of `outdoors`, by the place of the yard's name
abbrev outdoor_slots : ℕ → List Slot
outdoor_slots yard =
    slot (Value 365) ∷ slot (Value yard) ∷ slot (Value 0) ∷ slot (Signed (pos 0)) ∷ slot (Value 200)
    ∷ slot (Value 120) ∷ []

abbrev pub cattle_herd : Herd
cattle_herd =
    record {
      label = label_of (bytes "C, partly");
      kind = Cattle;
      slots = slot (Value 10) ∷ slot (Value 73000) ∷ slot (Value 6000) ∷ outdoor_slots 2;
    }

abbrev pub dairy_herd : Herd
dairy_herd =
    record {
      label = label_of (bytes "Milk");
      kind = DairyCow;
      slots = slot (Value 10) ∷ slot (Value 112000) ∷ slot Standard ∷ outdoor_slots 3;
    }

abbrev pub fallow_herd : Herd
fallow_herd =
    record {
      label = label_of (bytes "Deer");
      kind = Roughage;
      slots = slot (Value 0) ∷ slot (Value 10) ∷ slot Standard ∷ slot Standard ∷ slot (Signed (pos 0))
          ∷ slot (Value 100) ∷ slot (Value 60) ∷ replicate (slots - count_of Roughage) no_slot;
    }

abbrev pub four_herds : List Herd
four_herds = pig_herd ∷ cattle_herd ∷ dairy_herd ∷ fallow_herd ∷ []

-- so many herds of one record each, by two digits from these on
abbrev herds_from : ℕ → ℕ → List ℕ
herds_from n zero = []
herds_from n (suc k) =
    (48 + n / 10) ∷ (48 + n % 10) ∷ bytes ",Livestock::FatteningPigs::Excretion,animals,1\r\n" ++ herds_from (suc n) k

-- ---- what they are read as

pub record Example : Type 0 where
  pub file : List ℕ
  pub answer : FileAnswer

infix 4 ◌gives◌
abbrev ◌gives◌ : List ℕ → FileAnswer → Example
f gives a = record { file = f; answer = a }

-- a file for each refusal of reading, in the order of their numbers. Those of 1 and 2, of LFs alone, and those of 9 and
-- 12 stand on both sides of the limits of 01's row 10
abbrev pub refusals : List Example
refusals =
    (replicate 65537 10 gives refused 0 FileTooLong)
    ∷ (replicate 65536 10 gives refused 1 RecordBroken)
    ∷ (bytes "\r\n" gives refused 1 NotFourFields)
    ∷ (pig "" "animals" "10" gives refused 1 BadLabel)
    ∷ (pig "P1" "Animals" "10" gives refused 1 NotInTheList)
    ∷ (pig "P1" "tan_fraction" "standard" gives refused 1 StandardForbidden)
    ∷ (pig "P1" "animals" "10001" gives refused 1 BadValue)
    ∷ (pigs ++ pig "P2" "animals" "1" ++ pig "P1" "animals" "1" gives refused 10 EarlierLabel)
    ∷ (herds_from 10 65 gives refused 65 NoRoomForHerd)
    ∷ (deer "animals" "1" ++ pig "D" "animals" "1" gives refused 2 OtherKind)
    ∷ (deer "animals" "1" ++ deer "animals" "1" gives refused 2 GivenAlready)
    ∷ (herds_from 10 64 gives refused 1 InputMissing)
    ∷ []

abbrev others : List Example
others =
    ([] gives accepted (farm_of []))
    ∷ (pigs gives accepted (farm_of (pig_herd ∷ [])))
    ∷ (pigs_again gives accepted (farm_of (pig_herd ∷ [])))
    ∷ (pigs_mitigated "100" gives accepted (farm_of (pigs_housed 2 1 0 0 (pos 100) ∷ [])))
    -- 02, W3: a free factor below zero
    ∷ (pigs_mitigated "-25" gives accepted (farm_of (pigs_housed 2 1 0 0 (negsuc 24) ∷ [])))
    ∷ (pigs_mitigated "-100" gives accepted (farm_of (pigs_housed 2 1 0 0 (negsuc 99) ∷ [])))
    ∷ (pigs ++ deer_file gives accepted (farm_of (pig_herd ∷ deer_herd ∷ [])))
    ∷ (four_kinds gives accepted (farm_of four_herds))
    ∷ (cattle_file gives accepted (farm_of (grazing_herd Cattle (Value 6000) ∷ [])))
    ∷ (dairy_file gives accepted (farm_of (grazing_herd DairyCow Standard ∷ [])))
    ∷ (pigs ++ bytes "\n" gives refused 9 RecordBroken)
    ∷ (bytes "a,b,c,d,e,f\"" gives refused 1 RecordBroken)
    ∷ (pigs ++ bytes "\r" gives refused 9 RecordBroken)
    ∷ (bytes "\"P1\"x" gives refused 1 RecordBroken)
    ∷ (pigs ++ bytes "\r\n" gives refused 9 NotFourFields)
    ∷ (pig "seventeen letters" "animals" "10" gives refused 1 BadLabel)
    ∷ (pig "\"P\"\"1\"" "animals" "10" gives refused 1 BadLabel)
    ∷ (pig "\"P,1\"" "animals" "10" gives refused 1 InputMissing)
    -- `standard` where it may not stand is 6, and 7 where it is no word of the input at all
    ∷ (pig "P1" "inp_n_excretion" "standard" gives refused 1 StandardForbidden)
    ∷ (heifers "inp_n_excretion" "standard" gives refused 1 StandardForbidden)
    ∷ (heifers "tan_fraction" "Standard" gives refused 1 StandardForbidden)
    ∷ (pig "P1" "animals" "standard" gives refused 1 BadValue)
    ∷ (pig "P1" "animals" "1.0" gives refused 1 BadValue)
    ∷ (pig "P1" "inp_n_excretion" "1.0000" gives refused 1 BadValue)
    ∷ (housed "P1" "outdoor" gives refused 1 BadValue)
    ∷ (scrubbed "P1" "biotrickling_filter" gives refused 1 BadValue)
    ∷ (scrubbed "P1" "standard" gives refused 1 BadValue)
    ∷ (mitigated "P1" "mitigation_housing_floor" "low_impuls_air_supply" gives refused 1 BadValue)
    ∷ (mitigated "P1" "mitigation_housing_air" "acid" gives refused 1 BadValue)
    ∷ (mitigated "P1" "air_scrubber" "none" gives refused 1 NotInTheList)
    ∷ (freed "P1" "101" gives refused 1 BadValue)
    ∷ (freed "P1" "standard" gives refused 1 BadValue)
    -- 02, W3: what is no number below zero, and a `-` before any other number
    ∷ (freed "P1" "-101" gives refused 1 BadValue)
    ∷ (freed "P1" "-0" gives refused 1 BadValue)
    ∷ (freed "P1" "-" gives refused 1 BadValue)
    ∷ (freed "P1" "--5" gives refused 1 BadValue)
    ∷ (freed "P1" "-05" gives refused 1 BadValue)
    ∷ (freed "P1" "+5" gives refused 1 BadValue)
    ∷ (freed "P1" "-5.0" gives refused 1 BadValue)
    ∷ (freed "P1" "- 5" gives refused 1 BadValue)
    ∷ (pig "P1" "animals" "-1" gives refused 1 BadValue)
    ∷ (pig "P1" "inp_n_excretion" "-13" gives refused 1 BadValue)
    ∷ (line "C1" "Livestock::OtherCattle::Outdoor" "yard_days" "-1" gives refused 1 BadValue)
    -- 02, W9: `standard` is no N of dairy cows, but their TAN in any letter case; they are no other cattle
    ∷ (cows "inp_n_excretion" "standard" gives refused 1 StandardForbidden)
    ∷ (cows "tan_fraction" "Standard" gives refused 1 InputMissing)
    ∷ (cows "yard_days" "1" gives refused 1 NotInTheList)
    ∷ (cows "animals" "1" ++ heifers "tan_fraction" "55" gives refused 2 OtherKind)
    -- pigs without their house
    ∷ (excreting ++ housed "P1" "Outdoor" gives refused 1 InputMissing)
    ∷ (pigs ++ pig "P2" "animals" "1" ++ pig "P3" "animals" "1" gives refused 9 InputMissing)
    ∷ []

abbrev pub examples : List Example
examples = refusals ++ others

pub worked : map (λ (e : Example). read_of (limits_of StandardInput) e.file) examples
    ≡ map (λ (e : Example). e.answer) examples
unfolding limits_of read_of read_from record_tests taken closed finished reading_of reading_from at_start in_plain
    in_quotes
    past_quote past_cR label_of label_ok byte_ok same_label same_bytes lower lowered find_input find_among first_row
    is_row value_of
    is_standard number_of any_number_of zero_from whole_from point_from fraction_from find_name find_text first_from
    is_name new_herd
    with_input lacks earlier_label signed_read part
worked = refl

pub refusals-worked : map (λ (e : Example). read_of (limits_of StandardInput) e.file) refusals
    ≡ map (λ (e : Example). e.answer) refusals
refusals-worked = ap (take (length refusals)) worked

-- the pigs of 01 keep the rules
pub pigs-keep : KeepsRules (allowed StandardInput) pigs (farm_of (pig_herd ∷ []))
pigs-keep = (accepts-exactly StandardInput pigs (farm_of (pig_herd ∷ []))).0
    (ap (λ (l : List FileAnswer). get_or l 13 (accepted (farm_of []))) worked)

-- the herds of each kind are read
pub four-kinds-read : read_of (limits_of StandardInput) four_kinds ≡ accepted (farm_of four_herds)
four-kinds-read = ap (λ (l : List FileAnswer). get_or l 19 (accepted (farm_of []))) worked

-- ---- within other limits: so many bytes, and so many herds

pub record Limited : Type 0 where
  pub limits : Limits
  pub file : List ℕ
  pub answer : FileAnswer

infix 4 ◌within◌and◌reads◌
abbrev ◌within◌and◌reads◌ : List ℕ → ℕ → ℕ → FileAnswer → Limited
f within b and h reads a = record { limits = record { bytes = b; herds = h }; file = f; answer = a }

abbrev pub limited : List Limited
limited =
    ([] within 0 and 0 reads accepted (farm_of []))
    ∷ (bytes "\n" within 1 and 0 reads refused 1 RecordBroken)
    ∷ (bytes "\n" within 0 and 9 reads refused 0 FileTooLong)
    ∷ (pigs within 1000 and 0 reads refused 1 NoRoomForHerd)
    ∷ (pigs within 1000 and 1 reads accepted (farm_of (pig_herd ∷ [])))
    ∷ (pigs ++ deer_file within 2000 and 1 reads refused 9 NoRoomForHerd)
    ∷ (pigs ++ deer_file within 2000 and 2 reads accepted (farm_of (pig_herd ∷ deer_herd ∷ [])))
    ∷ (herds_from 10 12 within 1000 and 12 reads refused 1 InputMissing)
    ∷ (herds_from 10 13 within 1000 and 12 reads refused 13 NoRoomForHerd)
    ∷ []

pub worked-within : map (λ (e : Limited). read_of e.limits e.file) limited
    ≡ map (λ (e : Limited). e.answer) limited
unfolding read_of read_from record_tests taken closed finished reading_of reading_from at_start in_plain in_quotes
    past_quote
    past_cR label_of label_ok byte_ok same_label same_bytes lower lowered find_input find_among first_row is_row
    value_of
    is_standard number_of any_number_of zero_from whole_from point_from fraction_from find_name find_text first_from
    is_name new_herd
    with_input lacks earlier_label signed_read part
worked-within = refl
