-- Two herds as they are written, byte by byte (02, W5): a label with a comma, `standard` in lower case, a name of a
-- list, numbers in their shortest form, one below zero, and the inputs in the order of 01's list. Assumes nothing.
use Prim.Native.String.{String}
use mathlib.Core.Path.{◌≡◌, refl}
use mathlib.Core.List.{List, [], ◌∷◌}
use lib.IntN.{pos, negsuc}
use Rattle.base.specs.Text.{bytes}
use Rattle.decimal.specs.Writing.{whole_of, width}
use Rattle.kilogram_text.specs.Kilograms.{sign}
use Rattle.shortest_numbers.specs.Shortest.{shortest, pointed}
use Rattle.word_texts.specs.Words.{name_text}
use Rattle.inputs.specs.declared.Kind.TheVariants.{Roughage, Pigs}
use Rattle.farm.specs.declared.Given.{Given}
use Rattle.farm.specs.declared.Given.TheVariants.{Missing, Standard, Value, Signed}
use Rattle.farm.specs.declared.Slot.{Slot}
use Rattle.farm.specs.declared.Herd.{Herd}
use Rattle.farm.specs.Labels.{label_of}
use Rattle.line_parts.specs.Fields.{label_field, has_comma, each}
use Rattle.value_texts.specs.Values.{value_text, number_text, signed_text}
use Rattle.file_text.specs.Files.{input_text, record_text, inputs_text, herd_file, file_of}

abbrev slot : Given → Slot
slot g = record { given = g }

abbrev deer : Herd
deer =
    record {
      label = label_of (bytes "Deer, hill");
      kind = Roughage;
      slots =
          slot (Value 1) ∷ slot (Value 12) ∷ slot Standard ∷ slot (Value 5550) ∷ slot (Signed (negsuc 4))
          ∷ slot (Value 150) ∷ slot (Value 125) ∷ slot Missing ∷ slot Missing ∷ [];
    }

abbrev pigs : Herd
pigs =
    record {
      label = label_of (bytes "P 1");
      kind = Pigs;
      slots =
          slot (Value 100) ∷ slot (Value 13000) ∷ slot (Value 7000) ∷ slot (Value 0) ∷ slot (Value 0) ∷ slot (Value 0)
          ∷ slot (Value 0) ∷ slot (Signed (pos 0)) ∷ slot Missing ∷ [];
    }

abbrev lines : List String
lines =
    "\"Deer, hill\",Livestock::RoughageConsuming::Excretion,animalcategory,red_deer\r\n"
    ∷ "\"Deer, hill\",Livestock::RoughageConsuming::Excretion,animals,12\r\n"
    ∷ "\"Deer, hill\",Livestock::RoughageConsuming::Excretion,inp_n_excretion,standard\r\n"
    ∷ "\"Deer, hill\",Livestock::RoughageConsuming::Excretion,tan_fraction,55.5\r\n"
    ∷ "\"Deer, hill\",Livestock::RoughageConsuming::Housing::CFreeFactor,free_correction_factor,-5\r\n"
    ∷ "\"Deer, hill\",Livestock::RoughageConsuming::Grazing,grazing_days,150\r\n"
    ∷ "\"Deer, hill\",Livestock::RoughageConsuming::Grazing,grazing_hours,12.5\r\n"
    ∷ "P 1,Livestock::FatteningPigs::Excretion,animals,100\r\n"
    ∷ "P 1,Livestock::FatteningPigs::Excretion,inp_n_excretion,13\r\n"
    ∷ "P 1,Livestock::FatteningPigs::Excretion,tan_fraction,70\r\n"
    ∷ "P 1,Livestock::FatteningPigs::Housing::Type,housing_type,Slurry_Conventional\r\n"
    ∷ "P 1,Livestock::FatteningPigs::Housing::AirScrubber,air_scrubber,acid\r\n"
    ∷ "P 1,Livestock::FatteningPigs::Housing::MitigationOptions,mitigation_housing_floor,none\r\n"
    ∷ "P 1,Livestock::FatteningPigs::Housing::MitigationOptions,mitigation_housing_air,low_impuls_air_supply\r\n"
    ∷ "P 1,Livestock::FatteningPigs::Housing::CFreeFactor,free_correction_factor,0\r\n"
    ∷ []

pub herds-written : file_of (deer ∷ pigs ∷ []) ≡ each bytes lines
unfolding file_of herd_file inputs_text record_text input_text value_text number_text signed_text name_text sign
    shortest pointed
    whole_of width label_of label_field has_comma
herds-written = refl
