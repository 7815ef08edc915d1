-- From the bytes of a file to the bytes that are printed for it, computed from the definitions: a farm of a herd of
-- each kind, in every view; and a file for each refusal of reading. Assumes nothing.
use Prim.Native.String.{String}
use mathlib.Core.Path.{◌≡◌, refl, ap, ◌∙◌}
use mathlib.Core.List.{List, [], ◌∷◌, ◌++◌, map}
use Rattle.base.specs.Text.{bytes}
use Rattle.decimal.specs.Writing.{width, whole_of}
use Rattle.kilogram_text.specs.Kilograms.{thousandths_of, sign, kilograms_of}
use Rattle.farm.specs.Labels.{label_of}
use Rattle.limits.specs.declared.Source.TheVariants.{StandardInput}
use Rattle.reader.specs.declared.FileAnswer.{FileAnswer}
use Rattle.rules_theorems.specs.Rules.{farm_of}
use Rattle.rules_theorems.proofs.Accepts.{accepts-exactly}
use Rattle.rules_theorems.proofs.Passing.{accepted-passes}
use Rattle.worked_files.proofs.Examples.{four_kinds, four_herds, four-kinds-read, Example, refusals, refusals-worked}
use Rattle.tables.specs.Standards.{standard_of}
use Rattle.tables.specs.Growth.{k_of, within_day, k_at, nearest, growth_num, growth_den, exp_num, exp_den}
use Rattle.kinds.specs.Choices.{yard_at, floor_at, housing_at, scrubber_at, housing_floor_at, housing_air_at}
use Rattle.yard.specs.Yard.{days_with_grazing_and_yard, share_lowered, share_excretion_with_grazing, yard_time}
use Rattle.pasture.specs.Pasture.{outdoor_grazing_time, roughage_grazing_time}
use Rattle.notes.specs.Notes.{notes_of}
use Rattle.typed_inputs.specs.Typed.{roughage_of, outdoor_of, cattle_of, pigs_of, typed_of}
use Rattle.outputs.specs.Grams.{by_number, farm_total, totals_of}
use Rattle.herd.specs.Herd.{figures_of}
use Rattle.cuts.specs.Herd.{cuts_of}
use Rattle.reasons.specs.Reasons.{reason_of, told_of}
use Rattle.model.specs.Answers.{herd_figures, farm_answer}
use Rattle.refusal_line.specs.Lines.{refusal_line}
use Rattle.line_parts.specs.Fields.{has_comma, label_field, each}
use Rattle.listing.specs.Listing.{line_of, herd_lines, totals_listing}
use Rattle.listing.proofs.Examples.{pig_lines, cattle_lines, dairy_lines, deer_lines, total_lines}
use Rattle.shortest_numbers.specs.Shortest.{shortest, pointed}
use Rattle.word_texts.specs.Words.{name_text}
use Rattle.value_texts.specs.Values.{value_text, number_text, signed_text}
use Rattle.file_text.specs.Files.{input_text, record_text, inputs_text, herd_file}
use Rattle.lines_figures.specs.Lines.{farm_listing}
use Rattle.lines_notes.specs.Records.{notes_record}
use Rattle.lines_cuts.specs.Lines.{cut_line, numbers_of as cut_numbers, cut_lines as herd_cuts}
use Rattle.lines_reasons.specs.Lines.{tenths_of, numbers_of as why_numbers, why_record, days_words, shares_words}
use Rattle.lines_reasons.specs.Lines.{why_sentence}
use Rattle.views.specs.declared.View.{View}
use Rattle.views.specs.declared.View.TheVariants.{Figures, Notes, Cuts, Reasons, Sentences, File}
use Rattle.views.specs.Views.{herd_text, viewed, checked_for}
use Rattle.views.specs.Program.{printed, output_of}
use Rattle.contracts.proofs.RecordSteps.{farm_figured}
use Rattle.promises.proofs.Commands.{prints-input}

-- ---- a herd of each kind: the pigs of 01, the cattle of its row 1, dairy cows (02, W9) and fallow deer

abbrev note_lines : List String
note_lines =
    "P1,no,no,no,no,no\r\n"
    ∷ "\"C, partly\",no,no,no,no,no\r\n"
    ∷ "Milk,no,no,no,yes,no\r\n"
    ∷ "Deer,no,no,no,no,no\r\n"
    ∷ []

abbrev cut_lines : List String
cut_lines =
    "P1,Livestock::FatteningPigs::Excretion,tan_excretion,0,10000\r\n"
    ∷ "P1,Livestock::FatteningPigs::Grazing,nh3_ngrazing,0,10000\r\n"
    ∷ "P1,Livestock::FatteningPigs::Grazing,n2_ngrazing,0,10000\r\n"
    ∷ "P1,Livestock::FatteningPigs::Grazing,no_ngrazing,0,10000\r\n"
    ∷ "P1,Livestock::FatteningPigs::Grazing,n2o_ngrazing,0,10000\r\n"
    ∷ "P1,Livestock::FatteningPigs::Housing,ef_housing_indoor_before_air_scrubber:c_free_factor_housing,0,100\r\n"
    ∷ "P1,Livestock::FatteningPigs::Housing,ef_housing_indoor_before_air_scrubber:red_housing_air,0,10\r\n"
    ∷ "P1,Livestock::FatteningPigs::Housing,ef_housing_indoor,0,10\r\n"
    ∷ "P1,Livestock::FatteningPigs::Housing,ef_housing_grazing:c_free_factor_housing,0,100\r\n"
    ∷ "P1,Livestock::FatteningPigs::Housing,ef_nh3_nhousing:ef_housing_indoor,0,10\r\n"
    ∷ "P1,Livestock::FatteningPigs::Housing,ef_nh3_nhousing:ef_housing_grazing,0,10\r\n"
    ∷ "P1,Livestock::FatteningPigs::Housing,nh3_nhousing,0,1000000000\r\n"
    ∷ "P1,Livestock::FatteningPigs::NxOx,n2_nsolid,0,10000\r\n"
    ∷ "P1,Livestock::FatteningPigs::NxOx,no_nsolid,0,10000\r\n"
    ∷ "P1,Livestock::FatteningPigs::NxOx,n2o_nsolid,0,10000\r\n"
    ∷ "P1,Livestock::FatteningPigs::NxOx,n2_nliquid,0,10000\r\n"
    ∷ "P1,Livestock::FatteningPigs::NxOx,no_nliquid,0,10000\r\n"
    ∷ "P1,Livestock::FatteningPigs::NxOx,n2o_nliquid,0,10000\r\n"
    ∷ "\"C, partly\",Livestock::OtherCattle::Excretion,tan_excretion,0,10000\r\n"
    ∷ "\"C, partly\",Livestock::OtherCattle::Yard,n_into_yard,0,3650\r\n"
    ∷ "\"C, partly\",Livestock::OtherCattle::Yard,tan_into_yard,0,3650\r\n"
    ∷ "\"C, partly\",Livestock::OtherCattle::Yard,nh3_nyard,0,100000000\r\n"
    ∷ "\"C, partly\",Livestock::OtherCattle::Grazing,n_into_grazing,0,876000\r\n"
    ∷ "\"C, partly\",Livestock::OtherCattle::Grazing,tan_into_grazing,0,876000\r\n"
    ∷ "\"C, partly\",Livestock::OtherCattle::Grazing,nh3_ngrazing,0,10000\r\n"
    ∷ "\"C, partly\",Livestock::OtherCattle::Grazing,n2_ngrazing,0,10000\r\n"
    ∷ "\"C, partly\",Livestock::OtherCattle::Grazing,no_ngrazing,0,10000\r\n"
    ∷ "\"C, partly\",Livestock::OtherCattle::Grazing,n2o_ngrazing,0,10000\r\n"
    ∷ "Milk,Livestock::DairyCow::Excretion,tan_excretion,0,10000\r\n"
    ∷ "Milk,Livestock::DairyCow::Yard,n_into_yard,2000,3650\r\n"
    ∷ "Milk,Livestock::DairyCow::Yard,tan_into_yard,1100,3650\r\n"
    ∷ "Milk,Livestock::DairyCow::Yard,nh3_nyard,20000000,100000000\r\n"
    ∷ "Milk,Livestock::DairyCow::Grazing,n_into_grazing,396000,876000\r\n"
    ∷ "Milk,Livestock::DairyCow::Grazing,tan_into_grazing,612000,876000\r\n"
    ∷ "Milk,Livestock::DairyCow::Grazing,nh3_ngrazing,790,10000\r\n"
    ∷ "Milk,Livestock::DairyCow::Grazing,n2_ngrazing,0,10000\r\n"
    ∷ "Milk,Livestock::DairyCow::Grazing,no_ngrazing,1345,10000\r\n"
    ∷ "Milk,Livestock::DairyCow::Grazing,n2o_ngrazing,5800,10000\r\n"
    ∷ "Deer,Livestock::RoughageConsuming::Excretion,tan_excretion,0,10000\r\n"
    ∷ "Deer,Livestock::RoughageConsuming::Grazing,n_into_grazing,55200,87600\r\n"
    ∷ "Deer,Livestock::RoughageConsuming::Grazing,tan_into_grazing,39600,87600\r\n"
    ∷ "Deer,Livestock::RoughageConsuming::Grazing,nh3_ngrazing,8750,10000\r\n"
    ∷ "Deer,Livestock::RoughageConsuming::Grazing,n2_ngrazing,0,10000\r\n"
    ∷ "Deer,Livestock::RoughageConsuming::Grazing,no_ngrazing,3390,10000\r\n"
    ∷ "Deer,Livestock::RoughageConsuming::Grazing,n2o_ngrazing,9800,10000\r\n"
    ∷ "Deer,Livestock::RoughageConsuming::Housing,c_grazing,44400,81600\r\n"
    ∷ "Deer,Livestock::RoughageConsuming::Housing,ef_nh3_nhousing:er_housing,150,1000\r\n"
    ∷ "Deer,Livestock::RoughageConsuming::Housing,ef_nh3_nhousing:c_free_factor_housing,0,100\r\n"
    ∷ "Deer,Livestock::RoughageConsuming::Housing,nh3_nhousing,830718106,1000000000\r\n"
    ∷ []

abbrev reason_lines : List String
reason_lines =
    "\"C, partly\",as_chosen,200,0.2\r\n"
    ∷ "Milk,lowered,200,0.2\r\n"
    ∷ []

abbrev sentences : List String
sentences =
    "\"C, partly\": with both yard and pasture on 200 of 365 days, the yard's share on such days is 0.2, "
    ∷ "the same as the chosen share of 0.2.\r\n"
    ∷ "Milk: with both yard and pasture on 200 of 365 days, the yard's share on such days is 0.2, "
    ∷ "lowered from the chosen share of 0.6.\r\n"
    ∷ []

abbrev file_lines : List String
file_lines =
    "P1,Livestock::FatteningPigs::Excretion,animals,10\r\n"
    ∷ "P1,Livestock::FatteningPigs::Excretion,inp_n_excretion,13\r\n"
    ∷ "P1,Livestock::FatteningPigs::Excretion,tan_fraction,70\r\n"
    ∷ "P1,Livestock::FatteningPigs::Housing::Type,housing_type,Outdoor\r\n"
    ∷ "P1,Livestock::FatteningPigs::Housing::AirScrubber,air_scrubber,none\r\n"
    ∷ "P1,Livestock::FatteningPigs::Housing::MitigationOptions,mitigation_housing_floor,none\r\n"
    ∷ "P1,Livestock::FatteningPigs::Housing::MitigationOptions,mitigation_housing_air,none\r\n"
    ∷ "P1,Livestock::FatteningPigs::Housing::CFreeFactor,free_correction_factor,0\r\n"
    ∷ "\"C, partly\",Livestock::OtherCattle::Excretion,animals,10\r\n"
    ∷ "\"C, partly\",Livestock::OtherCattle::Excretion,inp_n_excretion,73\r\n"
    ∷ "\"C, partly\",Livestock::OtherCattle::Excretion,tan_fraction,60\r\n"
    ∷ "\"C, partly\",Livestock::OtherCattle::Outdoor,yard_days,365\r\n"
    ∷ "\"C, partly\",Livestock::OtherCattle::Outdoor,exercise_yard,"
    ∷ "available_roughage_is_partly_supplied_in_the_exercise_yard\r\n"
    ∷ "\"C, partly\",Livestock::OtherCattle::Outdoor,floor_properties_exercise_yard,solid_floor\r\n"
    ∷ "\"C, partly\",Livestock::OtherCattle::Outdoor,free_correction_factor,0\r\n"
    ∷ "\"C, partly\",Livestock::OtherCattle::Outdoor,grazing_days,200\r\n"
    ∷ "\"C, partly\",Livestock::OtherCattle::Outdoor,grazing_hours,12\r\n"
    ∷ "Milk,Livestock::DairyCow::Excretion,animals,10\r\n"
    ∷ "Milk,Livestock::DairyCow::Excretion,inp_n_excretion,112\r\n"
    ∷ "Milk,Livestock::DairyCow::Excretion,tan_fraction,standard\r\n"
    ∷ "Milk,Livestock::DairyCow::Outdoor,yard_days,365\r\n"
    ∷ "Milk,Livestock::DairyCow::Outdoor,exercise_yard,"
    ∷ "available_roughage_is_exclusively_supplied_in_the_exercise_yard\r\n"
    ∷ "Milk,Livestock::DairyCow::Outdoor,floor_properties_exercise_yard,solid_floor\r\n"
    ∷ "Milk,Livestock::DairyCow::Outdoor,free_correction_factor,0\r\n"
    ∷ "Milk,Livestock::DairyCow::Outdoor,grazing_days,200\r\n"
    ∷ "Milk,Livestock::DairyCow::Outdoor,grazing_hours,12\r\n"
    ∷ "Deer,Livestock::RoughageConsuming::Excretion,animalcategory,fallow_deer\r\n"
    ∷ "Deer,Livestock::RoughageConsuming::Excretion,animals,10\r\n"
    ∷ "Deer,Livestock::RoughageConsuming::Excretion,inp_n_excretion,standard\r\n"
    ∷ "Deer,Livestock::RoughageConsuming::Excretion,tan_fraction,standard\r\n"
    ∷ "Deer,Livestock::RoughageConsuming::Housing::CFreeFactor,free_correction_factor,0\r\n"
    ∷ "Deer,Livestock::RoughageConsuming::Grazing,grazing_days,100\r\n"
    ∷ "Deer,Livestock::RoughageConsuming::Grazing,grazing_hours,6\r\n"
    ∷ []

abbrev pub lines_of : View → List String
lines_of Figures = pig_lines ++ cattle_lines ++ dairy_lines ++ deer_lines ++ total_lines
lines_of Notes = note_lines
lines_of Cuts = cut_lines
lines_of Reasons = reason_lines
lines_of Sentences = sentences
lines_of File = file_lines

-- the totals are those of the herds, since they pass the checks
totals-are : (farm_answer (farm_of four_herds)).totals ≡ totals_of (map herd_figures four_herds)
totals-are = farm_figured (farm_of four_herds)
    (accepted-passes StandardInput four_kinds (farm_of four_herds) four-kinds-read)

viewed-whole : (v : View) → viewed v (farm_of four_herds) ≡ each bytes (lines_of v)
unfolding viewed herd_text farm_listing herd_lines totals_listing line_of notes_record herd_cuts cut_line cut_numbers
    why_record
    why_numbers why_sentence days_words shares_words tenths_of label_field has_comma label_of kilograms_of sign
    thousandths_of
    whole_of width totals_of by_number farm_total figures_of notes_of cuts_of told_of reason_of typed_of roughage_of
    outdoor_of
    cattle_of pigs_of yard_at floor_at housing_at scrubber_at housing_floor_at housing_air_at standard_of
    days_with_grazing_and_yard share_lowered share_excretion_with_grazing yard_time outdoor_grazing_time
    roughage_grazing_time k_of within_day k_at nearest growth_num growth_den exp_num exp_den herd_file inputs_text
    record_text
    input_text value_text number_text signed_text name_text shortest pointed
viewed-whole Figures = rw totals-are refl
viewed-whole Notes = refl
viewed-whole Cuts = refl
viewed-whole Reasons = refl
viewed-whole Sentences = refl
viewed-whole File = refl

pub farm-printed : (v : View) → output_of StandardInput v four_kinds ≡ each bytes (lines_of v)
farm-printed v =
    let keeps = (accepts-exactly StandardInput four_kinds (farm_of four_herds)).0 four-kinds-read in
    prints-input v four_kinds (farm_of four_herds) keeps ∙ viewed-whole v

-- ---- a file for each refusal, in the order of their numbers: "`refused,NUMBER,RECORD` and CRLF"

abbrev refused_lines : List String
refused_lines =
    "refused,1,0\r\n"
    ∷ "refused,2,1\r\n"
    ∷ "refused,3,1\r\n"
    ∷ "refused,4,1\r\n"
    ∷ "refused,5,1\r\n"
    ∷ "refused,6,1\r\n"
    ∷ "refused,7,1\r\n"
    ∷ "refused,8,10\r\n"
    ∷ "refused,9,65\r\n"
    ∷ "refused,10,2\r\n"
    ∷ "refused,11,2\r\n"
    ∷ "refused,12,1\r\n"
    ∷ []

pub refusals-printed : (v : View)
    → map (λ (e : Example). output_of StandardInput v e.file) refusals ≡ map bytes refused_lines
unfolding output_of refusal_line whole_of width
refusals-printed v =
    ap (map (λ (a : FileAnswer). printed v (checked_for v a.checked a.farm) a.farm)) refusals-worked
