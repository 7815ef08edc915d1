-- 01, The listing: its example, with the inputs of 02, W1, from the file's bytes to the listing's.
-- Assumes nothing.
use Prim.Native.String.{String}
use mathlib.Core.Path.{◌≡◌, refl, ap, ◌∙◌}
use mathlib.Core.List.{List, [], ◌∷◌}
use Rattle.base.specs.Text.{bytes}
use Rattle.inputs.specs.declared.Kind.TheVariants.{Pigs}
use Rattle.farm.specs.Labels.{label_of}
use Rattle.farm.specs.Answers.{Accepted}
use Rattle.limits.specs.declared.Source.TheVariants.{StandardInput}
use Rattle.limits.specs.Limits.{limits_of}
use Rattle.reader.specs.Files.{read_of, accepted}
use Rattle.rules_theorems.specs.Rules.{farm_of}
use Rattle.rules_theorems.proofs.Accepts.{accepts-exactly}
use Rattle.worked_files.proofs.Examples.{pig_herd, pigs-keep}
use Rattle.outputs.specs.declared.Figures.{Figures}
use Rattle.kinds.specs.Choices.{housing_at, scrubber_at, housing_floor_at, housing_air_at}
use Rattle.typed_inputs.specs.Typed.{typed_of, pigs_of}
use Rattle.herd.specs.Herd.{figures_of}
use Rattle.model.specs.Answers.{herd_figures}
use Rattle.line_parts.specs.Fields.{each}
use Rattle.listing.specs.Listing.{herd_listing}
use Rattle.listing.proofs.Examples.{pig_figures, pig_lines, pig-listed}
use Rattle.views.specs.declared.View.TheVariants as view
use Rattle.views.specs.Views.{herd_text}
use Rattle.contracts.specs.Listings.{file_herd_call, text_at}

-- the file
abbrev pub pig_file : List String
pig_file =
    "P1,Livestock::FatteningPigs::Excretion,animals,10\r\n"
    ∷ "P1,Livestock::FatteningPigs::Excretion,inp_n_excretion,13\r\n"
    ∷ "P1,Livestock::FatteningPigs::Excretion,tan_fraction,70\r\n"
    ∷ "P1,Livestock::FatteningPigs::Housing::Type,housing_type,Outdoor\r\n"
    ∷ "P1,Livestock::FatteningPigs::Housing::AirScrubber,air_scrubber,none\r\n"
    ∷ "P1,Livestock::FatteningPigs::Housing::MitigationOptions,mitigation_housing_floor,none\r\n"
    ∷ "P1,Livestock::FatteningPigs::Housing::MitigationOptions,mitigation_housing_air,none\r\n"
    ∷ "P1,Livestock::FatteningPigs::Housing::CFreeFactor,free_correction_factor,0\r\n"
    ∷ []

pigs-read : read_of (limits_of StandardInput) (each bytes pig_file) ≡ accepted (farm_of (pig_herd ∷ []))
pigs-read = (accepts-exactly StandardInput (each bytes pig_file) (farm_of (pig_herd ∷ []))).1 pigs-keep

-- its figures are those that 01 prints
pigs_figured : herd_figures pig_herd ≡ pig_figures
unfolding typed_of pigs_of housing_at scrubber_at housing_floor_at housing_air_at figures_of
pigs_figured = refl

pigs-listed : text_at view.Figures (farm_of (pig_herd ∷ [])) 0 ≡ each bytes pig_lines
unfolding label_of herd_text
pigs-listed = ap (λ (f : Figures). herd_listing pig_herd.label Pigs f) pigs_figured ∙ pig-listed

-- the herd call on 01's file, for its first herd: accepted, with 01's lines
pub pig-file-listed : file_herd_call StandardInput view.Figures (each bytes pig_file) 0
    ≡ record { checked = Accepted; listing = each bytes pig_lines }
unfolding file_herd_call
pig-file-listed = rw (pigs-read, pigs-listed)
