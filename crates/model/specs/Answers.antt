-- What a record that is handed in gives: the figures in grams and in kilograms, notes and cuts, or a refusal and zeros
-- beside it. (01, Refusal numbers: "A public call handed a record in place of a file checks it too".)
use Rattle.std.specs.Prelude.{◌≡◌, [], map, Err}
use Rattle.farm.specs.declared.Herd.{Herd}
use Rattle.farm.specs.declared.Farm.{Farm}
use Rattle.farm.specs.Answers.{Accepted, Checked}
use Rattle.checks.specs.Checks.{check_herd, check_farm, herds_of}
use Rattle.notes.specs.Notes.{notes_of, no_notes}
use Rattle.typed_inputs.specs.Typed.{typed_of}
use Rattle.outputs.specs.declared.Figures.{Figures}
use Rattle.outputs.specs.declared.Totals.{Totals}
use Rattle.outputs.specs.Grams.{no_figures, summed, totals_of, GramsTo, figure_most}
use Rattle.kilograms.specs.Kilograms.{kilograms_of, total_kilograms_of}
use Rattle.herd.specs.Herd.{figures_of}
use Rattle.cuts.specs.declared.Cuts.{Cuts}
use Rattle.cuts.specs.Cuts.{no_cuts}
use Rattle.cuts.specs.Herd.{cuts_of}
use Rattle.model.specs.declared.HerdAnswer.{HerdAnswer}
use Rattle.model.specs.declared.FarmAnswer.{FarmAnswer}

-- the figures of a herd's record
abbrev pub herd_figures : Herd → Figures
herd_figures h = figures_of (typed_of h)

-- its cuts
abbrev pub herd_cuts : Herd → Cuts
herd_cuts h = cuts_of (typed_of h)

abbrev pub answer_herd : Checked → Herd → HerdAnswer
answer_herd Accepted h =
    record {
      checked = Accepted;
      figures = herd_figures h;
      kilograms = kilograms_of (herd_figures h);
      notes = notes_of (typed_of h);
      cuts = herd_cuts h;
    }
answer_herd (Err refused) h =
    record {
      checked = Err refused;
      figures = no_figures;
      kilograms = kilograms_of no_figures;
      notes = no_notes;
      cuts = no_cuts;
    }

unfoldable pub herd_answer : Herd → HerdAnswer
herd_answer h = answer_herd (check_herd h) h

-- a farm's totals, in grams and in kilograms
abbrev pub answer_totals : Checked → Totals → FarmAnswer
answer_totals c t = record { checked = c; totals = t; kilograms = total_kilograms_of t }

abbrev pub answer_farm : Checked → Farm → FarmAnswer
answer_farm Accepted f = answer_totals Accepted (totals_of (map herd_figures (herds_of f)))
answer_farm (Err refused) f = answer_totals (Err refused) (totals_of [])

unfoldable pub farm_answer : Farm → FarmAnswer
farm_answer f = answer_farm (check_farm f) f

-- the sum of all herds' figures, and that it stays small
pub record Added (f : Farm) (r : Figures) : Type 0 where
  pub is : r.grams ≡ summed herd_figures (herds_of f)
  pub small : GramsTo figure_most r.grams
