-- Demand 2, of records and of files: what the calls `herd_figures` and `farm_totals` give where nothing is refused, and
-- what reading and those two give of a file that keeps the rules. To be believed.
use Rattle.std.specs.Prelude.{ℕ, ◌≡◌, List, map}
use Rattle.base.specs.Each.{Each}
use Rattle.farm.specs.declared.Herd.{Herd}
use Rattle.farm.specs.Answers.{Accepted}
use Rattle.limits.specs.declared.Source.{Source}
use Rattle.limits.specs.Limits.{limits_of}
use Rattle.reader.specs.Files.{read_of, accepted}
use Rattle.rules_theorems.specs.Rules.{farm_of}
use Rattle.notes.specs.Notes.{notes_of}
use Rattle.typed_inputs.specs.Typed.{typed_of}
use Rattle.outputs.specs.declared.Totals.{Totals}
use Rattle.outputs.specs.Grams.{totals_of}
use Rattle.kilograms.specs.Kilograms.{kilograms_of, total_kilograms_of}
use Rattle.herd.specs.Herd.{figures_of}
use Rattle.cuts.specs.Herd.{cuts_of}
use Rattle.model.specs.declared.HerdAnswer.{HerdAnswer}
use Rattle.model.specs.declared.FarmAnswer.{FarmAnswer}
use Rattle.model.specs.Answers.{herd_answer, farm_answer}

-- a herd: its figures, notes and cuts, by the formulas on its inputs; and the kilograms of the figures (02, W13)
abbrev pub herd_gets : Herd → HerdAnswer
herd_gets h =
    record {
      checked = Accepted;
      figures = figures_of (typed_of h);
      kilograms = kilograms_of (figures_of (typed_of h));
      notes = notes_of (typed_of h);
      cuts = cuts_of (typed_of h);
    }

-- a farm of these herds: the totals of their figures, and the kilograms of the totals
abbrev pub totals_get : Totals → FarmAnswer
totals_get t = record { checked = Accepted; totals = t; kilograms = total_kilograms_of t }

abbrev pub farm_gets : List Herd → FarmAnswer
farm_gets hs = totals_get (totals_of (map (λ h. figures_of (typed_of h)) hs))

-- a file from this source whose records say these herds
pub record FileGets (source : Source) (s : List ℕ) (hs : List Herd) : Type 0 where
  pub read : read_of (limits_of source) s ≡ accepted (farm_of hs)
  pub herds : Each (λ h. herd_answer h ≡ herd_gets h) hs
  pub totals : farm_answer (farm_of hs) ≡ farm_gets hs
