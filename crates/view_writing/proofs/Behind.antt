-- A view is the texts of the herds, and what stands behind them. Assumes nothing.
use mathlib.Core.Path.{◌≡◌, refl}
use mathlib.Core.List.{◌++◌, append-nil}
use Rattle.farm.specs.declared.Farm.{Farm}
use Rattle.checks.specs.Checks.{herds_of}
use Rattle.line_parts.specs.Fields.{each}
use Rattle.lines_figures.specs.Lines.{farm_listing}
use Rattle.views.specs.declared.View.{View}
use Rattle.views.specs.declared.View.TheVariants.{Figures, Notes, Cuts, Reasons, Sentences, File}
use Rattle.views.specs.Views.{herd_text, viewed}
use Rattle.view_writing.specs.Behind.{behind}

pub in_parts : (v : View) (f : Farm) → each (herd_text v) (herds_of f) ++ behind v f ≡ viewed v f
unfolding viewed farm_listing herd_text behind
in_parts Figures f = refl
in_parts Notes f = append-nil (each (herd_text Notes) (herds_of f))
in_parts Cuts f = append-nil (each (herd_text Cuts) (herds_of f))
in_parts Reasons f = append-nil (each (herd_text Reasons) (herds_of f))
in_parts Sentences f = append-nil (each (herd_text Sentences) (herds_of f))
in_parts File f = append-nil (each (herd_text File) (herds_of f))
