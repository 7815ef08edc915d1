-- What a command prints of the herds of a file that keeps the rules, as records: the figures (01, The listing), the
-- notes, the cuts (02, W7) and the reasons (02, W2). To be believed.
use Rattle.std.specs.Prelude.{ℕ, List, [], ◌∷◌, ◌++◌, map}
use Rattle.first_refusal.specs.Records.{Record}
use Rattle.farm.specs.declared.Herd.{Herd}
use Rattle.outputs.specs.Grams.{totals_of}
use Rattle.model.specs.Answers.{herd_figures}
use Rattle.line_parts.specs.Fields.{each}
use Rattle.listing.specs.Records as listing
use Rattle.lines_notes.specs.Records as noting
use Rattle.lines_cuts.specs.Records.{herd_cut_records}
use Rattle.lines_reasons.specs.Records.{herd_why_records}
use Rattle.views.specs.declared.View.{View}
use Rattle.views.specs.declared.View.TheVariants as views

-- the views that are records; a sentence is none
pub data Recorded : Type 0 where
  figures : Recorded
  notes : Recorded
  cuts : Recorded
  reasons : Recorded

abbrev pub view_of : Recorded → View
view_of figures = views.Figures
view_of notes = views.Notes
view_of cuts = views.Cuts
view_of reasons = views.Reasons

-- label, module, output name, kilograms; label, yes or no for each of five notes; label, module, name, what was cut
-- off, divisor; label, reason, days with both, share
abbrev pub field_count : Recorded → ℕ
field_count figures = 4
field_count notes = 6
field_count cuts = 5
field_count reasons = 4

abbrev pub herd_records : Recorded → Herd → List Record
herd_records figures h = listing.herd_records h.label h.kind (herd_figures h)
herd_records notes h = noting.herd_fields h ∷ []
herd_records cuts h = herd_cut_records h
herd_records reasons h = herd_why_records h

-- herd after herd; "then the totals" behind the figures
abbrev pub records_of : Recorded → List Herd → List Record
records_of figures hs = each (herd_records figures) hs ++ listing.total_records (totals_of (map herd_figures hs))
records_of notes hs = each (herd_records notes) hs
records_of cuts hs = each (herd_records cuts) hs
records_of reasons hs = each (herd_records reasons) hs
