-- What was written of a herd is what the view lists of it, and no view lists more than its room. Assumes nothing.
use native.Mathlib.Omega.{arith}
use Prim.Native.Nat.{ℕ, ◌+◌, ◌≤◌}
use mathlib.Core.Path.{◌≡◌}
use mathlib.Core.List.{List}
use lib.ListN.{length}
use Rattle.base.specs.Wrote.{Wrote}
use Rattle.farm.specs.declared.Herd.{Herd}
use Rattle.farm.specs.Answers.{Accepted}
use Rattle.checks.specs.Checks.{check_herd}
use Rattle.listing_room.specs.Bounds.{herd_room}
use Rattle.lines_figures.specs.Lines.{listing_of}
use Rattle.lines_notes.specs.Records.{herd_notes}
use Rattle.lines_notes.specs.Rooms.{longest_record}
use Rattle.lines_cuts.specs.Lines.{herd_cut_lines}
use Rattle.lines_cuts.specs.Rooms.{longest_cuts}
use Rattle.lines_reasons.specs.declared.Wording.TheVariants.{Record, Sentence}
use Rattle.lines_reasons.specs.Lines.{herd_why}
use Rattle.lines_reasons.specs.Rooms.{longest_line}
use Rattle.file_text.specs.Files.{herd_file}
use Rattle.file_room.proofs.Lengths.{herd-fits}
use Rattle.views.specs.declared.View.{View}
use Rattle.views.specs.declared.View.TheVariants.{Figures, Notes, Cuts, Reasons, Sentences, File}
use Rattle.views.specs.Views.{herd_text}
use Rattle.views.specs.Rooms.{herd_view_room}

module _ (v : View) (h : Herd) (old new : List ℕ) (at r : ℕ) where
  pub figures-put : v ≡ Figures → Wrote old at (listing_of h) new r → Wrote old at (herd_text v h) new r
  unfolding herd_text
  figures-put e w = rw e w

  pub notes-put : v ≡ Notes → Wrote old at (herd_notes h) new r → Wrote old at (herd_text v h) new r
  unfolding herd_text
  notes-put e w = rw e w

  pub cuts-put : v ≡ Cuts → Wrote old at (herd_cut_lines h) new r → Wrote old at (herd_text v h) new r
  unfolding herd_text
  cuts-put e w = rw e w

  pub reasons-put : v ≡ Reasons → Wrote old at (herd_why Record h) new r → Wrote old at (herd_text v h) new r
  unfolding herd_text
  reasons-put e w = rw e w

  pub sentences-put : v ≡ Sentences → Wrote old at (herd_why Sentence h) new r → Wrote old at (herd_text v h) new r
  unfolding herd_text
  sentences-put e w = rw e w

  pub file-put : v ≡ File → Wrote old at (herd_file h) new r → Wrote old at (herd_text v h) new r
  unfolding herd_text
  file-put e w = rw e w

module _ (at r : ℕ) where
  pub figures-within : r ≤ at + herd_room → r ≤ at + herd_view_room
  figures-within b = omega (arith, b)

  pub notes-within : r ≤ at + longest_record → r ≤ at + herd_view_room
  notes-within b = omega (arith, b)

  pub cuts-within : r ≤ at + longest_cuts → r ≤ at + herd_view_room
  cuts-within b = omega (arith, b)

  pub why-within : r ≤ at + longest_line → r ≤ at + herd_view_room
  why-within b = omega (arith, b)

module _ (h : Herd) (e : check_herd h ≡ Accepted) (at : ℕ) where
  pub file-room : (out : List ℕ) → at + herd_view_room ≤ length out → at + length (herd_file h) ≤ length out
  file-room out b = omega (arith, b, herd-fits h e)

  pub file-within : (old new : List ℕ) (r : ℕ) → Wrote old at (herd_file h) new r → r ≤ at + herd_view_room
  file-within old new r w = omega (arith, w.past, herd-fits h e)

pub ruleset figures_steps = (figures-put, figures-within)

pub ruleset notes_steps = (notes-put, notes-within)

pub ruleset cuts_steps = (cuts-put, cuts-within)

pub ruleset why_steps = (reasons-put, sentences-put, why-within)

pub ruleset file_steps = (file-put, file-room, file-within)
