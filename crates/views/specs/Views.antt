-- What is listed of a herd and of an accepted farm, by the view that a command asks for: the figures (01, The listing),
-- the notes, the cuts (02, W7), the reasons in records or in sentences (02, W2), the file that says the herds (02, W5);
-- and when it is refused. To be believed: `herd_text`, `viewed` and `view_checked`.
use Rattle.std.specs.Prelude.{ℕ, Bool, true, false, List, Err}
use Rattle.base.specs.Pick.{pick}
use Rattle.base.specs.Refused.{refuse}
use Rattle.farm.specs.declared.Herd.{Herd}
use Rattle.farm.specs.declared.Farm.{Farm}
use Rattle.farm.specs.Answers.{Accepted, Checked}
use Rattle.checks.specs.Checks.{herds_of}
use Rattle.line_parts.specs.Fields.{each}
use Rattle.lines_figures.specs.Lines.{listing_of, farm_listing}
use Rattle.lines_notes.specs.Records.{herd_notes}
use Rattle.lines_cuts.specs.Lines.{herd_cut_lines}
use Rattle.lines_reasons.specs.declared.Wording.TheVariants.{Record, Sentence}
use Rattle.lines_reasons.specs.Lines.{herd_why}
use Rattle.file_text.specs.Files.{herd_file}
use Rattle.file_length.specs.Limit.{file_checked}
use Rattle.views.specs.declared.View.{View}
use Rattle.views.specs.declared.View.TheVariants.{Figures, Notes, Cuts, Reasons, Sentences, File}

unfoldable pub herd_text : View → Herd → List ℕ
herd_text Figures h = listing_of h
herd_text Notes h = herd_notes h
herd_text Cuts h = herd_cut_lines h
herd_text Reasons h = herd_why Record h
herd_text Sentences h = herd_why Sentence h
herd_text File h = herd_file h

-- herd after herd; "then the totals" behind the figures
unfoldable pub viewed : View → Farm → List ℕ
viewed Figures f = farm_listing f
viewed Notes f = each (herd_text Notes) (herds_of f)
viewed Cuts f = each (herd_text Cuts) (herds_of f)
viewed Reasons f = each (herd_text Reasons) (herds_of f)
viewed Sentences f = each (herd_text Sentences) (herds_of f)
viewed File f = each (herd_text File) (herds_of f)

-- a file alone has a limit, that of 02, W12
abbrev pub has_limit : View → Bool
has_limit Figures = false
has_limit Notes = false
has_limit Cuts = false
has_limit Reasons = false
has_limit Sentences = false
has_limit File = true

-- whether an accepted farm is refused in a view
unfoldable pub view_checked : View → Farm → Checked
view_checked view f = pick (has_limit view) (file_checked (viewed view f)) Accepted

-- what reading or the checks of the farm refuse comes before
abbrev pub checked_for : View → Checked → Farm → Checked
checked_for view Accepted f = view_checked view f
checked_for view (Err refused) f = Err refused

-- ---- as the code asks; no reader has to believe it

abbrev pub is_figures : View → Bool
is_figures Figures = true
is_figures Notes = false
is_figures Cuts = false
is_figures Reasons = false
is_figures Sentences = false
is_figures File = false
