-- What a writing call says and leaves: what the checks of a record or the reading of a file refuse comes before 13, and
-- so does 1 where a farm's file would be too long (02, W12). 01: "13 belongs to the writing calls alone, one a herd and
-- one for the totals." "Only then 13." "A herd call asked for a herd past the last of an accepted farm has an empty
-- listing: length 0, nothing written."
use Rattle.std.specs.Prelude.{ℕ, ◌≡◌, List, [], get_or, ltb, Err}
use Rattle.base.specs.Pick.{pick}
use Rattle.farm.specs.declared.Herd.{Herd}
use Rattle.farm.specs.declared.Farm.{Farm}
use Rattle.checks.specs.Checks.{check_herd, check_farm}
use Rattle.farm.specs.Herds.{no_herd}
use Rattle.farm.specs.Answers.{Accepted, Checked}
use Rattle.model.specs.Answers.{farm_answer}
use Rattle.limits.specs.declared.Source.{Source}
use Rattle.limits.specs.Limits.{limits_of}
use Rattle.reader.specs.Files.{read_of}
use Rattle.written.specs.Answer.{leaves, answers, Written}
use Rattle.listing.specs.Listing.{totals_listing}
use Rattle.views.specs.declared.View.{View}
use Rattle.views.specs.Views.{herd_text, viewed, view_checked, checked_for}
use Rattle.views.specs.Program.{read_for}

-- a call: what the checks find, and the listing where they find nothing
pub record Call : Type 0 where
  pub checked : Checked
  pub listing : List ℕ

-- the buffer afterwards
abbrev pub left : Checked → List ℕ → List ℕ → List ℕ
left Accepted listing old = leaves listing old
left (Err refused) listing old = old

-- the answer
abbrev pub answer_of : Checked → List ℕ → List ℕ → Written
answer_of Accepted listing old = answers listing old
answer_of (Err refused) listing old = Err refused

pub record Called (c : Call) (old new : List ℕ) (r : Written) : Type 0 where
  pub buffer : new ≡ left c.checked c.listing old
  pub answer : r ≡ answer_of c.checked c.listing old

-- ---- from a record

-- what the view lists of a herd
unfoldable pub herd_call : View → Herd → Call
herd_call view h = record { checked = check_herd h; listing = herd_text view h }

unfoldable pub totals_call : Farm → Call
totals_call f = record { checked = check_farm f; listing = totals_listing (farm_answer f).totals }

-- what the view lists of a farm that the checks accept, and of any
unfoldable pub accepted_call : View → Farm → Call
accepted_call view f = record { checked = view_checked view f; listing = viewed view f }

unfoldable pub farm_call : View → Farm → Call
farm_call view f = record { checked = checked_for view (check_farm f) f; listing = viewed view f }

-- ---- from a file, by where it comes from

-- of a farm's herd, counted from 0
abbrev pub text_at : View → Farm → ℕ → List ℕ
text_at view f i = pick (ltb i f.count) (herd_text view (get_or f.herds i no_herd)) []

-- what is read is accepted, and then this is listed of its farm; or it is refused
abbrev pub read_call : Source → (Farm → List ℕ) → List ℕ → Call
read_call source list s =
    record { checked = (read_of (limits_of source) s).checked; listing = list (read_of (limits_of source) s).farm }

unfoldable pub file_herd_call : Source → View → List ℕ → ℕ → Call
file_herd_call source view s i = read_call source (λ f. text_at view f i) s

unfoldable pub file_totals_call : Source → List ℕ → Call
file_totals_call source s = read_call source (λ f. totals_listing (farm_answer f).totals) s

-- a whole file: what the view lists of its farm
unfoldable pub file_call : Source → View → List ℕ → Call
file_call source view s =
    record { checked = read_for source view s; listing = viewed view (read_of (limits_of source) s).farm }
