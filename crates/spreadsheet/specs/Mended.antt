-- 02, W6: the mended file, and the list of changes. "Build a tool that drops the bytes EF BB BF at the very front,
-- puts CR before every LF that has none and has an even number of quote bytes before it, and changes nothing else. It
-- lists each change with its kind (1 mark dropped, 2 CR put in) and its place in the old file (0 for the mark, else
-- the offset of the LF), places rising." To be believed.
use Rattle.std.specs.Prelude.{ℕ, Bool, List, [], ◌∷◌, ◌++◌, length, take, drop}
use Rattle.base.specs.Pick.{pick}
use Rattle.spreadsheet.specs.Faults.{cr, mark_length, marked, bare}

-- ---- changes

pub data Change : Type 0 where
  mark_dropped : Change
  cr_put : (place : ℕ) → Change

abbrev pub kind_of : Change → ℕ
kind_of mark_dropped = 1
kind_of (cr_put place) = 2

abbrev pub place_of : Change → ℕ
place_of mark_dropped = 0
place_of (cr_put place) = place

-- the list as numbers: kind and place one after the other
abbrev pub entries : List Change → List ℕ
entries [] = []
entries (c ∷ cs) = kind_of c ∷ place_of c ∷ entries cs

-- ---- one byte, which is bare or not, at its place in the old file

abbrev pub mended_byte : Bool → ℕ → List ℕ
mended_byte is_bare b = pick is_bare (cr ∷ b ∷ []) (b ∷ [])

abbrev pub change_at : Bool → ℕ → List Change
change_at is_bare place = pick is_bare (cr_put place ∷ []) []

-- ---- the bytes that stand behind others in the old file

unfoldable pub mended_from : List ℕ → List ℕ → List ℕ
mended_from before [] = []
mended_from before (b ∷ rest) = mended_byte (bare before b) b ++ mended_from (before ++ (b ∷ [])) rest

unfoldable pub changes_from : List ℕ → List ℕ → List Change
changes_from before [] = []
changes_from before (b ∷ rest) = change_at (bare before b) (length before) ++ changes_from (before ++ (b ∷ [])) rest

-- ---- the file

-- where the text begins: past the mark, if there is one
abbrev pub text_start : Bool → ℕ
text_start is_marked = pick is_marked mark_length 0

abbrev pub mark_change : Bool → List Change
mark_change is_marked = pick is_marked (mark_dropped ∷ []) []

unfoldable pub mended_of : List ℕ → List ℕ
mended_of s = let start = text_start (marked s) in mended_from (take start s) (drop start s)

unfoldable pub changes_of : List ℕ → List Change
changes_of s = let start = text_start (marked s) in mark_change (marked s) ++ changes_from (take start s) (drop start s)
