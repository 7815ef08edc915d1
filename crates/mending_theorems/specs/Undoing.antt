-- 02, W6: "Undoing the listed changes gives the old file back". What it is to make listed changes, and to undo them.
-- To be believed.
use Rattle.std.specs.Prelude.{ℕ, suc, ◌+◌, ◌-◌, List, [], ◌∷◌, ◌++◌, take, drop}
use Rattle.spreadsheet.specs.Faults.{cr, mark, mark_length}
use Rattle.spreadsheet.specs.Mended.{Change}
use Rattle.spreadsheet.specs.Mended.Change.{mark_dropped, cr_put}

-- the mark is put back; the CR that stands at a place is left out. m are the mended bytes that begin at place p of
-- the old file
unfoldable pub undone_from : ℕ → List Change → List ℕ → List ℕ
undone_from p [] m = m
undone_from p (mark_dropped ∷ cs) m = mark ++ undone_from (p + mark_length) cs m
undone_from p (cr_put place ∷ cs) m = take (place - p) m ++ undone_from place cs (drop (suc (place - p)) m)

abbrev pub undone : List Change → List ℕ → List ℕ
undone cs m = undone_from 0 cs m

-- the mark is left out; a CR is put in at a place. s are the bytes of the old file from place p on
unfoldable pub made_from : ℕ → List Change → List ℕ → List ℕ
made_from p [] s = s
made_from p (mark_dropped ∷ cs) s = made_from (p + mark_length) cs (drop mark_length s)
made_from p (cr_put place ∷ cs) s = take (place - p) s ++ (cr ∷ made_from place cs (drop (place - p) s))

abbrev pub made : List Change → List ℕ → List ℕ
made cs s = made_from 0 cs s
