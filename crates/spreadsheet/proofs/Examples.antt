-- A file of a spreadsheet and its changes, computed from the definitions. Assumes nothing.
use Prim.Native.Nat.{ℕ}
use mathlib.Core.Path.{◌≡◌, refl}
use mathlib.Core.List.{List, [], ◌∷◌}
use Rattle.base.specs.Text.{bytes}
use Rattle.base.specs.Part.{same_bytes}
use Rattle.spreadsheet.specs.Faults.{marked, bare}
use Rattle.spreadsheet.specs.Mended.{entries, changes_from, changes_of}
use Rattle.spreadsheet.specs.Mended.Change.{mark_dropped, cr_put}

-- "the bytes EF BB BF at the very front", an LF inside quotes, one that has its CR, and two that lack it
abbrev file : List ℕ
file = 239 ∷ 187 ∷ 191 ∷ bytes "a\n\"b\n\"\r\nc\n"

-- the places are those of the old file
pub listed : changes_of file ≡ mark_dropped ∷ cr_put 4 ∷ cr_put 12 ∷ []
unfolding changes_of changes_from marked bare same_bytes
listed = refl

-- as numbers: "its kind (1 mark dropped, 2 CR put in) and its place"
pub numbered : entries (changes_of file) ≡ 1 ∷ 0 ∷ 2 ∷ 4 ∷ 2 ∷ 12 ∷ []
unfolding changes_of changes_from marked bare same_bytes
numbered = refl
