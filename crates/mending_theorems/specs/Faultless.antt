-- 02, W6: the faults of a file, said of its bytes alone, and what it is to have none. To be believed; no word here of
-- how mending goes.
use Rattle.std.specs.Prelude.{ℕ, ◌<◌, ◌≡◌, true, List, [], ◌∷◌, ◌++◌, length}
use Rattle.spreadsheet.specs.Faults.{cr, lf, mark, quotes, even}
use Rattle.spreadsheet.specs.Mended.{Change, place_of}

-- "the bytes EF BB BF at the very front"
pub record Marked (s : List ℕ) : Type 0 where
  pub rest : List ℕ
  pub begins : s ≡ mark ++ rest

pub record TwiceMarked (s : List ℕ) : Type 0 where
  pub rest : List ℕ
  pub begins : s ≡ mark ++ (mark ++ rest)

-- at this place stands an LF "that has none", no CR right before it, "and has an even number of quote bytes before it"
pub record BareAt (s : List ℕ) (place : ℕ) : Type 0 where
  pub before : List ℕ
  pub after : List ℕ
  pub stands : s ≡ before ++ (lf ∷ after)
  pub at : length before ≡ place
  pub no_cr : (start : List ℕ) → before ≡ start ++ (cr ∷ []) → ⊥
  pub even_quotes : even (quotes before) ≡ true

-- "a file without these faults"
pub record Faultless (s : List ℕ) : Type 0 where
  pub no_mark : Marked s → ⊥
  pub no_bare : (place : ℕ) → BareAt s place → ⊥

-- ---- of a list of changes

-- the change is one of the list
pub data Lists (c : Change) : List Change → Type 0 where
  first : {d : Change} {cs : List Change} → d ≡ c → Lists c (d ∷ cs)
  later : {d : Change} {cs : List Change} → Lists c cs → Lists c (d ∷ cs)

-- "places rising"
pub data Rising : List Change → Type 0 where
  none : Rising []
  one : {c : Change} → Rising (c ∷ [])
  more : {c d : Change} {cs : List Change} → place_of c < place_of d → Rising (d ∷ cs) → Rising (c ∷ d ∷ cs)
