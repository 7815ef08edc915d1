-- 02, W6: the two faults that a spreadsheet puts into a file: "the bytes EF BB BF at the very front", and an "LF that
-- has none [no CR right before it] and has an even number of quote bytes before it". To be believed.
use Rattle.std.specs.Prelude.{ℕ, zero, suc, Bool, true, false, not, List, [], ◌∷◌, take}
use Rattle.base.specs.Pick.{if◌is◌then◌else◌}
use Rattle.base.specs.Part.{same_bytes}

-- the bytes that the request names
abbrev pub cr : ℕ
cr = 13

abbrev pub lf : ℕ
lf = 10

abbrev pub quote : ℕ
quote = 34

-- EF BB BF, the UTF-8 byte order mark
abbrev pub mark : List ℕ
mark = 239 ∷ 187 ∷ 191 ∷ []

abbrev pub mark_length : ℕ
mark_length = 3

-- the mark stands at the very front
unfoldable pub marked : List ℕ → Bool
marked s = same_bytes (take mark_length s) mark

-- the last of some bytes, and `other` where there are none
abbrev pub last : ℕ → List ℕ → ℕ
last other [] = other
last other (b ∷ rest) = last b rest

-- how many quote bytes there are
abbrev pub quotes : List ℕ → ℕ
quotes [] = 0
quotes (b ∷ rest) = if b is quote then suc (quotes rest) else quotes rest

abbrev pub even : ℕ → Bool
even zero = true
even (suc n) = not (even n)

-- the byte b, with these bytes before it, is an LF that lacks its CR; where no byte stands before it, no CR does
unfoldable pub bare : List ℕ → ℕ → Bool
bare before b = if b is lf then (if last 0 before is cr then false else even (quotes before)) else false
