-- 01, The farm file: how a number is read, byte by byte. That this takes just the numbers of `Numbers`, with their
-- values, is proved in proofs/Agrees.
use Rattle.std.specs.Prelude.{ℕ, List, [], ◌∷◌, None, Some}
use Rattle.base.specs.Pick.{if◌is◌then◌else◌}
use Rattle.digits.specs.Digits.{if_digit◌then◌, more, scaled_by, point_from, up_to, Number}

-- `.`
abbrev pub point : ℕ
point = 46

-- `0`
abbrev pub zero_digit : ℕ
zero_digit = 48

-- the whole part: v was read before these bytes
unfoldable pub whole_from : ℕ → ℕ → List ℕ → Number
whole_from d v [] = scaled_by v d
whole_from d v (b ∷ rest) =
    if b is point then point_from d v rest else
    if_digit b then whole_from d (more v b) rest

-- behind a zero that the text begins with
unfoldable pub zero_from : ℕ → List ℕ → Number
zero_from d [] = Some 0
zero_from d (b ∷ rest) = if b is point then point_from d 0 rest else None

-- the whole text
unfoldable pub any_number_of : List ℕ → ℕ → Number
any_number_of [] d = None
any_number_of (b ∷ rest) d =
    if b is zero_digit then zero_from d rest else
    if_digit b then whole_from d (more 0 b) rest

unfoldable pub number_of : List ℕ → ℕ → ℕ → Number
number_of s d most = up_to most (any_number_of s d)
