-- 01, The farm file: how digits are read, byte by byte, within a largest value. That reading takes just the numbers of
-- 01 is proved in `numbers/proofs/Agrees`.
use Rattle.std.specs.Prelude.{ℕ, ◌+◌, ◌-◌, ◌*◌, ◌^◌, List, [], ◌∷◌, leb, ltb, None, Some, Option}
use Rattle.base.specs.Pick.{pick, if◌is◌then◌else◌}

-- what a text says as a number, if it says one
abbrev pub Number : Type 0
Number = Option ℕ

-- x where b is one of `0` to `9`, else unreadable
infixr 5 if_digit◌then◌
abbrev pub if_digit◌then◌ : ℕ → Number → Number
if_digit b then x = pick (ltb b 48) None (pick (ltb 57 b) None x)

-- v with the digit b behind it
abbrev pub more : ℕ → ℕ → ℕ
more v b = v * 10 + (b - 48)

abbrev pub with_digit : ℕ → ℕ → Number
with_digit v b = if_digit b then Some (more v b)

-- v with k zeros behind it
abbrev pub scaled_by : ℕ → ℕ → Number
scaled_by v k = Some (v * 10 ^ k)

-- behind the point: v was read before these bytes, and at most `left` digits may follow
unfoldable pub fraction_from : ℕ → ℕ → List ℕ → Number
fraction_from left v [] = scaled_by v left
fraction_from left v (b ∷ rest) =
    if left is 0 then None else
    if_digit b then fraction_from (left - 1) (more v b) rest

-- past the point: a digit must follow
unfoldable pub point_from : ℕ → ℕ → List ℕ → Number
point_from d v [] = None
point_from d v (b ∷ rest) = fraction_from d v (b ∷ rest)

-- a value above the largest one is not taken
abbrev pub up_to : ℕ → Number → Number
up_to most (Some v) = pick (leb v most) (Some v) None
up_to most None = None
