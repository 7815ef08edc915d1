-- 01, The farm file: what a file says, worked out byte by byte from the front. A reader stands at a field's start, in
-- an unquoted field, inside quotes, past a quote there (which closes the field or is the first of two), or past a CR
-- that ends a record. It knows no positions: it gives contents. `proofs/Agrees.antt` shows that it reads just what the
-- grammar says.
use Rattle.std.specs.Prelude.{ℕ, zero, suc, List, [], ◌∷◌, length, get_or}
use Rattle.base.specs.Pick.{if◌is◌then◌else◌}
use Rattle.grammar.specs.Grammar.{comma, quote, cr, lf}

-- the rest of a record: the rest of its field, the contents of the fields after it, and the bytes past the record; or
-- it is broken
pub data Row : Type 0 where
  row : List ℕ → List (List ℕ) → List ℕ → Row
  broken : Row

-- the field has this byte before the rest of it
abbrev pub with_byte : ℕ → Row → Row
with_byte b (row c cs left) = row (b ∷ c) cs left
with_byte b broken = broken

-- the field c stands before the record's other fields
abbrev pub with_field : List ℕ → Row → Row
with_field c (row d ds left) = row c (d ∷ ds) left
with_field c broken = broken

-- in an unquoted field: a byte, and what follows where it is a comma, a CR or text
abbrev pub plain_byte : ℕ → Row → Row → Row → Row
plain_byte b next return plain =
    if b is comma then with_field [] next else
    if b is cr then return else
    if b is lf then broken else
    if b is quote then broken else
    with_byte b plain

unfoldable mutual
  -- at a field's start
  pub at_start : List ℕ → Row
  at_start [] = row [] [] []
  at_start (b ∷ u) = if b is quote then in_quotes u else plain_byte b (at_start u) (past_cR u) (in_plain u)

  -- in an unquoted field
  pub in_plain : List ℕ → Row
  in_plain [] = row [] [] []
  in_plain (b ∷ u) = plain_byte b (at_start u) (past_cR u) (in_plain u)

  -- inside quotes
  pub in_quotes : List ℕ → Row
  in_quotes [] = broken
  in_quotes (b ∷ u) = if b is quote then past_quote u else with_byte b (in_quotes u)

  -- past a quote inside quotes
  pub past_quote : List ℕ → Row
  past_quote [] = row [] [] []
  past_quote (b ∷ u) =
      if b is comma then with_field [] (at_start u) else
      if b is cr then past_cR u else
      if b is quote then with_byte quote (with_byte quote (in_quotes u)) else
      broken

  -- past a CR outside quotes
  pub past_cR : List ℕ → Row
  past_cR [] = broken
  past_cR (b ∷ u) = if b is lf then row [] [] u else broken

-- what is read of a file: a record's contents and what is read after it; nothing, at the file's end; or here a record
-- is broken
infixr 5 ◌then◌
pub data Reading : Type 0 where
  ◌then◌ : List (List ℕ) → Reading → Reading
  end : Reading
  broken : Reading

-- a file that is read through has these records
abbrev pub whole : List (List (List ℕ)) → Reading
whole [] = end
whole (cs ∷ rs) = cs then whole rs

-- a file that breaks has these records before the broken one
abbrev pub broken_after : List (List (List ℕ)) → Reading
broken_after [] = broken
broken_after (cs ∷ rs) = cs then broken_after rs

-- of a file of no more than k bytes
unfoldable pub reading_from : ℕ → List ℕ → Reading
reading_from zero s = end
reading_from (suc k) [] = end
reading_from (suc k) (b ∷ u) =
    elim (at_start (b ∷ u)) [
      | row c cs left ↦ (c ∷ cs) then reading_from k left
      | Row.broken ↦ broken
    ]

-- what a file says, record by record from the front
unfoldable pub reading_of : List ℕ → Reading
reading_of s = reading_from (length s) s

-- a record as its users take it: how many fields it has, and the contents of the first four; one that is not there is
-- empty
pub record Parts : Type 0 where
  pub count : ℕ
  pub first : List ℕ
  pub second : List ℕ
  pub third : List ℕ
  pub fourth : List ℕ

abbrev pub parts_of : List (List ℕ) → Parts
parts_of cs = record {
  count = length cs;
  first = get_or cs 0 [];
  second = get_or cs 1 [];
  third = get_or cs 2 [];
  fourth =
      get_or cs 3 [];
}
