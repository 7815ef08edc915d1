-- The grammar of RFC 4180, section 2, over bytes, together with what a file says: its records, and each record's
-- fields. This is the page to trust; all else of the crate is proved to agree with it. 01, The farm file: a field is
-- the stretch between its delimiters, outer quotes left off, doubled quotes kept doubled; a record ends with CRLF,
-- which the last one may lack; there is no header.
use Rattle.std.specs.Prelude.{ℕ, List, [], ◌∷◌, ◌++◌, ◌≡◌}

-- the bytes that the format names
abbrev pub comma : ℕ
comma = 44

abbrev pub quote : ℕ
quote = 34

abbrev pub cr : ℕ
cr = 13

abbrev pub lf : ℕ
lf = 10

-- TEXTDATA: any byte but these four; NUL and the bytes above 127 are text too
pub record Text (b : ℕ) : Type 0 where
  pub no_comma : b ≡ comma → ⊥
  pub no_quote : b ≡ quote → ⊥
  pub no_cr : b ≡ cr → ⊥
  pub no_lf : b ≡ lf → ⊥

-- non-escaped = *TEXTDATA
pub data Plain : List ℕ → Type 0 where
  none : Plain []
  byte : {b : ℕ} {t : List ℕ} → Text b → Plain t → Plain (b ∷ t)

-- what stands between quotes: *(any byte but a quote / 2DQUOTE)
pub data Inside : List ℕ → Type 0 where
  none : Inside []
  byte : {b : ℕ} {t : List ℕ} → (b ≡ quote → ⊥) → Inside t → Inside (b ∷ t)
  pair : {t : List ℕ} → Inside t → Inside (quote ∷ quote ∷ t)

-- field = (escaped / non-escaped): its content, and its bytes
pub data FieldOf : List ℕ → List ℕ → Type 0 where
  plain : {c : List ℕ} → Plain c → FieldOf c c
  quoted : {c : List ℕ} → Inside c → FieldOf c (quote ∷ c ++ (quote ∷ []))

-- record = field *(COMMA field): its fields' contents, and its bytes
pub data RecordOf : List (List ℕ) → List ℕ → Type 0 where
  last : {c t : List ℕ} → FieldOf c t → RecordOf (c ∷ []) t
  more : {c t u : List ℕ} {cs : List (List ℕ)} → FieldOf c t → RecordOf cs u → RecordOf (c ∷ cs) (t ++ (comma ∷ u))

-- file = *(record CRLF) [record]: its records, and its bytes. After a final CRLF no record stands, so the last is one
-- only if it has a byte
pub data FileOf : List (List (List ℕ)) → List ℕ → Type 0 where
  none : FileOf [] []
  last : {cs : List (List ℕ)} {t : List ℕ} → RecordOf cs t → (t ≡ [] → ⊥) → FileOf (cs ∷ []) t
  more : {cs : List (List ℕ)} {t u : List ℕ} {rs : List (List (List ℕ))} → RecordOf cs t → FileOf rs u
      → FileOf (cs ∷ rs) (t ++ (cr ∷ lf ∷ u))

-- the record of these contents stands at the front of some bytes, and these are left past it
pub data Front (cs : List (List ℕ)) : List ℕ → List ℕ → Type 0 where
  ended : {t u : List ℕ} → RecordOf cs t → Front cs (t ++ (cr ∷ lf ∷ u)) u
  last : {t : List ℕ} → RecordOf cs t → (t ≡ [] → ⊥) → Front cs t []

-- these records, each ended by CRLF, stand before the bytes that are left
pub data Before : List (List (List ℕ)) → List ℕ → List ℕ → Type 0 where
  none : {u : List ℕ} → Before [] u u
  more : {cs : List (List ℕ)} {t u left : List ℕ} {rs : List (List (List ℕ))} → RecordOf cs t → Before rs u left
      → Before (cs ∷ rs) (t ++ (cr ∷ lf ∷ u)) left

-- a file breaks after these records: bytes are left, and no record stands at their front
pub record Breaks (rs : List (List (List ℕ))) (s : List ℕ) : Type 0 where
  pub left : List ℕ
  pub before : Before rs s left
  pub bytes_left : left ≡ [] → ⊥
  pub no_record : (cs : List (List ℕ)) (v : List ℕ) → Front cs left v → ⊥

-- a file is one of the grammar, or breaks
pub data Fate (s : List ℕ) : Type 0 where
  kept : (rs : List (List (List ℕ))) → FileOf rs s → Fate s
  broke : (rs : List (List (List ℕ))) → Breaks rs s → Fate s
