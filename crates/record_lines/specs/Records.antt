-- 01, The listing: "RFC 4180 again, CRLF after every record", said of a text; and the record that a refusal's line is.
-- To be believed.
use Rattle.std.specs.Prelude.{ℕ, ◌≡◌, List, [], ◌∷◌, length}
use Rattle.base.specs.Text.{bytes}
use Rattle.base.specs.Each.{Each}
use Rattle.grammar.specs.Grammar.{Before}
use Rattle.decimal.specs.Writing.{whole_of}

-- the text is these records, each of n fields and ended by CRLF, and nothing stands behind them
pub record RecordsOf (n : ℕ) (rs : List (List (List ℕ))) (text : List ℕ) : Type 0 where
  pub ended : Before rs text []
  pub fields : Each (λ (cs : List (List ℕ)). length cs ≡ n) rs

-- "`refused,NUMBER,RECORD` and CRLF": three fields
abbrev pub refusal_fields : ℕ → ℕ → List (List ℕ)
refusal_fields number record' = bytes "refused" ∷ whole_of number ∷ whole_of record' ∷ []
