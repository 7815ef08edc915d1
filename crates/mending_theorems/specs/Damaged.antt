-- What a spreadsheet does to a file that keeps RFC 4180, by the grammar of crate `grammar`: "bare LF and a UTF-8 byte
-- order mark" (02, W6). To be believed.
use Rattle.std.specs.Prelude.{ℕ, ◌≡◌, List, [], ◌∷◌, ◌++◌}
use Rattle.grammar.specs.Grammar.{RecordOf, cr, lf}

-- a file of the grammar, and the same with the CR dropped at the ends of some of its records, of all or of none
pub data Bared : List ℕ → List ℕ → Type 0 where
  none : Bared [] []
  last : {cs : List (List ℕ)} {t : List ℕ} → RecordOf cs t → (t ≡ [] → ⊥) → Bared t t
  kept : {cs : List (List ℕ)} {t u d : List ℕ} → RecordOf cs t → Bared u d
      → Bared (t ++ (cr ∷ lf ∷ u)) (t ++ (cr ∷ lf ∷ d))
  dropped : {cs : List (List ℕ)} {t u d : List ℕ} → RecordOf cs t → Bared u d
      → Bared (t ++ (cr ∷ lf ∷ u)) (t ++ (lf ∷ d))
