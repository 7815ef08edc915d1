-- Bytes that are written as a record are read as its fields: a first field, others that need no quotes, a comma before
-- each of them, and CRLF. Assumes nothing.
use Prim.Native.Nat.{ℕ}
use mathlib.Core.Path.{◌≡◌, subst}
use mathlib.Core.List.{List, [], ◌∷◌, ◌++◌, append-nil}
use Rattle.base.specs.Each.{Each, none, more}
use Rattle.grammar.specs.Grammar.{comma, cr, lf, Plain, FieldOf, RecordOf, Front}
use Rattle.grammar.specs.Reading.{row, at_start}
use Rattle.grammar.proofs.Agrees.{Read, as_row, stands_read}

-- fields, each behind a comma
abbrev pub behind_commas : List (List ℕ) → List ℕ
behind_commas [] = []
behind_commas (c ∷ cs) = comma ∷ (c ++ behind_commas cs)

pub record_written : {c t : List ℕ} {cs : List (List ℕ)} → FieldOf c t → Each Plain cs
    → RecordOf (c ∷ cs) (t ++ behind_commas cs)
record_written {c} {t} f none = subst (RecordOf (c ∷ [])) (append_nil_of t) (RecordOf.last f)
  where
    append_nil_of : (t : List ℕ) → t ≡ t ++ []
    append_nil_of t = rw append-nil
record_written f (more p ps) = RecordOf.more f (record_written (FieldOf.plain p) ps)

-- and what is left past it is whatever stands there
pub written_read : {c t : List ℕ} {cs : List (List ℕ)} (left : List ℕ) → FieldOf c t → Each Plain cs
    → at_start ((t ++ behind_commas cs) ++ (cr ∷ lf ∷ left)) ≡ row c cs left
written_read {c} {t} {cs} left f ps = go (stands_read (Front.ended (record_written f ps)))
  where
    go : {u v : List ℕ} → Read u v (c ∷ cs) → at_start u ≡ row c cs v
    go (as_row e) = e
