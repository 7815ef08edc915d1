-- How few bytes a file of these records can have: each field, a comma or an end behind it, and two quotes round a label
-- with a comma. Assumes nothing.
use Prim.Native.Nat.{ℕ, ◌+◌, ◌≤◌}
use mathlib.Core.Path.{◌≡◌, refl, ap}
use mathlib.Core.Bool.{false}
use mathlib.Core.List.{List, [], ◌∷◌, ◌++◌}
use native.Mathlib.Omega.{arith}
use borrow.Author.Tests.{ne_eqb}
use lib.ListN.{length, length-append}
use Rattle.grammar.specs.Grammar.{comma, quote, cr, lf, Plain, FieldOf, RecordOf, FileOf, Before}
use Rattle.line_parts.specs.Fields.{has_comma, label_field}
use Rattle.line_parts.proofs.Lengths.{sum_of, field-length}
use Rattle.line_parts.proofs.LabelField.{bare}

-- ---- a field

field-least : {c t : List ℕ} → FieldOf c t → length c ≤ length t
field-least (FieldOf.plain p) = omega arith
field-least (FieldOf.quoted {c} i) = omega (arith, length-append c (quote ∷ []))

plain-bare : {c : List ℕ} → Plain c → has_comma c ≡ false
unfolding has_comma
plain-bare Plain.none = refl
plain-bare (Plain.byte {b} x p) = rw (has_comma, ne_eqb b comma x.no_comma) (plain-bare p)

-- what a label is written as is no longer than any field that it is
label-least : {c t : List ℕ} → FieldOf c t → length (label_field c) ≤ length t
label-least (FieldOf.plain {c} p) = omega (arith, ap length (bare c false (rw (plain-bare p)) refl))
label-least (FieldOf.quoted {c} i) = omega (arith, length-append c (quote ∷ []), field-length c)

-- ---- a record, and a file: the bytes of a record with its CRLF

abbrev fields_need : List (List ℕ) → ℕ
fields_need [] = 0
fields_need (c ∷ cs) = length c + 1 + fields_need cs

abbrev pub record_need : List (List ℕ) → ℕ
record_need [] = 0
record_need (label ∷ cs) = length (label_field label) + 1 + fields_need cs + 1

fields-least : {cs : List (List ℕ)} {t : List ℕ} → RecordOf cs t → fields_need cs ≤ length t + 1
fields-least (RecordOf.last f) = omega (arith, field-least f)
fields-least (RecordOf.more {t = t} {u = u} f r) =
    omega (arith, field-least f, fields-least r, length-append t (comma ∷ u))

record_least : {cs : List (List ℕ)} {t : List ℕ} → RecordOf cs t → record_need cs ≤ length t + 2
record_least (RecordOf.last f) = omega (arith, label-least f)
record_least (RecordOf.more {t = t} {u = u} f r) =
    omega (arith, label-least f, fields-least r, length-append t (comma ∷ u))

-- the last record may lack its CRLF
pub file-least : {rs : List (List (List ℕ))} {s : List ℕ} → FileOf rs s → sum_of record_need rs ≤ length s + 2
file-least FileOf.none = omega arith
file-least (FileOf.last r n) = omega (arith, record_least r)
file-least (FileOf.more {t = t} {u = u} r f) =
    omega (arith, record_least r, file-least f, length-append t (cr ∷ lf ∷ u))

-- and where it has it
pub ended-least : {rs : List (List (List ℕ))} {s left : List ℕ} → Before rs s left
    → sum_of record_need rs + length left ≤ length s
ended-least Before.none = omega arith
ended-least (Before.more {t = t} {u = u} r b) =
    omega (arith, record_least r, ended-least b, length-append t (cr ∷ lf ∷ u))

pub need_append : (a b : List (List (List ℕ)))
    → sum_of record_need (a ++ b) ≡ sum_of record_need a + sum_of record_need b
need_append [] b = omega arith
need_append (cs ∷ a) b = omega (arith, need_append a b)
