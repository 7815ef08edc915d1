-- Texts that are records: none, a line, two texts one after the other; they are files; and a refusal's line is one
-- record. Assumes nothing.
use Prim.Native.Nat.{ℕ}
use mathlib.Core.Path.{◌≡◌, refl, sym, subst}
use mathlib.Core.List.{List, [], ◌∷◌, ◌++◌, append_assoc}
use lib.ListN.{length}
use Rattle.base.specs.Text.{bytes}
use Rattle.base.specs.Each.{Each, none, more}
use Rattle.grammar.specs.Grammar.{cr, lf, FieldOf, RecordOf, FileOf, Before}
use Rattle.refusal_line.specs.Lines.{refusal_line}
use Rattle.record_lines.specs.Records.{RecordsOf, refusal_fields}
use Rattle.record_lines.proofs.Plain.{past-plain, plain-whole}

-- ---- of any records

-- behind records that are followed by others stand both
followed : {rs qs : List (List (List ℕ))} {s u v : List ℕ} → Before rs s u → Before qs u v → Before (rs ++ qs) s v
followed Before.none c = c
followed (Before.more r b) c = Before.more r (followed b c)

-- more may stand behind
behind : {rs : List (List (List ℕ))} {s u : List ℕ} (v : List ℕ) → Before rs s u → Before rs (s ++ v) (u ++ v)
behind v Before.none = Before.none
behind v (Before.more {cs} {t} {u} {left} {rs} r b) =
    subst (λ (x : List ℕ). Before (cs ∷ rs) x (left ++ v)) (sym (append_assoc t (cr ∷ lf ∷ u) v))
    (Before.more r (behind v b))

all_of : {rs : List (List (List ℕ))} {s left : List ℕ} → Before rs s left → left ≡ [] → FileOf rs s
all_of Before.none e = rw e FileOf.none
all_of (Before.more r b) e = FileOf.more r (all_of b e)

each_both : {A : Type 0} {P : A → Type 0} {l m : List A} → Each P l → Each P m → Each P (l ++ m)
each_both none b = b
each_both (more p a) b = more p (each_both a b)

module _ {n : ℕ} where
  pub no-records : RecordsOf n [] []
  no-records = record { ended = Before.none; fields = none }

  -- a line is a record and CRLF
  pub line : {cs : List (List ℕ)} {front text : List ℕ} → RecordOf cs front → length cs ≡ n
      → text ≡ front ++ (cr ∷ lf ∷ []) → RecordsOf n (cs ∷ []) text
  line {cs} r l e =
      record {
        ended = subst (λ (x : List ℕ). Before (cs ∷ []) x []) (sym e) (Before.more r Before.none);
        fields =
            more l none;
      }

  pub both : {rs qs : List (List (List ℕ))} {s t : List ℕ} → RecordsOf n rs s → RecordsOf n qs t
      → RecordsOf n (rs ++ qs) (s ++ t)
  both {t = t} a b =
      record { ended = followed (behind t a.ended) b.ended; fields = each_both a.fields b.fields }

  -- they are a file
  pub are-a-file : {rs : List (List (List ℕ))} {s : List ℕ} → RecordsOf n rs s → FileOf rs s
  are-a-file a = all_of a.ended refl

-- ---- a refusal's line

pub refusal-read : (number record' : ℕ) → RecordsOf 3 (refusal_fields number record' ∷ []) (refusal_line number record')
unfolding refusal_line
refusal-read number record' =
    line
    (RecordOf.more (FieldOf.plain (past-plain (bytes "refused") refl))
    (RecordOf.more (FieldOf.plain (plain-whole number)) (RecordOf.last (FieldOf.plain (plain-whole record'))))) refl
    (simp append_assoc)
