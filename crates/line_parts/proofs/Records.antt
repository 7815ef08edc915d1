-- Lines as RFC 4180 records: the label's field, the path of a kind, and the lines of a list's entries one after the
-- other. Assumes nothing.
use Prim.Native.Nat.{ℕ, ◌≤◌}
use mathlib.Core.Path.{◌≡◌, refl, sym, subst}
use mathlib.Core.Bool.{Bool, true, false, not, ◌&&◌}
use mathlib.Core.List.{List, [], ◌∷◌, map}
use native.Mathlib.Omega.{arith}
use borrow.Author.Tests.{leb-true, eqb-false, not-true}
use lib.Dec.{leb, eqb}
use Rattle.base.specs.Pick.{pick}
use Rattle.base.specs.Text.{bytes}
use Rattle.base.specs.Each.{Each, none, more}
use Rattle.base.specs.Runs.{all}
use Rattle.base.proofs.Clash.{clash}
use Rattle.base.proofs.Holds.{both_true}
use Rattle.grammar.specs.Grammar.{comma, quote, Plain, Inside, FieldOf}
use Rattle.record_lines.specs.Records.{RecordsOf}
use Rattle.record_lines.proofs.Plain.{past-plain}
use Rattle.record_lines.proofs.Records.{no-records, both}
use Rattle.inputs.specs.declared.Kind.{Kind}
use Rattle.inputs.specs.declared.Kind.TheVariants.{Roughage, Cattle, Pigs, DairyCow}
use Rattle.farm.specs.declared.Label.{Label}
use Rattle.farm.specs.Labels.{byte_ok, all_ok, text, label_ok}
use Rattle.line_parts.specs.Fields.{has_comma, label_field, each}
use Rattle.line_parts.specs.Paths.{path_of}
use Rattle.line_parts.proofs.LabelField.{quoted, bare}

-- ---- the label

pub good-bytes : (l : Label) → label_ok l ≡ true → all_ok (text l) ≡ true
unfolding label_ok
good-bytes l e =
    (both_true (leb l.len 16) (all_ok (text l)) (both_true (leb 1 l.len) (leb l.len 16 && all_ok (text l)) e).1
    ).1

record Good (b : ℕ) : Type 0 where
  low : 32 ≤ b
  no_quote : b ≡ quote → ⊥

good : (b : ℕ) → byte_ok b ≡ true → Good b
unfolding byte_ok
good b e =
    let h = both_true (leb 32 b) (leb b 126 && not (eqb b 34)) e in
    let g = both_true (leb b 126) (not (eqb b 34)) h.1 in
    record { low = leb-true 32 b h.0; no_quote = eqb-false b 34 (not-true (eqb b 34) g.1) }

inside : (s : List ℕ) → all_ok s ≡ true → Inside s
inside [] e = Inside.none
inside (b ∷ s) e =
    let h = both_true (byte_ok b) (all_ok s) e in
    Inside.byte (good b h.0).no_quote (inside s h.1)

-- no comma in b ∷ s
comma-free : (b : ℕ) (s : List ℕ) → has_comma (b ∷ s) ≡ false → (b ≡ comma → ⊥) × (has_comma s ≡ false)
unfolding has_comma
comma-free b s e = go (eqb b comma) (has_comma s) refl e
  where
    go : (t u : Bool) → eqb b comma ≡ t → pick t true u ≡ false → (b ≡ comma → ⊥) × (u ≡ false)
    go true u h e = clash cc
    go false u h e = (eqb-false b comma h, e)

unquoted : (s : List ℕ) → all_ok s ≡ true → has_comma s ≡ false → Plain s
unquoted [] e c = Plain.none
unquoted (b ∷ s) e c =
    let h = both_true (byte_ok b) (all_ok s) e in
    let g = good b h.0 in
    let n = comma-free b s c in
    let l : 32 ≤ b = g.low in
    Plain.byte (record { no_comma = n.0; no_quote = g.no_quote; no_cr = λ d. omega arith; no_lf = λ d. omega arith })
    (unquoted s h.1 n.1)

pub label-field : (s : List ℕ) → all_ok s ≡ true → FieldOf s (label_field s)
label-field s e = go (has_comma s) refl
  where
    go : (t : Bool) → t ≡ has_comma s → FieldOf s (label_field s)
    go true h = subst (FieldOf s) (quoted s true h refl) (FieldOf.quoted (inside s e))
    go false h = subst (FieldOf s) (bare s false h refl) (FieldOf.plain (unquoted s e (sym h)))

-- ---- the path

pub plain-path : (k : Kind) → Plain (bytes (path_of k))
plain-path Roughage = past-plain _ refl
plain-path Cattle = past-plain _ refl
plain-path Pigs = past-plain _ refl
plain-path DairyCow = past-plain _ refl

-- ---- one after the other

-- of each of a list its records
pub records : {A : Type 0} {P : A → Type 0} {n : ℕ} (fields : A → List (List (List ℕ))) (of : A → List ℕ)
    → ((x : A) → P x → RecordsOf n (fields x) (of x)) → {xs : List A} → Each P xs
    → RecordsOf n (each fields xs) (each of xs)
records fields of h none = no-records
records fields of h (more p ps) = both (h _ p) (records fields of h ps)

-- of each of what passes a test one
pub lines : {A : Type 0} {n : ℕ} (fields : A → List (List ℕ)) (of : A → List ℕ) (test : A → Bool)
    → ((x : A) → test x ≡ true → RecordsOf n (fields x ∷ []) (of x)) → (xs : List A) → all test xs ≡ true
    → RecordsOf n (map fields xs) (each of xs)
lines fields of test h [] t = no-records
lines fields of test h (x ∷ xs) t =
    let b = both_true (test x) (all test xs) t in
    both (h x b.0) (lines fields of test h xs b.1)
