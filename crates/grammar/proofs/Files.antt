-- What is read of a whole file is what the grammar says: its records where it is one of the grammar, else where it
-- breaks. Assumes nothing.
use Prim.Native.Nat.{ℕ, zero, suc, ◌<◌, ◌≤◌}
use mathlib.Core.List.{List, [], ◌∷◌}
use mathlib.Core.Path.{◌≡◌, refl, sym, ap, ◌∙◌}
use lib.ListN.{length}
use native.Mathlib.Omega.{arith}
use Rattle.base.proofs.Clash.{clash}
use Rattle.grammar.specs.Grammar.{FileOf, Front, Before, Breaks}
use Rattle.grammar.specs.Reading.{Row, row, at_start, Reading, ◌then◌, end, whole, broken_after}
use Rattle.grammar.specs.Reading.{reading_from, reading_of}
use Rattle.grammar.proofs.Agrees.{Read, as_row, read-stands, stands_read, left-shorter}

-- more room than bytes changes nothing
enough : (k m : ℕ) (u : List ℕ) → length u ≤ k → length u ≤ m → reading_from k u ≡ reading_from m u
unfolding reading_from
enough zero zero u h h' = refl
enough zero (suc m) [] h h' = refl
enough zero (suc m) (b ∷ u) h h' = absurd (omega arith)
enough (suc k) zero [] h h' = refl
enough (suc k) zero (b ∷ u) h h' = absurd (omega arith)
enough (suc k) (suc m) [] h h' = refl
enough (suc k) (suc m) (b ∷ u) h h' = go (at_start (b ∷ u)) refl (enough k m)
  where
    go : (R : Row) → at_start (b ∷ u) ≡ R
        → ((v : List ℕ) → length v ≤ k → length v ≤ m → reading_from k v ≡ reading_from m v)
        → reading_from (suc k) (b ∷ u) ≡ reading_from (suc m) (b ∷ u)
    go (row c cs v) e ih =
        let l = left-shorter (read-stands b u e) in
        rw (reading_from, e) (ap (λ (r : Reading). (c ∷ cs) then r) (ih v (omega arith) (omega arith)))
    go Row.broken e ih = rw (reading_from, e) refl

module _ (b : ℕ) (u : List ℕ) where
  pub reading-row : {c v : List ℕ} {cs : List (List ℕ)} → at_start (b ∷ u) ≡ row c cs v
      → reading_of (b ∷ u) ≡ (c ∷ cs) then reading_of v
  unfolding reading_of reading_from
  reading-row {c} {v} {cs} e =
      let l = left-shorter (read-stands b u e) in
      rw (reading_from, e) (ap (λ (r : Reading). (c ∷ cs) then r)
      (enough (length u) (length v) v (omega arith) (omega arith)))

  pub reading-broken : at_start (b ∷ u) ≡ Row.broken → reading_of (b ∷ u) ≡ Reading.broken
  unfolding reading_of reading_from
  reading-broken e = rw (reading_from, e) refl

pub reading-none : reading_of [] ≡ end
unfolding reading_of reading_from
reading-none = refl

-- the record that stands at the front is read first, then what is left
pub reading-front : {cs : List (List ℕ)} {u v : List ℕ} → Front cs u v → reading_of u ≡ cs then reading_of v
reading-front {u = u} {v} f = go u v (left-shorter f) (stands_read f)
  where
    go : {cs : List (List ℕ)} (u v : List ℕ) → length v < length u → Read u v cs → reading_of u ≡ cs then reading_of v
    go [] v l r = absurd (omega arith)
    go (b ∷ u) v l (as_row e) = reading-row b u e

-- a file of the grammar reads as its records
pub file-read : {rs : List (List (List ℕ))} {s : List ℕ} → FileOf rs s → reading_of s ≡ whole rs
file-read FileOf.none = reading-none
file-read (FileOf.last {cs} r n) = reading-front (Front.last r n) ∙ ap (λ (x : Reading). cs then x) reading-none
file-read (FileOf.more {cs} r f) = reading-front (Front.ended r) ∙ ap (λ (x : Reading). cs then x) (file-read f)

-- what a reading that begins with a record says of the front of the file
pub record Begun (cs : List (List ℕ)) (X : Reading) (s : List ℕ) : Type 0 where
  pub left : List ℕ
  pub stands : Front cs s left
  pub rest : reading_of left ≡ X

pub begun : (s : List ℕ) {cs : List (List ℕ)} {X : Reading} → reading_of s ≡ cs then X → Begun cs X s
begun [] {cs} {X} e = let d : end ≡ cs then X = sym reading-none ∙ e in clash cc
begun (b ∷ u) {cs} {X} e = go (at_start (b ∷ u)) refl
  where
    go : (R : Row) → at_start (b ∷ u) ≡ R → Begun cs X (b ∷ u)
    go (row c ds v) q =
        let d : ((c ∷ ds) then reading_of v) ≡ (cs then X) = sym (reading-row b u q) ∙ e in
        let h : ◌≡◌ {A = List (List ℕ)} (c ∷ ds) cs = cc in
        record { left = v; stands = rw h at (read-stands b u q); rest = cc }
    go Row.broken q =
        let d : Reading.broken ≡ (cs then X) = sym (reading-broken b u q) ∙ e in
        clash cc

nothing_left : (s : List ℕ) → reading_of s ≡ end → s ≡ []
nothing_left [] e = refl
nothing_left (b ∷ u) e = go (at_start (b ∷ u)) refl
  where
    go : (R : Row) → at_start (b ∷ u) ≡ R → b ∷ u ≡ []
    go (row c ds v) q =
        let d : ((c ∷ ds) then reading_of v) ≡ end = sym (reading-row b u q) ∙ e in
        clash cc
    go Row.broken q =
        let d : Reading.broken ≡ end = sym (reading-broken b u q) ∙ e in
        clash cc

none_left : (rs : List (List (List ℕ))) → reading_of [] ≡ whole rs → rs ≡ []
none_left [] e = refl
none_left (cs ∷ rs) e = let d : end ≡ (cs then whole rs) = sym reading-none ∙ e in clash cc

-- a file that is read through is one of the grammar, of the records read
pub read-file : (rs : List (List (List ℕ))) (s : List ℕ) → reading_of s ≡ whole rs → FileOf rs s
read-file [] s e = rw (nothing_left s e) FileOf.none
read-file (cs ∷ rs) s e =
    let x = begun s e in
    go x.left x.stands x.rest (read-file rs x.left x.rest)
  where
    go : {s : List ℕ} (v : List ℕ) → Front cs s v → reading_of v ≡ whole rs → FileOf rs v → FileOf (cs ∷ rs) s
    go v (Front.ended r) q f = FileOf.more r f
    go v (Front.last r n) q f = rw (none_left rs q) (FileOf.last r n)

-- a file in which no record stands at the front is broken there
none-broken : (s : List ℕ) → (s ≡ [] → ⊥) → ((cs : List (List ℕ)) (v : List ℕ) → Front cs s v → ⊥)
    → reading_of s ≡ Reading.broken
none-broken [] some none = absurd (some refl)
none-broken (b ∷ u) some none = go (at_start (b ∷ u)) refl
  where
    go : (R : Row) → at_start (b ∷ u) ≡ R → reading_of (b ∷ u) ≡ Reading.broken
    go (row c cs v) e = absurd (none (c ∷ cs) v (read-stands b u e))
    go Row.broken e = reading-broken b u e

broken-none : (s : List ℕ) → reading_of s ≡ Reading.broken → (cs : List (List ℕ)) (v : List ℕ) → Front cs s v → ⊥
broken-none s e cs v f =
    let d : Reading.broken ≡ (cs then reading_of v) = sym e ∙ reading-front f in
    clash cc

not-empty : (rs : List (List (List ℕ))) (s : List ℕ) → reading_of s ≡ broken_after rs → s ≡ [] → ⊥
not-empty rs s e d = go rs (sym reading-none ∙ ap reading_of (sym d) ∙ e)
  where
    go : (rs : List (List (List ℕ))) → end ≡ broken_after rs → ⊥
    go [] e = clash cc
    go (cs ∷ rs) e = clash cc

-- a file whose reading breaks after some records breaks so by the grammar, and the other way round
pub read-breaks : (rs : List (List (List ℕ))) (s : List ℕ) → reading_of s ≡ broken_after rs → Breaks rs s
read-breaks [] s e =
    record { left = s; before = Before.none; bytes_left = not-empty [] s e; no_record = broken-none s e }
read-breaks (cs ∷ rs) s e =
    let x = begun s e in
    go x.left x.stands x.rest (read-breaks rs x.left x.rest)
  where
    go : {s : List ℕ} (v : List ℕ) → Front cs s v → reading_of v ≡ broken_after rs → Breaks rs v → Breaks (cs ∷ rs) s
    go v (Front.ended r) q b =
        record {
          left = b.left;
          before = Before.more r b.before;
          bytes_left = b.bytes_left;
          no_record =
              b.no_record;
        }
    go v (Front.last r n) q b = absurd (not-empty rs [] q refl)

pub breaks-read : (rs : List (List (List ℕ))) (s : List ℕ) → Breaks rs s → reading_of s ≡ broken_after rs
breaks-read rs s b = go b.before (none-broken b.left b.bytes_left b.no_record)
  where
    go : {rs : List (List (List ℕ))} {s left : List ℕ} → Before rs s left → reading_of left ≡ Reading.broken
        → reading_of s ≡ broken_after rs
    go Before.none e = e
    go (Before.more {cs} r b) e = reading-front (Front.ended r) ∙ ap (λ (x : Reading). cs then x) (go b e)

-- a reading tells the records
pub whole-one : (rs rs' : List (List (List ℕ))) → whole rs ≡ whole rs' → rs ≡ rs'
whole-one [] [] e = refl
whole-one [] (cs ∷ rs') e = clash cc
whole-one (cs ∷ rs) [] e = clash cc
whole-one (cs ∷ rs) (ds ∷ rs') e =
    let h : cs ≡ ds = cc in
    let t : rs ≡ rs' = whole-one rs rs' (cc) in
    cc
