-- Which records a file has, by the grammar and as it is read, and that a reading tells them. Assumes nothing.
use Prim.Native.Nat.{ℕ, ◌<◌}
use mathlib.Core.Path.{◌≡◌, refl, sym, ap, ◌∙◌}
use mathlib.Core.List.{List, [], ◌∷◌, ◌++◌}
use native.Mathlib.Omega.{arith}
use lib.ListN.{length}
use Rattle.base.proofs.Clash.{clash}
use Rattle.grammar.specs.Grammar.{Front, Before, FileOf, Breaks}
use Rattle.grammar.specs.Reading.{Reading, ◌then◌, end, broken, whole, broken_after, reading_of}
use Rattle.grammar.proofs.Files.{reading-none, reading-front, begun, file-read, breaks-read}
use Rattle.first_refusal.specs.Records.{Record, RecordAt}

-- ---- readings by their records

-- these records, and then this reading
abbrev pub thens : List Record → Reading → Reading
thens [] r = r
thens (cs ∷ rs) r = cs then thens rs r

pub thens-append : (a b : List Record) (r : Reading) → thens (a ++ b) r ≡ thens a (thens b r)
thens-append [] b r = refl
thens-append (cs ∷ a) b r = ap (λ (x : Reading). cs then x) (thens-append a b r)

pub whole-thens : (rs : List Record) → whole rs ≡ thens rs end
whole-thens [] = refl
whole-thens (cs ∷ rs) = ap (λ (x : Reading). cs then x) (whole-thens rs)

pub broken-thens : (rs : List Record) → broken_after rs ≡ thens rs broken
broken-thens [] = refl
broken-thens (cs ∷ rs) = ap (λ (x : Reading). cs then x) (broken-thens rs)

-- ---- a file's records, by the grammar and as they are read

before-read : {rs : List Record} {s left : List ℕ} → Before rs s left → reading_of s ≡ thens rs (reading_of left)
before-read Before.none = refl
before-read (Before.more {cs = cs} r b) = reading-front (Front.ended r)
    ∙ ap (λ (x : Reading). cs then x) (before-read b)

-- what is read behind the records
pub record Behind (s : List ℕ) (before : List Record) (cs : Record) : Type 0 where
  pub rest : Reading
  pub is : reading_of s ≡ thens before (cs then rest)

pub record_read_lem : {s : List ℕ} {before : List Record} {cs : Record} → RecordAt s before cs → Behind s before cs
record_read_lem {before = before} x =
    record { rest = reading_of x.past; is = before-read x.behind ∙ ap (thens before) (reading-front x.front) }

not-at-end : {R : Type 0} (before : List Record) (cs : Record) (rest : Reading) → end ≡ thens before (cs then rest) → R
not-at-end [] cs rest e = clash cc
not-at-end (c ∷ before) cs rest e = clash cc

pub read_record : (s : List ℕ) (before : List Record) (cs : Record) (rest : Reading)
    → reading_of s ≡ thens before (cs then rest) → RecordAt s before cs
read_record s [] cs rest e = let x = begun s e in
    record { left = s; past = x.left; behind = Before.none; front = x.stands }
read_record s (c ∷ before) cs rest e = let x = begun s e in
    go x.left x.stands x.rest (read_record x.left before cs rest x.rest)
  where
    go : {s : List ℕ} (v : List ℕ) → Front c s v → reading_of v ≡ thens before (cs then rest) → RecordAt v before cs
        → RecordAt s (c ∷ before) cs
    go v (Front.ended r) q a =
        record { left = a.left; past = a.past; behind = Before.more r a.behind; front = a.front }
    go v (Front.last r n) q a = not-at-end before cs rest (sym reading-none ∙ q)

-- ---- readings that are one

-- a list goes on with this record behind these
pub record Split (rs a : List Record) (c : Record) : Type 0 where
  pub after : List Record
  pub is : rs ≡ a ++ (c ∷ after)

-- a reading that ends without a record has every record that it is read as
pub data Stops : Reading → Type 0 where
  at-end : Stops end
  at_break : Stops broken

pub split-read : {x : Reading} (r : Reading) (rs a : List Record) (c : Record) → Stops x
    → thens rs x ≡ thens a (c then r) → Split rs a c
split-read r [] [] c at-end e = clash cc
split-read r [] [] c at_break e = clash cc
split-read r [] (y ∷ a) c at-end e = clash cc
split-read r [] (y ∷ a) c at_break e = clash cc
split-read r (x ∷ rs) [] c p e = let d : x ≡ c = cc in record { after = rs; is = ap (λ (y : Record). y ∷ rs) d }
split-read r (x ∷ rs) (y ∷ a) c p e =
    let d : x ≡ y = cc in
    let s = split-read r rs a c p (cc) in
    let q = s.is in
    record { after = s.after; is = cc }

pub one-thens : (rs rs' : List Record) {x : Reading} → Stops x → thens rs x ≡ thens rs' x → rs ≡ rs'
one-thens [] [] p e = refl
one-thens [] (c ∷ rs') at-end e = clash cc
one-thens [] (c ∷ rs') at_break e = clash cc
one-thens (c ∷ rs) [] at-end e = clash cc
one-thens (c ∷ rs) [] at_break e = clash cc
one-thens (c ∷ rs) (d ∷ rs') p e =
    let h : c ≡ d = cc in
    let t : rs ≡ rs' = one-thens rs rs' p (cc) in
    cc

pub end-not-broken : {R : Type 0} (rs rs' : List Record) → thens rs end ≡ thens rs' broken → R
end-not-broken [] [] e = clash cc
end-not-broken [] (c ∷ rs') e = clash cc
end-not-broken (c ∷ rs) [] e = clash cc
end-not-broken (c ∷ rs) (d ∷ rs') e = end-not-broken rs rs' (cc)

-- of two records of a reading, one stands behind the other, or they are one
pub shorter : (r r' : Reading) (a b : List Record) (c d : Record) → thens a (c then r) ≡ thens b (d then r')
    → length b < length a → Split a b d
shorter r r' [] b c d e h = absurd (omega arith)
shorter r r' (x ∷ a) [] c d e h = let q : x ≡ d = cc in record { after = a; is = ap (λ (y : Record). y ∷ a) q }
shorter r r' (x ∷ a) (y ∷ b) c d e h =
    let q : x ≡ y = cc in
    let s = shorter r r' a b c d (cc) (omega arith) in
    let p = s.is in
    record { after = s.after; is = cc }

pub as_long : (r r' : Reading) (a b : List Record) (c d : Record) → thens a (c then r) ≡ thens b (d then r')
    → length b ≡ length a → (a ≡ b) × (c ≡ d)
as_long r r' [] [] c d e h = (refl, cc)
as_long r r' [] (y ∷ b) c d e h = absurd (omega arith)
as_long r r' (x ∷ a) [] c d e h = absurd (omega arith)
as_long r r' (x ∷ a) (y ∷ b) c d e h =
    let q : x ≡ y = cc in
    let s = as_long r r' a b c d (cc) (omega arith) in
    let p = s.0 in
    (cc, s.1)

pub split-list : (a b : List Record) (c d : Record) (a' b' : List Record) → a ++ (c ∷ a') ≡ b ++ (d ∷ b')
    → length b < length a → Split a b d
split-list [] b c d a' b' e h = absurd (omega arith)
split-list (x ∷ a) [] c d a' b' e h = let q : x ≡ d = cc in record { after = a; is = ap (λ (y : Record). y ∷ a) q }
split-list (x ∷ a) (y ∷ b) c d a' b' e h =
    let q : x ≡ y = cc in
    let s = split-list a b c d a' b' (cc) (omega arith) in
    let p = s.is in
    record { after = s.after; is = cc }

-- ---- a file that reads as these records, to its end or up to a break

-- has no others
pub split_at : (s : List ℕ) (rs : List Record) {x : Reading} → Stops x → reading_of s ≡ thens rs x
    → {before : List Record} {cs : Record} → RecordAt s before cs → Split rs before cs
split_at s rs stops w {before} {cs} at =
    let r = record_read_lem at in
    split-read r.rest rs before cs stops (sym w ∙ r.is)

-- and one that is read to its end breaks nowhere, and is a file of these alone
module _ (s : List ℕ) (rs : List Record) (w : reading_of s ≡ thens rs end) where
  pub none-broken : {rs' : List Record} → Breaks rs' s → ⊥
  none-broken {rs'} b = end-not-broken rs rs' (sym w ∙ breaks-read rs' s b ∙ broken-thens rs')

  pub same-records : {rs' : List Record} → FileOf rs' s → rs ≡ rs'
  same-records {rs'} f = one-thens rs rs' at-end (sym w ∙ file-read f ∙ whole-thens rs')
