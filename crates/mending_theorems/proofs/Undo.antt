-- Changes made and undone: the list of changes says exactly how the mended text differs from the old one. Assumes
-- nothing.
use Prim.Native.Nat.{ℕ, suc, ◌+◌, ◌-◌, ◌≤◌}
use mathlib.Core.Path.{◌≡◌, refl, sym, ap, subst, ◌∙◌}
use mathlib.Core.Bool.{Bool, true, false}
use mathlib.Core.List.{List, [], ◌∷◌, ◌++◌}
use native.Mathlib.Omega.{arith}
use lib.ListN.{length, take, drop, length-append}
use Rattle.spreadsheet.specs.Faults.{cr, mark, marked, bare}
use Rattle.spreadsheet.specs.Mended.{
  Change,
  mended_byte,
  change_at,
  mended_from,
  changes_from,
  text_start,
  mark_change,
  mended_of,
  changes_of,
}
use Rattle.spreadsheet.specs.Mended.Change.{cr_put}
use Rattle.spreadsheet.proofs.Marks.{marked-take, marked-split}
use Rattle.mending_theorems.specs.Undoing.{undone_from, undone, made_from, made}

-- CRs put in at places from n on, each place past the one before
pub data From : ℕ → List Change → Type 0 where
  none : {n : ℕ} → From n []
  put : {n q : ℕ} {cs : List Change} → n ≤ q → From (suc q) cs → From n (cr_put q ∷ cs)

pub sooner : {m n : ℕ} {cs : List Change} → n ≤ m → From m cs → From n cs
sooner h none = none
sooner {n = n} h (put {q = q} k f) = put {n = n} {q = q} (omega arith) f

longer : (before : List ℕ) (b : ℕ) → length (before ++ (b ∷ [])) ≡ suc (length before)
longer before b = omega (arith, length-append before (b ∷ []))

pub changes-from : (before rest : List ℕ) → From (length before) (changes_from before rest)
unfolding changes_from
changes-from before [] = none
changes-from before (b ∷ rest) =
    go (bare before b) (changes_from (before ++ (b ∷ [])) rest)
    (subst (λ (n : ℕ). From n (changes_from (before ++ (b ∷ [])) rest)) (longer before b)
    (changes-from (before ++ (b ∷ [])) rest))
  where
    go : (t : Bool) (cs : List Change) → From (suc (length before)) cs
        → From (length before) (change_at t (length before) ++ cs)
    go true cs next = put {n = length before} {q = length before} (omega arith) next
    go false cs next = sooner (omega arith) next

-- ---- a byte before all places stays

undo_byte : (n b : ℕ) (m : List ℕ) {cs : List Change} → From (suc n) cs
    → undone_from n cs (b ∷ m) ≡ b ∷ undone_from (suc n) cs m
unfolding undone_from
undo_byte n b m none = refl
undo_byte n b m (put {q = q} h f) = let e : q - n ≡ suc (q - suc n) = omega arith in rw e

make_byte : (n b : ℕ) (s : List ℕ) {cs : List Change} → From (suc n) cs
    → made_from n cs (b ∷ s) ≡ b ∷ made_from (suc n) cs s
unfolding made_from
make_byte n b s none = refl
make_byte n b s (put {q = q} h f) = let e : q - n ≡ suc (q - suc n) = omega arith in rw e

-- ---- the text

module _ (before : List ℕ) (b : ℕ) (rest : List ℕ) where
  after : From (suc (length before)) (changes_from (before ++ (b ∷ [])) rest)
  after =
      subst (λ (n : ℕ). From n (changes_from (before ++ (b ∷ [])) rest)) (longer before b)
      (changes-from (before ++ (b ∷ [])) rest)

nothing : (n : ℕ) → n - n ≡ 0
nothing n = omega arith

pub undo_from : (before rest : List ℕ)
    → undone_from (length before) (changes_from before rest) (mended_from before rest) ≡ rest
unfolding mended_from changes_from undone_from
undo_from before [] = refl
undo_from before (b ∷ rest) = go (bare before b) (undo_from (before ++ (b ∷ [])) rest)
  where
    cs : List Change
    cs = changes_from (before ++ (b ∷ [])) rest

    m : List ℕ
    m = mended_from (before ++ (b ∷ [])) rest

    Later : Type 0
    Later = undone_from (length (before ++ (b ∷ []))) cs m ≡ rest

    byte : Later → undone_from (length before) cs (b ∷ m) ≡ b ∷ rest
    byte e =
        undo_byte (length before) b m (after before b rest)
        ∙ ap (λ (l : List ℕ). b ∷ l) (ap (λ (n : ℕ). undone_from n cs m) (sym (longer before b)) ∙ e)

    go : (t : Bool) → Later
        → undone_from (length before) (change_at t (length before) ++ cs) (mended_byte t b ++ m) ≡ b ∷ rest
    go true e = rw (nothing (length before)) (byte e)
    go false e = byte e

pub made-from : (before rest : List ℕ)
    → made_from (length before) (changes_from before rest) rest ≡ mended_from before rest
unfolding mended_from changes_from made_from
made-from before [] = refl
made-from before (b ∷ rest) = go (bare before b) (made-from (before ++ (b ∷ [])) rest)
  where
    cs : List Change
    cs = changes_from (before ++ (b ∷ [])) rest

    m : List ℕ
    m = mended_from (before ++ (b ∷ [])) rest

    Later : Type 0
    Later = made_from (length (before ++ (b ∷ []))) cs rest ≡ m

    byte : Later → made_from (length before) cs (b ∷ rest) ≡ b ∷ m
    byte e =
        make_byte (length before) b rest (after before b rest)
        ∙ ap (λ (l : List ℕ). b ∷ l) (ap (λ (n : ℕ). made_from n cs rest) (sym (longer before b)) ∙ e)

    go : (t : Bool) → Later
        → made_from (length before) (change_at t (length before) ++ cs) (b ∷ rest) ≡ mended_byte t b ++ m
    go true e = rw (nothing (length before)) (ap (λ (l : List ℕ). cr ∷ l) (byte e))
    go false e = byte e

-- ---- the file

pub undo_all : (s : List ℕ) → undone (changes_of s) (mended_of s) ≡ s
unfolding mended_of changes_of undone_from
undo_all s = go (marked s) refl
  where
    go : (m : Bool) → marked s ≡ m
        → let f =
        text_start m in undone_from 0 (mark_change m ++ changes_from (take f s) (drop f s))
        (mended_from (take f s) (drop f s)) ≡ s
    go true e =
        rw (marked-take s e) (ap (λ (l : List ℕ). mark ++ l) (undo_from mark (drop 3 s)) ∙ sym (marked-split s e))
    go false e = undo_from [] s

pub make_all : (s : List ℕ) → made (changes_of s) s ≡ mended_of s
unfolding mended_of changes_of made_from
make_all s = go (marked s) refl
  where
    go : (m : Bool) → marked s ≡ m
        → let f =
        text_start m in made_from 0 (mark_change m ++ changes_from (take f s) (drop f s)) s
        ≡ mended_from (take f s) (drop f s)
    go true e = rw (marked-take s e) (made-from mark (drop 3 s))
    go false e = made-from [] s
