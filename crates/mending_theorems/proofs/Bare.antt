-- The test for a bare LF, and what it says of the bytes before. Assumes nothing.
use Prim.Native.Nat.{ℕ}
use mathlib.Core.Path.{◌≡◌, refl, ap, ◌∙◌}
use mathlib.Core.Bool.{Bool, true, false}
use mathlib.Core.List.{List, [], ◌∷◌, ◌++◌}
use lib.Dec.{eqb}
use borrow.Author.Tests.{eqb-true, eqb-false, ne_eqb}
use Rattle.base.specs.Pick.{pick}
use Rattle.base.proofs.Clash.{clash}
use Rattle.spreadsheet.specs.Faults.{cr, lf, last, quotes, even, bare}
use Rattle.spreadsheet.proofs.Passing.{last_snoc}

-- ---- the last of some bytes

ends : (a : ℕ) (l : List ℕ) → (start : List ℕ) × (a ∷ l ≡ start ++ (last a l ∷ []))
ends a [] = ([], refl)
ends a (c ∷ l) = let r = ends c l in (a ∷ r.0, ap (λ (x : List ℕ). a ∷ x) r.1)

abbrev pub NoCr : List ℕ → Type 0
NoCr before = (start : List ℕ) → before ≡ start ++ (cr ∷ []) → ⊥

last-no-cr : (before : List ℕ) → NoCr before → last 0 before ≡ cr → ⊥
last-no-cr [] n e = clash cc
last-no-cr (a ∷ l) n e = let r = ends a l in n r.0 (r.1 ∙ ap (λ (x : ℕ). r.0 ++ (x ∷ [])) e)

no-cr-last : (before : List ℕ) → (last 0 before ≡ cr → ⊥) → NoCr before
no-cr-last before n start e = n (ap (last 0) e ∙ last_snoc 0 start cr)

-- ---- the test

pub record IsBare (before : List ℕ) (b : ℕ) : Type 0 where
  pub is-lf : b ≡ lf
  pub no_cr : NoCr before
  pub even_quotes : even (quotes before) ≡ true

pub bare-is : (before : List ℕ) (b : ℕ) → bare before b ≡ true → IsBare before b
unfolding bare
bare-is before b e = go (eqb b lf) refl (eqb (last 0 before) cr) refl e
  where
    go : (t : Bool) → eqb b lf ≡ t → (u : Bool) → eqb (last 0 before) cr ≡ u
        → pick t (pick u false (even (quotes before))) false ≡ true → IsBare before b
    go true h true k q = clash cc
    go true h false k q =
        record { is-lf = eqb-true b lf h; no_cr = no-cr-last before (eqb-false (last 0 before) cr k); even_quotes = q }
    go false h u k q = clash cc

pub is-bare : (before : List ℕ) → NoCr before → even (quotes before) ≡ true → bare before lf ≡ true
unfolding bare
is-bare before n e = rw (ne_eqb (last 0 before) cr (last-no-cr before n), e)

-- behind a CR no LF is bare
pub bare-past-cr : (before : List ℕ) (b : ℕ) → bare (before ++ (cr ∷ [])) b ≡ false
unfolding bare
bare-past-cr before b = rw (last_snoc 0 before cr) (go (eqb b lf))
  where
    go : (t : Bool) → pick t false false ≡ false
    go true = refl
    go false = refl

-- a byte that is no LF is not
pub not-lf : (before : List ℕ) (b : ℕ) → (b ≡ lf → ⊥) → bare before b ≡ false
unfolding bare
not-lf before b n = rw (ne_eqb b lf n)
