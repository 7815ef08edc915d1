-- What is kept of the bytes that were passed is right after each byte, and says which LF is bare. Assumes nothing.
use Prim.Native.Nat.{ℕ, suc, ◌+◌, ◌<◌}
use mathlib.Core.Path.{◌≡◌, refl, sym, ap, ap₂, ◌∙◌}
use mathlib.Core.Bool.{Bool, true, false, not}
use mathlib.Core.List.{List, [], ◌∷◌, ◌++◌}
use native.Mathlib.Numerals.{add-one}
use lib.Dec.{eqb}
use lib.ListN.{length, get_or, take, drop}
use lib.Seq.{take-suc, length-take-le}
use native.Mathlib.Omega.{arith}
use Rattle.base.specs.Pick.{pick}
use Rattle.base.proofs.Rest.{rest_at}
use Rattle.spreadsheet.specs.declared.Passed.{Passed}
use Rattle.spreadsheet.specs.Faults.{cr, quote, last, quotes, even, bare}
use Rattle.spreadsheet.specs.Mended.{mended_byte, change_at, mended_from, changes_from}
use Rattle.spreadsheet.specs.Passed.{passed_of, and_byte, bare_after}

-- ---- one byte more

pub last_snoc : (other : ℕ) (l : List ℕ) (b : ℕ) → last other (l ++ (b ∷ [])) ≡ b
last_snoc other [] b = refl
last_snoc other (a ∷ l) b = last_snoc a l b

pub quotes_snoc : (l : List ℕ) (b : ℕ) → quotes (l ++ (b ∷ [])) ≡ pick (eqb b quote) (suc (quotes l)) (quotes l)
quotes_snoc [] b = refl
quotes_snoc (a ∷ l) b =
    ap (λ (n : ℕ). pick (eqb a quote) (suc n) n) (quotes_snoc l b) ∙ swap (eqb a quote) (eqb b quote) (quotes l)
  where
    swap : (t u : Bool) (n : ℕ)
        → pick t (suc (pick u (suc n) n)) (pick u (suc n) n) ≡ pick u (suc (pick t (suc n) n)) (pick t (suc n) n)
    swap true true n = refl
    swap true false n = refl
    swap false true n = refl
    swap false false n = refl

pub even_snoc : (l : List ℕ) (b : ℕ)
    → even (quotes (l ++ (b ∷ []))) ≡ pick (eqb b quote) (not (even (quotes l))) (even (quotes l))
even_snoc l b = ap even (quotes_snoc l b) ∙ go (eqb b quote)
  where
    go : (t : Bool) → even (pick t (suc (quotes l)) (quotes l)) ≡ pick t (not (even (quotes l))) (even (quotes l))
    go true = refl
    go false = refl

pub passed_and : (before : List ℕ) (b : ℕ) → and_byte (passed_of before) b ≡ passed_of (before ++ (b ∷ []))
passed_and before b = ap₂ keeping (ap (λ (x : ℕ). eqb x cr) (sym (last_snoc 0 before b))) (sym (even_snoc before b))
  where
    keeping : Bool → Bool → Passed
    keeping c e = record { cr = c; even = e }

-- ---- at a place of the file

module _ (s : List ℕ) (i : ℕ) (h : i < length s) where
  next-before : take (i + 1) s ≡ take i s ++ (get_or s i 0 ∷ [])
  next-before = rw add-one (take-suc s i 0 h)

  module _ (p : Passed) (e : p ≡ passed_of (take i s)) where
    pub goes-past : (q : Passed) → q ≡ and_byte p (get_or s i 0) → q ≡ passed_of (take (i + 1) s)
    goes-past q eq =
        eq ∙ ap (λ (x : Passed). and_byte x (get_or s i 0)) e ∙ passed_and (take i s) (get_or s i 0)
        ∙ ap passed_of (sym next-before)

    module _ (t : Bool) (et : t ≡ bare_after p (get_or s i 0)) where
      is-bare : t ≡ bare (take i s) (get_or s i 0)
      unfolding bare
      is-bare = et ∙ ap (λ (x : Passed). bare_after x (get_or s i 0)) e

      pub mended_at : mended_from (take i s) (drop i s)
          ≡ mended_byte t (get_or s i 0) ++ mended_from (take (i + 1) s) (drop (i + 1) s)
      unfolding mended_from
      mended_at = rw (rest_at s i h, next-before, is-bare)

      pub changes-at : changes_from (take i s) (drop i s)
          ≡ change_at t i ++ changes_from (take (i + 1) s) (drop (i + 1) s)
      unfolding changes_from
      changes-at =
          let l : length (take i s)
          ≡ i = length-take-le i s (omega arith) in rw (rest_at s i h, next-before, is-bare, l)
