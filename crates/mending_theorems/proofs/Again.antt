-- Mended once, a text has nothing left to mend, and it begins with the mark where the old one does. Assumes nothing.
use Prim.Native.Nat.{ℕ}
use mathlib.Core.Path.{◌≡◌, refl, sym, ap, ◌∙◌}
use mathlib.Core.Bool.{Bool, true, false}
use mathlib.Core.List.{List, [], ◌∷◌, ◌++◌}
use lib.ListN.{length, take, drop}
use borrow.Author.Tests.{ne_eqb}
use Rattle.base.specs.Part.{same_bytes}
use Rattle.base.specs.Each.{Each}
use Rattle.base.specs.Each.Each.{none, more}
use Rattle.base.proofs.Clash.{clash}
use Rattle.spreadsheet.specs.Faults.{cr, lf, mark, marked, bare}
use Rattle.spreadsheet.specs.Mended.{Change, mended_byte, mended_from, changes_from, text_start, mark_change}
use Rattle.spreadsheet.specs.Mended.{mended_of, changes_of}
use Rattle.spreadsheet.specs.Passed.{passed_of, and_byte, bare_after}
use Rattle.spreadsheet.proofs.Passing.{passed_and}
use Rattle.spreadsheet.proofs.Starts.{start-passed}
use Rattle.mending_theorems.proofs.Bare.{bare-is, bare-past-cr, not-lf}
use Rattle.mending_theorems.proofs.Texts.{changes-all}

-- bytes before that are alike: the same LFs are bare behind them, and they stay alike
module _ (before other : List ℕ) (alike : passed_of before ≡ passed_of other) where
  pub bare_alike : (b : ℕ) → bare before b ≡ bare other b
  unfolding bare
  bare_alike b = ap (λ p. bare_after p b) alike

  pub alike_and : (b : ℕ) → passed_of (before ++ (b ∷ [])) ≡ passed_of (other ++ (b ∷ []))
  alike_and b = sym (passed_and before b) ∙ ap (λ p. and_byte p b) alike ∙ passed_and other b

  -- a CR before the LF makes no difference to what follows
  alike-past : passed_of (before ++ (cr ∷ []) ++ (lf ∷ [])) ≡ passed_of (other ++ (lf ∷ []))
  alike-past =
      sym (passed_and (before ++ (cr ∷ [])) lf)
      ∙ ap (λ p. and_byte p lf) (sym (passed_and before cr) ∙ ap (λ p. and_byte p cr) alike)
      ∙ passed_and other lf

-- the text that was mended, gone through with bytes before it that are alike
pub again : (rest before other : List ℕ) → passed_of other ≡ passed_of before
    → changes_from other (mended_from before rest) ≡ []
unfolding mended_from changes_from
again [] before other alike = refl
again (b ∷ rest) before other alike = go (bare before b) refl (again rest (before ++ (b ∷ [])))
  where
    m : List ℕ
    m = mended_from (before ++ (b ∷ [])) rest

    Later : Type 0
    Later = (next : List ℕ) → passed_of next ≡ passed_of (before ++ (b ∷ [])) → changes_from next m ≡ []

    go : (t : Bool) → bare before b ≡ t → Later → changes_from other (mended_byte t b ++ m) ≡ []
    go true e later =
        let k = (bare-is before b e).is-lf in
        rw (not-lf other cr (λ e. clash cc), bare-past-cr other b)
        (later (other ++ (cr ∷ []) ++ (b ∷ [])) (rw k (alike-past other before alike)))
    go false e later =
        rw (bare_alike other before alike b ∙ e) (later (other ++ (b ∷ [])) (alike_and other before alike b))

-- ---- the mark

-- a byte that mending puts in or looks for is not this one
record Apart (b : ℕ) : Type 0 where
  no_cr : cr ≡ b → ⊥
  no_lf : lf ≡ b → ⊥

front_same : (w before rest : List ℕ) → Each Apart w
    → same_bytes (take (length w) (mended_from before rest)) w ≡ same_bytes (take (length w) rest) w
unfolding same_bytes mended_from
front_same [] before rest a = refl
front_same (x ∷ w) before [] a = refl
front_same (x ∷ w) before (b ∷ rest) (more a others) =
    go (bare before b) refl (front_same w (before ++ (b ∷ [])) rest others)
  where
    go : (t : Bool) → bare before b ≡ t
        → same_bytes (take (length w) (mended_from (before ++ (b ∷ [])) rest)) w ≡ same_bytes (take (length w) rest) w
        → same_bytes (take (length (x ∷ w)) (mended_byte t b ++ mended_from (before ++ (b ∷ [])) rest)) (x ∷ w)
        ≡ same_bytes (take (length (x ∷ w)) (b ∷ rest)) (x ∷ w)
    go true e f = rw (ne_eqb cr x a.no_cr, (bare-is before b e).is-lf, ne_eqb lf x a.no_lf)
    go false e f = rw f

mark-apart : Each Apart mark
mark-apart = more apart_1 (more apart_2 (more apart_3 none))
  where
    apart_1 : Apart 239
    apart_1 = record { no_cr = λ e. clash cc; no_lf = λ e. clash cc }

    apart_2 : Apart 187
    apart_2 = record { no_cr = λ e. clash cc; no_lf = λ e. clash cc }

    apart_3 : Apart 191
    apart_3 = record { no_cr = λ e. clash cc; no_lf = λ e. clash cc }

pub marked_from : (before rest : List ℕ) → marked (mended_from before rest) ≡ marked rest
unfolding marked
marked_from before rest = front_same mark before rest mark-apart

pub marked-after : (s : List ℕ) → marked (mended_of s) ≡ marked (drop (text_start (marked s)) s)
unfolding mended_of
marked-after s = let f = text_start (marked s) in marked_from (take f s) (drop f s)

left : (s : List ℕ) → changes_from [] (mended_of s) ≡ []
unfolding mended_of
left s = let f = text_start (marked s) in again (drop f s) (take f s) [] (sym (start-passed s (marked s) refl f refl))

-- the mended file's own changes: a second mark alone
pub changes-after : (s : List ℕ) → changes_of (mended_of s) ≡ mark_change (marked (mended_of s))
changes-after s = changes-all (mended_of s) ∙ rw (left s) (append-none (mark_change (marked (mended_of s))))
  where
    append-none : (cs : List Change) → cs ++ [] ≡ cs
    append-none [] = refl
    append-none (c ∷ cs) = ap (λ (l : List Change). c ∷ l) (append-none cs)
