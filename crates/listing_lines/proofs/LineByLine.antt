-- Lines written one after the other: what a line is, how long it is, and a turn of the loop. Assumes nothing.
use Prim.Native.Nat.{ℕ, ◌+◌, ◌≤◌, ◌<◌}
use mathlib.Core.Path.{◌≡◌, refl, ap}
use mathlib.Core.List.{List, [], ◌∷◌, ◌++◌}
use native.Mathlib.Omega.{arith}
use lib.ListN.{length, get_or, drop, length-append}
use lib.IntN.{ℤ, pos}
use Rattle.base.specs.Part.{part}
use Rattle.base.specs.Wrote.{Wrote}
use Rattle.base.proofs.Rest.{rest_at, rest_end}
use Rattle.base.proofs.ToCome.{ToCome}
use Rattle.kilogram_text.specs.Kilograms.{kilograms_of}
use Rattle.line_parts.proofs.OneByOne.{entry-put, all-entries-put}
use Rattle.listing_lines.specs.Numbered.{put_together, numbered}

pub line-is : (owner middle : List ℕ) (g : ℤ)
    → owner ++ middle ++ kilograms_of g ++ (13 ∷ 10 ∷ []) ≡ put_together owner middle g
unfolding put_together
line-is owner middle g = refl

pub together-length : (owner middle : List ℕ) (g : ℤ)
    → length (put_together owner middle g) ≡ length owner + length middle + length (kilograms_of g) + 2
unfolding put_together
together-length owner middle g = simp length-append (omega arith)

-- ---- a turn, and the end; g is the grams that the code read

module _ (owner table from : List ℕ) (grams : List ℤ) (lines : List ℕ) (k : ℕ) where
  abbrev left : ℕ → List ℕ
  left i = numbered owner table from grams (drop i lines)

  abbrev middle : List ℕ
  middle = let n = get_or lines k 0 in part table (get_or from n 0) (get_or from (n + 1) 0)

  module _ (h : k < length lines) (g : ℤ) (e : g ≡ get_or grams (get_or lines k 0) (pos 0)) where
    first : left k ≡ put_together owner middle g ++ left (k + 1)
    unfolding numbered
    first = rw (rest_at lines k h, e)

    pub line-room : {old whole now : List ℕ} {start next : ℕ} → ToCome old start whole now (left k) next
        → start + length whole ≤ length old → next + length (put_together owner middle g) ≤ length now
    line-room t room =
        let line = put_together owner middle g in
        omega (arith, ap length first, length-append line (left (k + 1)), t.adds-up, t.same)

    pub line-put : {old whole now new : List ℕ} {start next after : ℕ} → ToCome old start whole now (left k) next
        → Wrote now next (put_together owner middle g) new after → ToCome old start whole new (left (k + 1)) after
    unfolding numbered
    line-put t w = entry-put _ t (rest_at lines k h) (rw e at w)

  pub all-put : {old whole now : List ℕ} {start next : ℕ} → length lines ≤ k → ToCome old start whole now (left k) next
      → Wrote old start whole now next
  unfolding numbered
  all-put h t = all-entries-put _ t (rest_end lines k h)
