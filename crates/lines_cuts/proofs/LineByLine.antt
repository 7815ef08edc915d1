-- Records of cuts written one after the other: what a record is, how long it is, and a turn of the loop. Assumes
-- nothing.
use Prim.Native.Nat.{ℕ, ◌+◌, ◌≤◌, ◌<◌}
use mathlib.Core.Path.{◌≡◌, refl, ap}
use mathlib.Core.List.{List, [], ◌∷◌, ◌++◌}
use native.Mathlib.Omega.{arith}
use borrow.Author.Tests.{lt-ltb}
use lib.ListN.{length, get_or, drop, length-append}
use Rattle.base.specs.Part.{part}
use Rattle.base.specs.Wrote.{Wrote}
use Rattle.base.proofs.Rest.{rest_at, rest_end}
use Rattle.base.proofs.ToCome.{ToCome}
use Rattle.base.proofs.Writes.{wrote_nothing}
use Rattle.decimal.specs.Writing.{whole_of}
use Rattle.line_parts.proofs.OneByOne.{entry-put, all-entries-put}
use Rattle.lines_cuts.specs.Lines.{numbers_of}
use Rattle.lines_cuts.specs.Numbered.{put_together, numbered}

-- ---- a record

pub numbers-are : (off by : ℕ) → whole_of off ++ (44 ∷ []) ++ whole_of by ++ (13 ∷ 10 ∷ []) ≡ numbers_of off by
unfolding numbers_of
numbers-are off by = refl

pub line-is : (owner middle : List ℕ) (off by : ℕ) → (by ≡ 0 → ⊥)
    → owner ++ middle ++ numbers_of off by ≡ put_together owner middle off by
unfolding put_together
line-is owner middle off by h = rw (lt-ltb 0 by (omega arith)) refl

pub numbers-length : (off by : ℕ) → length (numbers_of off by) ≡ length (whole_of off) + length (whole_of by) + 3
unfolding numbers_of
numbers-length off by = simp length-append (omega arith)

pub together-length : (owner middle : List ℕ) (off by : ℕ) → (by ≡ 0 → ⊥)
    → length (put_together owner middle off by) ≡ length owner + length middle + length (numbers_of off by)
together-length owner middle off by h = rw (← line-is owner middle off by h) (simp length-append)

-- where nothing was divided there is none
pub no_line : (l owner middle : List ℕ) (at off by : ℕ) → by ≡ 0 → Wrote l at (put_together owner middle off by) l at
unfolding put_together
no_line l owner middle at off by e = rw e (wrote_nothing l at)

-- ---- a turn, and the end

module _ (owner table from offs bys lines : List ℕ) (k : ℕ) where
  abbrev left : ℕ → List ℕ
  left i = numbered owner table from offs bys (drop i lines)

  abbrev middle : List ℕ
  middle = let n = get_or lines k 0 in part table (get_or from n 0) (get_or from (n + 1) 0)

  abbrev line : List ℕ
  line = let n = get_or lines k 0 in put_together owner middle (get_or offs n 0) (get_or bys n 0)

  first : k < length lines → left k ≡ line ++ left (k + 1)
  unfolding numbered
  first h = rw (rest_at lines k h)

  pub line-room : {old whole now : List ℕ} {start next : ℕ} → k < length lines
      → ToCome old start whole now (left k) next → start + length whole ≤ length old
      → next + length line ≤ length now
  line-room h t room =
      omega (arith, ap length (first h), length-append line (left (k + 1)), t.adds-up, t.same)

  pub line-put : {old whole now new : List ℕ} {start next after : ℕ} → k < length lines
      → ToCome old start whole now (left k) next → Wrote now next line new after
      → ToCome old start whole new (left (k + 1)) after
  unfolding numbered
  line-put h t w = entry-put _ t (rest_at lines k h) w

  pub all-put : {old whole now : List ℕ} {start next : ℕ} → length lines ≤ k → ToCome old start whole now (left k) next
      → Wrote old start whole now next
  unfolding numbered
  all-put h t = all-entries-put _ t (rest_end lines k h)
