-- `words::find_word` meets its contract: the loop compares the words from `at` on, of which `place` were passed, and
-- they have room in the text. Assumes nothing.
use Prim.Native.Nat.{◌+◌, ◌≤◌}
use mathlib.Core.Path.{◌≡◌}
use lib.ListN.{length, drop}
use Rattle.base.specs.Part.{same_bytes}
use Rattle.words.specs.Find.{first_from, words_of, room_of}
use Rattle.words.proofs.find_word.Given as goal

abbrev pub invariant-loop-place : goal.invariant-loop-place
invariant-loop-place l = (l.at + room_of (drop l.place l.lengths) ≤ length l.words + 1)
    × (first_from (same_bytes l.text) l.place (words_of (drop l.at l.words) (drop l.place l.lengths))
    ≡ first_from (same_bytes l.text) 0 (words_of l.words l.lengths))
