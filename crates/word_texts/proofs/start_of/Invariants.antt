-- `word_texts::start_of` meets its contract: each turn passes a word, of at most 255 bytes. Assumes nothing.
use Prim.Native.Nat.{◌+◌, ◌*◌, ◌≤◌}
use mathlib.Core.Path.{◌≡◌}
use lib.ListN.{take, drop}
use Rattle.words.specs.Find.{room_of}
use Rattle.word_texts.proofs.start_of.Given as goal

abbrev pub invariant-loop-len : goal.invariant-loop-len
invariant-loop-len l = (l.at ≤ 256 * l.len-index)
    × (l.at + room_of (drop l.len-index (take l.place l.lengths)) ≡ room_of (take l.place l.lengths))
