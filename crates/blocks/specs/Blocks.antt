-- A text is copied in blocks of so many bytes, and is at most three of them. No reader has to believe it.
use Rattle.std.specs.Prelude.{ℕ, ◌*◌}

abbrev pub block : ℕ
block = 16

abbrev pub longest_text : ℕ
longest_text = 3 * block
