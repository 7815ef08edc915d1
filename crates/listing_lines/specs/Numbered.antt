-- The lines of a listing as the code goes about them: by the numbers of names, with texts from a table. No reader has
-- to believe it: crate `listing` shows that they are 01's.
use Rattle.std.specs.Prelude.{ℕ, ◌+◌, List, ◌++◌, get_or, ℤ, pos}
use Rattle.base.specs.Part.{part}
use Rattle.base.specs.Text.{bytes}
use Rattle.kilogram_text.specs.Kilograms.{kilograms_of}
use Rattle.line_parts.specs.Fields.{each}

-- as long as section and name can be, with what stands around them
abbrev pub longest_middle : ℕ
longest_middle = 32

unfoldable pub put_together : List ℕ → List ℕ → ℤ → List ℕ
put_together owner middle grams = owner ++ middle ++ kilograms_of grams ++ bytes "\r\n"

-- the lines of these numbers; a middle stands in the table from its start to the next
unfoldable pub numbered : List ℕ → List ℕ → List ℕ → List ℤ → List ℕ → List ℕ
numbered owner table from grams lines =
    each (λ (n : ℕ). put_together owner (part table (get_or from n 0) (get_or from (n + 1) 0))
    (get_or grams n (pos 0))) lines
