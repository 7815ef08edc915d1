-- A label's print, a number that its bytes in use make. It mirrors the code for its contracts: no answer depends on
-- which number it is, since labels are one only by their bytes (proofs/PrintSteps.antt, `same_print`).
use Rattle.std.specs.Prelude.{ℕ, ◌+◌, ◌*◌, ◌%◌, List, [], ◌∷◌, leb}
use Rattle.base.specs.Pick.{pick}
use Rattle.farm.specs.declared.Label.{Label}
use Rattle.farm.specs.Limits.{label_most}
use Rattle.farm.specs.Labels.{text}

-- a print with one byte more
abbrev pub print_with : ℕ → ℕ → ℕ
print_with print b = (print * 16777619 + b) % 4294967296

abbrev pub print_from : ℕ → List ℕ → ℕ
print_from print [] = print
print_from print (b ∷ rest) = print_from (print_with print b) rest

-- a label past the most is no good one, whatever the bytes
unfoldable pub print_of : Label → ℕ
print_of l = pick (leb l.len label_most) (print_from 0 (text l)) 0
