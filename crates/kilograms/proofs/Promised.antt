-- What 02 promises, of every name at once: a herd's figures and a farm's totals, where they are small enough.
-- Assumes nothing.
use Prim.Native.Nat.{ℕ}
use Prim.Native.String.{String}
use mathlib.Core.Path.{◌≡◌, sym, ap, subst, ◌∙◌}
use mathlib.Core.List.{List, map}
use lib.ListN.{get_or, get_or-map}
use lib.IntN.{ℤ, pos}
use Rattle.outputs.specs.declared.Figures.{Figures}
use Rattle.outputs.specs.declared.Totals.{Totals}
use Rattle.outputs.specs.Names.{number, total_number}
use Rattle.outputs.specs.Grams.{grams_at, figure, total, GramsTo}
use Rattle.kilograms.specs.Kilograms.{
  in_kilograms,
  kilograms_of,
  total_kilograms_of,
  plus_zero,
  kilograms_at,
  figure_in_kilograms,
  total_in_kilograms,
  exact_most,
}
use Rattle.kilograms.specs.Promised.{Promised}
use Rattle.kilograms.proofs.Doubles.{promised, nothing}

-- the kilograms of a number are those of its grams; past the last number both are 0
number_in-kilograms : (grams : List ℤ) (n : ℕ)
    → kilograms_at (map in_kilograms grams) n ≡ in_kilograms (grams_at grams n)
number_in-kilograms grams n =
    ap (get_or (map in_kilograms grams) n) (sym nothing) ∙ get_or-map in_kilograms grams n (pos 0)

number-promised : (grams : List ℤ) → GramsTo exact_most grams → (n : ℕ)
    → Promised (grams_at grams n) (kilograms_at (map in_kilograms grams) n)
number-promised grams to n =
    subst (Promised (grams_at grams n)) (sym (number_in-kilograms grams n)) (promised (grams_at grams n) (to.most n))

pub figures-promised : (f : Figures) → GramsTo exact_most f.grams → (t : String)
    → Promised (figure t f) (figure_in_kilograms t (kilograms_of f))
figures-promised f to t = number-promised f.grams to (number t)

pub totals-promised : (f : Totals) → GramsTo exact_most f.grams → (t : String)
    → Promised (total t f) (total_in_kilograms t (total_kilograms_of f))
totals-promised f to t = number-promised f.grams to (total_number t)

-- no grams are +0, under every name
pub no-grams_plus_zero : (grams : List ℤ) (n : ℕ) → grams_at grams n ≡ pos 0
    → kilograms_at (map in_kilograms grams) n ≡ plus_zero
no-grams_plus_zero grams n e = number_in-kilograms grams n ∙ ap in_kilograms e ∙ nothing
