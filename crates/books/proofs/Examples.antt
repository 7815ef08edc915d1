-- 16's bound, computed from the definition: "a stored total beyond 10,000,000,000,000 grams above or below zero" (02,
-- W11). At the bound itself nothing is refused, and a gram beyond it is. Assumes nothing.
use mathlib.Core.Path.{◌≡◌, refl}
use mathlib.Core.Bool.{true, false}
use mathlib.Core.List.{[], ◌∷◌}
use lib.IntN.{ℤ, pos, negsuc}
use Rattle.outputs.specs.declared.Totals.{Totals}
use Rattle.books.specs.Rules.{beyond}

-- totals of which one is not 0
abbrev one : ℤ → Totals
one grams = record { grams = pos 0 ∷ grams ∷ [] }

-- 10,000,000,000,000 and a gram more; the same below zero, where negsuc n is n + 1 below it
pub bound_16 :
    (beyond (one (pos 10000000000000)) ≡ false) × (beyond (one (pos 10000000000001)) ≡ true)
    × (beyond (one (negsuc 9999999999999)) ≡ false) × (beyond (one (negsuc 10000000000000)) ≡ true)
unfolding beyond
bound_16 = (refl, refl, refl, refl)
