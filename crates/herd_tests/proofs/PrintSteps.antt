-- The steps of the loop that looks for a print among some, each in the form that a place of the code
-- wants: i of them were compared, and `any` says whether one was the same. Assumes nothing.
use Prim.Native.Nat.{ℕ, ◌+◌, ◌≤◌, ◌<◌}
use mathlib.Core.Path.{◌≡◌, refl, ◌∙◌}
use mathlib.Core.Bool.{Bool, true, false, ◌||◌}
use mathlib.Core.List.{List}
use lib.Dec.{eqb}
use lib.ListN.{length, get_or, drop}
use Rattle.farm.proofs.Left.{left_at, left_end}
use Rattle.herd_tests.specs.Tests.{has_print}

or_assoc : (a b c : Bool) → ((a || b) || c) ≡ (a || (b || c))
or_assoc true b c = refl
or_assoc false b c = refl

or_false : (a : Bool) → (a || false) ≡ a
or_false true = refl
or_false false = refl

module _ (ps : List ℕ) (print i : ℕ) (any X : Bool) (inv : (any || has_print (drop i ps) print) ≡ X) where
  pub print_turn : i < length ps → ((any || eqb (get_or ps i 0) print) || has_print (drop (i + 1) ps) print) ≡ X
  print_turn h = or_assoc any _ _ ∙ (rw (left_at ps i 0 h) at inv)

  pub prints-end : length ps ≤ i → any ≡ X
  prints-end h = rw (left_end ps i h, or_false) at inv

pub ruleset print_steps = (print_turn, prints-end)
