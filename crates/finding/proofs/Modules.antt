-- The stretches of the modules against the list: what an arm of the `match` on a module's place has is what the list
-- has there. Assumes nothing.
use Rattle.std.specs.Prelude.{None, Some}
use Prim.Native.Nat.{ℕ, ◌<◌, ◌≤◌}
use mathlib.Core.Path.{◌≡◌, refl}
use mathlib.Core.Bool.{false}
use native.Mathlib.Omega.{arith}
use lib.Dec.{lit≤, eqb}
use borrow.Author.Tests.{ne_eqb}
use Rattle.inputs.specs.declared.Kind.TheVariants.{Roughage, Cattle, Pigs, DairyCow}
use Rattle.inputs.proofs.Arms.{NoneOf, none_below}
use Rattle.finding.specs.Find.{first_row, is_placed, placed_among, find_placed, find_slots, find_within, Module}
use Rattle.words.specs.Find.{Found}

pub module_at_lem : {place i : ℕ} (M : Module) → place ≡ i
    → ((name : Found) → find_placed (Some i) name ≡ find_within M name)
    → (name : Found) → find_placed (Some place) name ≡ find_within M name
module_at_lem M e h name = rw e (h name)

module _ (name : Found) where
  pub roughage-excretion : find_placed (Some 0) name ≡ find_within (Some (Roughage, 0, 4)) name
  unfolding find_placed placed_among first_row is_placed find_slots find_within
  roughage-excretion = refl

  pub roughage-housing : find_placed (Some 1) name ≡ find_within (Some (Roughage, 4, 5)) name
  unfolding find_placed placed_among first_row is_placed find_slots find_within
  roughage-housing = refl

  pub roughage-grazing : find_placed (Some 2) name ≡ find_within (Some (Roughage, 5, 7)) name
  unfolding find_placed placed_among first_row is_placed find_slots find_within
  roughage-grazing = refl

  pub cattle-excretion : find_placed (Some 3) name ≡ find_within (Some (Cattle, 0, 3)) name
  unfolding find_placed placed_among first_row is_placed find_slots find_within
  cattle-excretion = refl

  pub cattle-outdoor : find_placed (Some 4) name ≡ find_within (Some (Cattle, 3, 9)) name
  unfolding find_placed placed_among first_row is_placed find_slots find_within
  cattle-outdoor = refl

  pub pigs-excretion : find_placed (Some 5) name ≡ find_within (Some (Pigs, 0, 3)) name
  unfolding find_placed placed_among first_row is_placed find_slots find_within
  pigs-excretion = refl

  pub pigs-housing : find_placed (Some 6) name ≡ find_within (Some (Pigs, 3, 4)) name
  unfolding find_placed placed_among first_row is_placed find_slots find_within
  pigs-housing = refl

  pub pigs-air-scrubber : find_placed (Some 7) name ≡ find_within (Some (Pigs, 4, 5)) name
  unfolding find_placed placed_among first_row is_placed find_slots find_within
  pigs-air-scrubber = refl

  pub pigs-mitigation : find_placed (Some 8) name ≡ find_within (Some (Pigs, 5, 7)) name
  unfolding find_placed placed_among first_row is_placed find_slots find_within
  pigs-mitigation = refl

  pub pigs-free-factor : find_placed (Some 9) name ≡ find_within (Some (Pigs, 7, 8)) name
  unfolding find_placed placed_among first_row is_placed find_slots find_within
  pigs-free-factor = refl

  pub dairy_excretion_lem : find_placed (Some 10) name ≡ find_within (Some (DairyCow, 0, 3)) name
  unfolding find_placed placed_among first_row is_placed find_slots find_within
  dairy_excretion_lem = refl

  pub dairy_outdoor_lem : find_placed (Some 11) name ≡ find_within (Some (DairyCow, 3, 9)) name
  unfolding find_placed placed_among first_row is_placed find_slots find_within
  dairy_outdoor_lem = refl

pub ruleset stretches = (
  roughage-excretion,
  roughage-housing,
  roughage-grazing,
  cattle-excretion,
  cattle-outdoor,
  pigs-excretion,
  pigs-housing,
  pigs-air-scrubber,
  pigs-mitigation,
  pigs-free-factor,
  dairy_excretion_lem,
  dairy_outdoor_lem,
)

above : (i place : ℕ) → i < 12 → 12 ≤ place → eqb i place ≡ false
above i place b past = ne_eqb i place (λ e. omega arith)

pub module_none : (place : ℕ) → NoneOf 12 place → (name : Found) → find_placed (Some place) name ≡ find_within None name
unfolding find_placed placed_among first_row is_placed find_within
module_none place o name =
    let past = none_below 12 place o in
    simp (
      above 0 place (lit≤ tt) past,
      above 1 place (lit≤ tt) past,
      above 2 place (lit≤ tt) past,
      above 3 place (lit≤ tt) past,
      above 4 place (lit≤ tt) past,
      above 5 place (lit≤ tt) past,
      above 6 place (lit≤ tt) past,
      above 7 place (lit≤ tt) past,
      above 8 place (lit≤ tt) past,
      above 9 place (lit≤ tt) past,
      above 10 place (lit≤ tt) past,
      above 11 place (lit≤ tt) past,
    )
