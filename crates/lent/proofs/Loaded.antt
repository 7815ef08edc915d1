-- The farm that an array is loaded as: it has the first herds of the array; where the array or the farm is too short
-- for so many, its check gives 9 (02, W12), with record 0; and what was stored is loaded again. Assumes nothing.
use mathlib.Core.Path.{◌≡◌, sym, ap, ◌∙◌}
use Prim.Native.Nat.{ℕ, ◌+◌, ◌≤◌, ◌<◌}
use native.Mathlib.Omega.{arith}
use mathlib.Core.Bool.{Bool, true, false}
use mathlib.Core.List.{List}
use lib.ListN.{length, take, replicate, length-take, length-replicate}
use lib.Dec.{ltb}
use borrow.Author.Tests.{lt-ltb, le-ltb}
use Rattle.base.specs.Pick.{pick}
use Rattle.base.specs.Refused.{refuse}
use Rattle.farm.specs.declared.Herd.{Herd}
use Rattle.farm.specs.declared.Farm.{Farm}
use Rattle.farm.specs.declared.Refusal.TheVariants.{NoRoomForHerd}
use Rattle.farm.specs.Limits.{herds_most}
use Rattle.farm.specs.Herds.{no_herd}
use Rattle.checks.specs.Checks.{herds_of, check_farm}
use Rattle.lent.specs.Laid.{laid, farm_in}
use Rattle.lent.proofs.Entries.{length-laid, take-laid}

either-beyond : (b : Bool) (x y : ℕ) → herds_most < x → herds_most < y → herds_most < pick b x y
either-beyond true x y h k = h
either-beyond false x y h k = k

module _ (hs : List Herd) (count : ℕ) where
  pub loaded_count : count ≤ length hs → (farm_in hs count).count ≡ count
  unfolding farm_in
  loaded_count k = rw (farm_in, le-ltb (length hs) count k)

  pub loaded_herds : count ≤ length hs → count ≤ herds_most → herds_of (farm_in hs count) ≡ take count hs
  unfolding farm_in
  loaded_herds k m =
      let blank = replicate herds_most no_herd in
      let n : length (take count hs) ≡ count = omega (arith, length-take count hs) in
      let fits : length (take count hs) ≤ length blank = omega (arith, n, m, length-replicate herds_most no_herd) in
      ap (λ (c : ℕ). take c (laid (take count hs) blank)) (loaded_count k ∙ sym n)
      ∙ take-laid (take count hs) blank fits

  -- more herds than the array has entries
  pub beyond-array : length hs < count → herds_most < (farm_in hs count).count
  unfolding farm_in
  beyond-array k = rw (farm_in, lt-ltb (length hs) count k) (omega arith)

  -- more than a farm has room for
  pub beyond-most : herds_most < count → herds_most < (farm_in hs count).count
  unfolding farm_in
  beyond-most k = either-beyond (ltb (length hs) count) (herds_most + 1) count (omega arith) k

pub refused-beyond : (f : Farm) → herds_most < f.count → check_farm f ≡ refuse NoRoomForHerd 0
unfolding check_farm
refused-beyond f k = rw (check_farm, lt-ltb herds_most f.count k)

-- a farm that the array has room for, stored and loaded
pub stored_loaded : (f : Farm) (old : List Herd) → length f.herds ≡ herds_most → f.count ≤ herds_most
    → f.count ≤ length old → herds_of (farm_in (laid (herds_of f) old) f.count) ≡ herds_of f
stored_loaded f old long most room =
    let hs = herds_of f in
    let n : length hs ≡ f.count = omega (arith, long, most, length-take f.count f.herds) in
    loaded_herds (laid hs old) f.count (omega (arith, room, length-laid hs old)) most
    ∙ ap (λ (c : ℕ). take c (laid hs old)) (sym n) ∙ take-laid hs old (omega (arith, n, room))
