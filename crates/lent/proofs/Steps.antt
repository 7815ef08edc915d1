-- The steps of the functions: how many herds, and the arrays that they are copied into. Assumes nothing.
use mathlib.Core.Path.{◌≡◌, sym, ap, ◌∙◌}
use Prim.Native.Nat.{ℕ, ◌≤◌, min}
use native.Mathlib.Omega.{arith}
use mathlib.Core.List.{List, ◌++◌}
use lib.ListN.{length, take, drop, replicate, length-take, length-replicate}
use lib.Seq.{take-take}
use Rattle.farm.specs.declared.Herd.{Herd}
use Rattle.farm.specs.declared.Farm.{Farm}
use Rattle.farm.specs.Limits.{herds_most}
use Rattle.farm.specs.Herds.{no_herd}
use Rattle.checks.specs.Checks.{herds_of}
use Rattle.lent.specs.Laid.{laid, blank_herds}
use Rattle.lent.proofs.Lists.{laid-cut}

module _ (f : Farm) (long : length f.herds ≡ herds_most) where
  pub room_so : (b y : ℕ) → y ≡ min (min f.count herds_most) b → y ≡ min (length (herds_of f)) b
  room_so b y q = omega (arith, length-take f.count f.herds)

-- the first n herds of a farm, copied to the front of an array
pub stored : (f : Farm) (old : List Herd) {n : ℕ} {hs : List Herd} → hs ≡ take n f.herds
    → n ≡ min (length (herds_of f)) (length old) → hs ++ drop n old ≡ laid (herds_of f) old
stored f old {n} e q =
    let within : n ≤ f.count = omega (arith, q, length-take f.count f.herds) in
    ap (λ (l : List Herd). l ++ drop n old) (e ∙ sym (take-take n f.count f.herds within))
    ∙ laid-cut n (herds_of f) old q

-- the first n herds of an array, copied over blank ones
pub loaded : (hs : List Herd) (count : ℕ) {n : ℕ} {own : List Herd} → own ≡ take n hs
    → n ≡ min (min count herds_most) (length hs) → {h : Herd} → h ≡ no_herd
    → own ++ drop n (replicate herds_most h) ≡ laid (take count hs) blank_herds
loaded hs count {n} e q {h} b =
    let within : n ≤ count = omega (arith, q) in
    let room : n ≡ min (length (take count hs)) (length blank_herds) =
    omega (arith, q, length-take count hs, length-replicate herds_most no_herd) in
    ap (λ (l : List Herd). l ++ drop n (replicate herds_most h)) (e ∙ sym (take-take n count hs within))
    ∙ ap (λ (x : Herd). take n (take count hs) ++ drop n (replicate herds_most x)) b
    ∙ laid-cut n (take count hs) blank_herds room
