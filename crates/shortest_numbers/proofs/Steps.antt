-- A number as `whole_part` and `put_shortest` go through it, from its last decimal on. Assumes nothing.
use Prim.Native.Nat.{ℕ, zero, suc, ◌+◌, ◌-◌, ◌/◌, ◌%◌, ◌^◌, ◌≤◌, ◌<◌}
use mathlib.Core.Path.{◌≡◌, sym, ap, ◌∙◌}
use mathlib.Core.List.{List, [], ◌∷◌, ◌++◌}
use native.Mathlib.Nat.{div-one, div-div-eq-div-mul, pow-suc}
use native.Mathlib.Numerals.{add-one}
use native.Mathlib.Omega.{arith}
use borrow.Author.Tests.{eq-eqb, ne_eqb}
use lib.ListN.{length}
use Rattle.base.specs.Wrote.{Wrote}
use Rattle.decimal.specs.Writing.{lowest, whole_of}
use Rattle.decimal.proofs.Widths.{whole_length}
use Rattle.shortest_numbers.specs.Shortest.{pointed, shortest}
use Rattle.shortest_numbers.proofs.NoShorter.{pointed-length}

-- i of the decimals were cut off
module _ (v whole i : ℕ) (inv : whole ≡ v / 10 ^ i) where
  pub part_cut : whole / 10 ≡ v / 10 ^ (i + 1)
  part_cut = rw inv (div-div-eq-div-mul v (10 ^ i) 10 ∙ ap (λ (n : ℕ). v / n) (sym (rw add-one (pow-suc 10 i))))

  pub part-is : (k : ℕ) → i ≤ k → k ≤ i → whole ≡ v / 10 ^ k
  part-is k h l = let e : k ≡ i = omega arith in rw e inv

pub part-starts : (v : ℕ) → v ≡ v / 10 ^ 0
part-starts v = sym (div-one v)

pub ruleset part_steps = (part-starts, part_cut, part-is)

-- X is the shortest form, and the buffer is as it was
module _ (left m : ℕ) (X : List ℕ) (inv : shortest left m ≡ X) where
  pub zero-cut : 0 < left → m % 10 ≡ 0 → shortest (left - 1) (m / 10) ≡ X
  unfolding shortest
  zero-cut h z = go left inv h
    where
      go : (n : ℕ) → shortest n m ≡ X → 0 < n → shortest (n - 1) (m / 10) ≡ X
      go zero e h = absurd (omega arith)
      go (suc n) e h =
          let y : suc n - 1 ≡ n = omega arith in
          rw y (rw (shortest, eq-eqb (m % 10) 0 z) at e)

  all_shown : 0 < left → (m % 10 ≡ 0 → ⊥) → pointed left m ≡ X
  unfolding shortest
  all_shown h z = go left inv h
    where
      go : (n : ℕ) → shortest n m ≡ X → 0 < n → pointed n m ≡ X
      go zero e h = absurd (omega arith)
      go (suc n) e h = rw (shortest, ne_eqb (m % 10) 0 z) at e

  none-shown : left ≤ 0 → whole_of m ≡ X
  unfolding shortest
  none-shown h = let z : 0 ≡ left = omega arith in ap (λ (n : ℕ). shortest n m) z ∙ inv

  module _ (old now : List ℕ) (same : now ≡ old) (at : ℕ) where
    pub pointed-room : at + length X ≤ length old → 0 < left → (m % 10 ≡ 0 → ⊥) → (n : ℕ) → n ≡ left
        → at + length (pointed n m) ≤ length now
    pointed-room h o z n e = rw e (omega (arith, h, ap length same, ap length (all_shown o z)))

    pub whole_room : at + length X ≤ length old → left ≤ 0 → at + length (whole_of m) ≤ length now
    whole_room h o = omega (arith, h, ap length same, ap length (none-shown o))

    pub pointed-put : {new : List ℕ} {next : ℕ} → 0 < left → (m % 10 ≡ 0 → ⊥) → (n : ℕ) → n ≡ left
        → Wrote now at (pointed n m) new next → Wrote old at X new next
    pointed-put o z n e w = rw (← same, ← (all_shown o z), ← e) w

    pub whole-put : {new : List ℕ} {next : ℕ} → left ≤ 0 → Wrote now at (whole_of m) new next → Wrote old at X new next
    whole-put o w = rw (← same, ← (none-shown o)) w

pub ruleset zero_steps = (zero-cut, pointed-room, whole_room, pointed-put, whole-put)

-- the parts of a number with all its decimals
pub pointed-is : (d v w : ℕ) → w ≡ v / 10 ^ d → whole_of w ++ (46 ∷ []) ++ lowest d v ≡ pointed d v
unfolding pointed
pointed-is d v w e = rw e

pub parts-length : (d v w : ℕ) → w ≡ v / 10 ^ d → length (pointed d v) ≡ length (whole_of w) + 1 + d
parts-length d v w e = rw e (omega (arith, pointed-length d v, whole_length (v / 10 ^ d)))
