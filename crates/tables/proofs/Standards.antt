-- What a standard is past the last category, and that none is above 80 kg. Assumes nothing.
use Prim.Native.Nat.{ℕ, ◌≤◌}
use mathlib.Core.Path.{◌≡◌, refl, sym}
use mathlib.Core.Bool.{Bool, true, false}
use native.Mathlib.Omega.{arith}
use lib.Dec.{leb, leb→le, ltb}
use lib.ListN.{length, get_or-eq_default}
use borrow.Author.Tests.{ltb-true, ltb-false}
use Rattle.base.proofs.Table.{every-at}
use Rattle.tables.specs.Standards.{◌kg, standards, standard_of}

pub past-last : (category : ℕ) → length standards ≤ category → 0 ≡ standard_of category
unfolding standard_of
past-last category h = sym (get_or-eq_default standards 0 h)

small : ℕ → ℕ → Bool
small category n = leb n (80 kg)

known_or_not : (category : ℕ) (b : Bool) → ltb category (length standards) ≡ b → standard_of category ≤ 80 kg
unfolding standard_of small
known_or_not category true e = leb→le _ _ (every-at small standards tt category (ltb-true _ _ e))
known_or_not category false e = omega (arith, past-last category (ltb-false _ _ e))

pub standard-most : (category : ℕ) → standard_of category ≤ 80 kg
standard-most category = known_or_not category (ltb category (length standards)) refl
