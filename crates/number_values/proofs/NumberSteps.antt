-- What a number says, from the calls that read it: each law in the form that a place of src/lib.rt wants. Assumes
-- nothing.
use Rattle.std.specs.Prelude.{Err, None, Ok, Some}
use Prim.Native.Nat.{ℕ, zero, suc, ◌<◌, ◌^◌}
use mathlib.Core.Path.{◌≡◌, refl, sym, ◌∙◌}
use mathlib.Core.Bool.{Bool, true, false}
use mathlib.Core.List.{List}
use native.Mathlib.Omega.{arith}
use lib.IntN.{pos, negsuc, ◌-ℤ◌, +ℤ_idl}
use lib.ListN.{length}
use mir.Syntax.{w16, w32}
use mir.Val.{Fits, SFits, to_z, of_z}
use mir.Facts.{to_z-of_z, sfits_lit}
use Rattle.base.specs.Part.{part}
use Rattle.numbers.specs.Reading.{number_of}
use Rattle.numbers.proofs.Agrees.{number_iff}
use Rattle.farm.specs.declared.Given.TheVariants.{Value, Signed}
use Rattle.number_values.specs.Numbers.{number_read, has_minus, below_read, above_read, signed_read, ValueRead}
use Rattle.number_values.specs.declared.ValueFault.TheVariants.{Unfit}
use Rattle.digits.specs.Digits.{Number}

-- a number was read
module _ {x y : Number} (q : x ≡ y) where
  pub number_is : {v : ℕ} → x ≡ Some v → Ok (Value v) ≡ number_read y
  number_is e = simp (sym q ∙ e)

  pub number-unfit : x ≡ None → Err Unfit ≡ number_read y
  number-unfit e = simp (sym q ∙ e)

-- a number was read behind a `-`, or without one: no more than the most on either side, a u16, so an i32 holds it
minus_fits : (v : ℕ) → v < 2 ^ 31 → SFits w32 (pos 0 -ℤ pos v)
minus_fits zero h = sfits_lit tt
minus_fits (suc v) h = rw (+ℤ_idl (negsuc v)) (record { sfits = omega arith })

module _ (s : List ℕ) {most : ℕ} (f : Fits w16 most) {x : Number} (q : x ≡ number_of s 0 most) {v : ℕ}
    (e : x ≡ Some v) where
  read : number_of s 0 most ≡ Some v
  read = sym q ∙ e

  small : v < 2 ^ 31
  small = omega (arith, ((number_iff s 0 most v).0 read).1)

  pub above-fits : SFits w32 (pos v)
  above-fits = record { sfits = small }

  pub above-is : Ok (Signed (to_z w32 v)) ≡ above_read (number_of s 0 most)
  above-is = rw (read, to_z-of_z above-fits) refl

  pub below-fits : SFits w32 (pos 0 -ℤ to_z w32 v)
  below-fits = rw (to_z-of_z above-fits) (minus_fits v small)

  pub below-is : (v ≡ 0 → ⊥) → Ok (Signed (to_z w32 (of_z w32 (pos 0 -ℤ to_z w32 v)))) ≡ below_read (number_of s 0 most)
  below-is h = rw (to_z-of_z below-fits, to_z-of_z above-fits, read) (less v h)
    where
      less : (v : ℕ) → (v ≡ 0 → ⊥) → Ok (Signed (pos 0 -ℤ pos v)) ≡ below_read (Some v)
      less zero h = absurd (h refl)
      less (suc v) h = rw (+ℤ_idl (negsuc v)) refl

module _ {x y : Number} (q : x ≡ y) where
  pub below-nought : {v : ℕ} → x ≡ Some v → v ≡ 0 → Err Unfit ≡ below_read y
  below-nought e h = rw (sym q ∙ e, h) refl

  pub below-unfit : x ≡ None → Err Unfit ≡ below_read y
  below-unfit e = simp (sym q ∙ e)

  pub above-unfit : x ≡ None → Err Unfit ≡ above_read y
  above-unfit e = simp (sym q ∙ e)

-- by the byte in front
module _ (s : List ℕ) {b : Bool} (q : b ≡ has_minus s) (most : ℕ) {r : ValueRead} where
  pub signed_below : {t : List ℕ} → b ≡ true → t ≡ part s 1 (length s) → r ≡ below_read (number_of t 0 most)
      → r ≡ signed_read s most
  unfolding signed_read
  signed_below h e d = rw (sym q ∙ h, ← e) d

  pub signed_above : b ≡ false → r ≡ above_read (number_of s 0 most) → r ≡ signed_read s most
  unfolding signed_read
  signed_above h d = rw (sym q ∙ h) d

pub ruleset number_steps = (
  number_is,
  number-unfit,
  below-fits,
  below-is,
  below-nought,
  below-unfit,
  above-fits,
  above-is,
  above-unfit,
  signed_below,
  signed_above,
)
