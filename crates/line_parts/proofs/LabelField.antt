-- A label as a field: its bytes as the code takes them, the search for a comma, and what is written in either case.
-- Assumes nothing.
use Prim.Native.Nat.{ℕ, ◌-◌, ◌≤◌}
use mathlib.Core.Path.{◌≡◌, refl, sym, ap, ◌∙◌}
use mathlib.Core.Bool.{Bool, true, false, ◌||◌}
use mathlib.Core.List.{List, [], ◌∷◌, ◌++◌}
use native.Mathlib.Omega.{arith}
use native.Mathlib.Nat.{min-le_right}
use lib.Dec.{eqb}
use lib.ListN.{length, take, length-take}
use Rattle.std.specs.List.{list_any}
use Rattle.base.specs.Pick.{pick}
use Rattle.base.specs.Part.{part}
use Rattle.farm.specs.declared.Label.{Label}
use Rattle.farm.specs.Labels.{text}
use Rattle.line_parts.specs.Bounds.{longest_label}
use Rattle.line_parts.specs.Fields.{has_comma, label_field}

-- what `contains` looks for
pub comma-any : (s : List ℕ) → list_any (λ (b : ℕ). eqb b 44) s ≡ has_comma s
unfolding has_comma
comma-any [] = refl
comma-any (b ∷ s) = go (eqb b 44) (comma-any s)
  where
    go : (t : Bool) {u v : Bool} → u ≡ v → (t || u) ≡ pick t true v
    go true e = refl
    go false e = e

-- whether the label has a comma is b
module _ (s : List ℕ) (b : Bool) (e : b ≡ has_comma s) where
  pub quoted : b ≡ true → (34 ∷ []) ++ s ++ (34 ∷ []) ≡ label_field s
  unfolding label_field
  quoted t = rw (sym e ∙ t)

  pub bare : b ≡ false → s ≡ label_field s
  unfolding label_field
  bare t = rw (sym e ∙ t)

-- p is the part of the label's bytes that the code takes
module _ (l : Label) (p : List ℕ) (e : p ≡ part l.bytes 0 l.len) where
  pub text-is : p ≡ text l
  unfolding part
  text-is = let z : l.len - 0 ≡ l.len = omega arith in e ∙ ap (λ (n : ℕ). take n l.bytes) z

  pub text-short : length l.bytes ≡ longest_label → length p ≤ longest_label
  text-short h = omega
      (arith, ap length text-is, length-take l.len l.bytes, min-le_right l.len (length l.bytes))
