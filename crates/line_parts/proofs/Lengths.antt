-- How long a label's field is, and texts one after the other, from how long each of them is. Assumes nothing.
use Prim.Native.Nat.{ℕ, ◌+◌, ◌≤◌}
use mathlib.Core.Path.{◌≡◌}
use mathlib.Core.Bool.{Bool, true, false, ◌&&◌}
use mathlib.Core.List.{List, [], ◌∷◌, ◌++◌}
use native.Mathlib.Nat.{min-le_left}
use native.Mathlib.Omega.{arith}
use borrow.Author.Tests.{leb-true}
use lib.Dec.{leb}
use lib.ListN.{length, length-append, length-take}
use Rattle.base.specs.Pick.{pick}
use Rattle.base.specs.Text.{bytes}
use Rattle.base.proofs.Holds.{both_true}
use Rattle.farm.specs.declared.Label.{Label}
use Rattle.farm.specs.Limits.{label_most}
use Rattle.farm.specs.Labels.{all_ok, text, label_ok}
use Rattle.line_parts.specs.Bounds.{longest_label}
use Rattle.line_parts.specs.Fields.{has_comma, label_field, each}

-- ---- a label

pub label-short : (l : Label) → label_ok l ≡ true → length (text l) ≤ longest_label
unfolding label_ok
label-short l e =
    let inner = leb l.len label_most && all_ok (text l) in
    let within = (both_true (leb l.len label_most) (all_ok (text l)) (both_true (leb 1 l.len) inner e).1).0 in
    let n = leb-true l.len label_most within in
    omega (arith, n, length-take l.len l.bytes, min-le_left l.len (length l.bytes))

-- it has at most two quotes more as a field
pub field-length : (label : List ℕ) → length (label_field label) ≤ length label + 2
unfolding label_field
field-length label = go (has_comma label)
  where
    go : (b : Bool) → length (pick b (bytes "\"" ++ label ++ bytes "\"") label) ≤ length label + 2
    go true = simp length-append (omega arith)
    go false = omega arith

-- ---- texts one after the other

abbrev pub sum_of : {A : Type 0} → (A → ℕ) → List A → ℕ
sum_of room [] = 0
sum_of room (x ∷ xs) = room x + sum_of room xs

pub each_fits : {A : Type 0} (of : A → List ℕ) (room : A → ℕ) → ((x : A) → length (of x) ≤ room x) → (xs : List A)
    → length (each of xs) ≤ sum_of room xs
each_fits of room fits [] = omega arith
each_fits of room fits (x ∷ xs) =
    let h = each_fits of room fits xs in
    omega (arith, length-append (of x) (each of xs), fits x)
