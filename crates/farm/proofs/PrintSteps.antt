-- The steps of `print_of`, each in the form that a place of the code wants; and labels that are one have one print.
-- Assumes nothing.
use Prim.Native.Nat.{ℕ, ◌+◌, ◌≤◌, ◌<◌}
use mathlib.Core.Path.{◌≡◌, ap, ◌∙◌}
use mathlib.Core.Bool.{Bool, true, ◌&&◌}
use mathlib.Core.List.{List}
use native.Mathlib.Omega.{arith}
use lib.Dec.{leb, eqb}
use lib.ListN.{length, get_or, drop}
use borrow.Author.Tests.{lt-leb, le-leb, eqb-true}
use Rattle.base.specs.Pick.{pick}
use Rattle.base.specs.Part.{same_bytes}
use Rattle.base.proofs.Holds.{both_true}
use Rattle.farm.specs.declared.Label.{Label}
use Rattle.farm.specs.Limits.{label_most}
use Rattle.farm.specs.Labels.{text, same_label}
use Rattle.farm.specs.Prints.{print_with, print_from, print_of}
use Rattle.farm.proofs.Left.{left_at, left_end}
use Rattle.farm.proofs.LabelTexts.{same_text}

-- ---- i bytes are taken into the print

module _ (l : Label) where
  pub print_past : label_most < l.len → 0 ≡ print_of l
  unfolding print_of
  print_past h = simp (lt-leb l.len label_most h)

  pub print_start : l.len ≤ label_most → print_from 0 (text l) ≡ print_of l
  unfolding print_of
  print_start h = simp (le-leb l.len label_most h)

  module _ (i p : ℕ) (inv : print_from p (drop i (text l)) ≡ print_of l) where
    pub print_next : i < length (text l) → (r : ℕ) → r ≡ print_with p (get_or (text l) i 0)
        → print_from r (drop (i + 1) (text l)) ≡ print_of l
    print_next h r e = rw e (rw (left_at (text l) i 0 h) at inv)

    pub print_end : length (text l) ≤ i → p ≡ print_of l
    print_end h = rw (left_end (text l) i h) at inv

pub ruleset print_steps = (print_past, print_start, print_next, print_end)

-- ---- labels that are one

pub same_print : (a b : Label) → same_label a b ≡ true → print_of a ≡ print_of b
unfolding print_of same_label
same_print a b e =
    let n : a.len ≡ b.len =
    eqb-true a.len b.len
    (both_true (eqb a.len b.len) (leb a.len label_most && same_bytes (text a) (text b)) e).0 in
    ap (λ (k : ℕ). pick (leb k label_most) (print_from 0 (text a)) 0) n
    ∙ ap (λ (t : List ℕ). pick (leb b.len label_most) (print_from 0 t) 0) (same_text a b e)
