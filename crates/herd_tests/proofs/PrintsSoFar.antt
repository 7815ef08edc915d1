-- Prints that keep step with herds: the first n are those of the first n herds' labels. A label whose print is none of
-- theirs is that of no earlier herd. Assumes nothing.
use Prim.Native.Nat.{ℕ, ◌+◌, ◌<◌}
use mathlib.Core.Path.{◌≡◌, refl, sym, ap, ◌∙◌}
use mathlib.Core.Bool.{Bool, true, false, true≢false, ◌||◌}
use mathlib.Core.List.{List, [], ◌∷◌, map-append}
use native.Mathlib.Numerals.{add-one}
use native.Mathlib.Omega.{arith}
use lib.Dec.{eqb}
use lib.ListN.{length, get_or, take, set}
use lib.Seq.{take-suc}
use borrow.Author.Tests.{eq-eqb}
use Rattle.farm.specs.Limits.{herds_most}
use Rattle.farm.specs.declared.Label.{Label}
use Rattle.farm.specs.declared.Herd.{Herd}
use Rattle.farm.specs.Labels.{same_label}
use Rattle.farm.specs.Prints.{print_of}
use Rattle.farm.proofs.Left.{taken-stored}
use Rattle.farm.proofs.PrintSteps.{same_print}
use Rattle.herd_tests.specs.Tests.{earlier_label, has_print, prints_of}

-- a herd is stored behind the first n, and its print with it
module _ (ps : List ℕ) (hs : List Herd) (n : ℕ) (same : take n ps ≡ prints_of (take n hs)) where
  pub prints-stored : length ps ≡ herds_most → length hs ≡ herds_most → n < herds_most → (h : Herd) {p : ℕ}
      → p ≡ print_of h.label → take (n + 1) (set ps n p) ≡ prints_of (take (n + 1) (set hs n h))
  prints-stored long long' b h {p} e =
      let j : n < length ps = omega arith in
      let k : n < length hs = omega arith in
      rw (taken-stored ps n p j, taken-stored hs n h k, map-append, same, e)

  -- or the herd stands there already
  pub prints-next : length ps ≡ herds_most → length hs ≡ herds_most → n < herds_most → (d : Herd) {p : ℕ}
      → p ≡ print_of (get_or hs n d).label → take (n + 1) (set ps n p) ≡ prints_of (take (n + 1) hs)
  prints-next long long' b d {p} e =
      let j : n < length ps = omega arith in
      let k : n < length hs = omega arith in
      rw (taken-stored ps n p j, add-one, take-suc hs n d k, map-append, same, e)

no_such_print : (hs : List Herd) (l : Label) → has_print (prints_of hs) (print_of l) ≡ false
    → earlier_label hs l ≡ false
unfolding earlier_label
no_such_print [] l e = refl
no_such_print (h ∷ hs) l e =
    go (eqb (print_of h.label) (print_of l)) refl (same_label h.label l) refl e (no_such_print hs l)
  where
    go : (t : Bool) → eqb (print_of h.label) (print_of l) ≡ t → (u : Bool) → same_label h.label l ≡ u
        → (t || has_print (prints_of hs) (print_of l)) ≡ false
        → (has_print (prints_of hs) (print_of l) ≡ false → earlier_label hs l ≡ false)
        → (u || earlier_label hs l) ≡ false
    go true q u v n rest = cc
    go false q true v n rest = absurd (true≢false (sym (eq-eqb _ _ (same_print h.label l v)) ∙ q))
    go false q false v n rest = rest n

-- a label is new: none of the first n prints is its own, or one is, and the labels were compared
module _ (hs : List Herd) (l : Label) {b : Bool} where
  pub new-by_print : (ps : List ℕ) (n : ℕ) → take n ps ≡ prints_of (take n hs) → {p : ℕ} → p ≡ print_of l
      → b ≡ has_print (take n ps) p → b ≡ false → earlier_label (take n hs) l ≡ false
  new-by_print ps n same e q t =
      no_such_print (take n hs) l (sym (ap (λ (x : List ℕ). has_print x (print_of l)) same)
      ∙ sym (ap (has_print (take n ps)) e) ∙ sym q ∙ t)

  pub new-by-label : b ≡ earlier_label hs l → b ≡ false → earlier_label hs l ≡ false
  new-by-label q t = sym q ∙ t

pub ruleset new_steps = (new-by_print, new-by-label)
