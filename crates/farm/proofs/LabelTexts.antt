-- Two labels that fit are one exactly where their bytes in use are the same; and a good label is not the one that says
-- nothing. Assumes nothing.
use Prim.Native.Nat.{◌≤◌}
use mathlib.Core.Path.{◌≡◌, refl, ap, sym, ◌∙◌}
use mathlib.Core.Bool.{Bool, true, false, ◌&&◌}
use native.Mathlib.Omega.{arith}
use lib.Dec.{leb, eqb}
use lib.ListN.{length}
use lib.Seq.{length-take-le}
use borrow.Author.Tests.{eq-eqb, ne_eqb, leb-true, le-leb}
use Rattle.base.specs.Part.{same_bytes}
use Rattle.base.proofs.Holds.{both_true, same-eq, same_self}
use Rattle.farm.specs.declared.Label.{Label}
use Rattle.farm.specs.Limits.{label_most}
use Rattle.farm.specs.Labels.{all_ok, text, label_ok, same_label, no_label}

-- a good label has a byte
pub no-label : (l : Label) → label_ok l ≡ true → same_label no_label l ≡ false
unfolding label_ok same_label
no-label l e = go (leb 1 l.len) refl e
  where
    go : (t : Bool) → leb 1 l.len ≡ t → (t && (leb l.len label_most && all_ok (text l))) ≡ true
        → same_label no_label l ≡ false
    go true h e = let some : 1 ≤ l.len = leb-true 1 l.len h in rw (ne_eqb 0 l.len (λ z. omega arith))
    go false h e = cc

pub same_text : (a b : Label) → same_label a b ≡ true → text a ≡ text b
unfolding same_label
same_text a b e =
    let h = (both_true (eqb a.len b.len) (leb a.len label_most && same_bytes (text a) (text b)) e).1 in
    same-eq (text a) (text b) (both_true (leb a.len label_most) (same_bytes (text a) (text b)) h).1

module _ (a b : Label) (long : length a.bytes ≡ label_most) (long' : length b.bytes ≡ label_most)
    (room : a.len ≤ label_most) (room' : b.len ≤ label_most) where
  pub text_same : text a ≡ text b → same_label a b ≡ true
  unfolding same_label
  text_same e =
      let k = length-take-le a.len a.bytes (omega arith) in
      let k' = length-take-le b.len b.bytes (omega arith) in
      let n : a.len ≡ b.len = sym k ∙ ap length e ∙ k' in
      rw (eq-eqb a.len b.len n, le-leb a.len label_most room, e) (same_self (text b))
