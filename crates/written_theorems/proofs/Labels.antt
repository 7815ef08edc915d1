-- A label that the checks accept is that of its text. Assumes nothing.
use Prim.Native.Nat.{◌≤◌}
use mathlib.Core.Path.{◌≡◌, sym, ap, ◌∙◌}
use mathlib.Core.Bool.{true, false, ◌&&◌}
use native.Mathlib.Omega.{arith}
use borrow.Author.Tests.{leb-true, le-leb}
use lib.Dec.{leb}
use lib.ListN.{length}
use lib.Seq.{length-take-le}
use Rattle.base.proofs.Clash.{clash}
use Rattle.base.proofs.Holds.{both_true}
use Rattle.farm.specs.declared.Label.{Label}
use Rattle.farm.specs.Limits.{label_most}
use Rattle.farm.specs.Labels.{all_ok, text, label_ok, same_label, label_of}
use Rattle.farm.proofs.LabelTexts.{text_same}
use Rattle.rules_theorems.specs.Rules.{GoodLabel}
use Rattle.rules_theorems.proofs.Labels.{text_of, ok_good, one-text}

-- what the test of a label tells
record Tested (l : Label) : Type 0 where
  pub some : 1 ≤ l.len
  pub most : l.len ≤ label_most
  pub good : all_ok (text l) ≡ true

tested : (l : Label) → label_ok l ≡ true → Tested l
unfolding label_ok
tested l e =
    let a = both_true (leb 1 l.len) (leb l.len label_most && all_ok (text l)) e in
    let b = both_true (leb l.len label_most) (all_ok (text l)) a.1 in
    record { some = leb-true 1 l.len a.0; most = leb-true l.len label_most b.0; good = b.1 }

module _ (l : Label) (room : length l.bytes ≡ label_most) (ok : label_ok l ≡ true) where
  text-length : length (text l) ≡ l.len
  text-length = length-take-le l.len l.bytes (omega (arith, room, (tested l ok).most))

  text-short : length (text l) ≤ label_most
  text-short = omega (arith, text-length, (tested l ok).most)

  pub same_text : text (label_of (text l)) ≡ text l
  same_text = text_of (text l) text-short

  pub good-text : GoodLabel (text l)
  unfolding label_ok label_of
  good-text = ok_good (text l) (
      rw (
        le-leb 1 (length (text l)) (omega (arith, text-length, (tested l ok).some)),
        le-leb (length (text l)) label_most text-short,
      )
      (ap all_ok same_text ∙ (tested l ok).good))

-- two labels that are not one have two texts
module _ (a b : Label) (room : length a.bytes ≡ label_most) (room' : length b.bytes ≡ label_most)
    (ok : label_ok a ≡ true) (ok' : label_ok b ≡ true) where
  pub two-labels : same_label a b ≡ false → label_of (text a) ≡ label_of (text b) → ⊥
  two-labels d e =
      let t = text_same a b room room' (tested a ok).most (tested b ok').most
      (one-text (good-text a room ok) (good-text b room' ok') e) in
      let z : false ≡ true = sym d ∙ t in
      clash cc
