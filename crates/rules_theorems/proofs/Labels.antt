-- A label's text and the label of the reader's record: good where the text is, and one where the texts are one. Assumes
-- nothing.
use Prim.Native.Nat.{ℕ, ◌≤◌}
use mathlib.Core.Path.{◌≡◌, refl, sym, ap, ◌∙◌}
use mathlib.Core.Bool.{Bool, true, false, not, ◌&&◌}
use mathlib.Core.List.{List, [], ◌∷◌, ◌++◌}
use native.Mathlib.Omega.{arith}
use lib.Dec.{leb, eqb}
use lib.ListN.{length, replicate, length-append, length-replicate}
use lib.Seq.{take-take, take-append_seam, length-take-le}
use borrow.Author.Tests.{leb-true, le-leb, not-true, eqb-false, ne_eqb}
use Rattle.base.specs.Each.{Each, none, more}
use Rattle.farm.specs.Labels.{byte_ok, all_ok, text, label_ok, same_label, no_label, label_of}
use Rattle.farm.proofs.LabelTexts.{same_text, text_same}
use Rattle.rules_theorems.specs.Rules.{label_most, LabelByte, GoodLabel}
use Rattle.rules_theorems.proofs.Lists.{both}

-- ---- the bytes in use are the text

pub text_of : (s : List ℕ) → length s ≤ label_most → text (label_of s) ≡ s
unfolding label_of
text_of s h =
    take-take (length s) label_most (s ++ replicate label_most 0) h ∙ take-append_seam s (replicate label_most 0)

pub room : (s : List ℕ) → length (label_of s).bytes ≡ label_most
unfolding label_of
room s = length-take-le label_most (s ++ replicate label_most 0)
    (omega (arith, length-append s (replicate label_most 0), length-replicate {A = ℕ} label_most 0))

-- ---- good labels

byte-good : (b : ℕ) → byte_ok b ≡ true → LabelByte b
unfolding byte_ok
byte-good b e =
    let l = both (leb 32 b) (leb b 126 && not (eqb b 34)) e in
    let h = both (leb b 126) (not (eqb b 34)) l.1 in
    record {
      low = leb-true 32 b l.0;
      high = leb-true b 126 h.0;
      no_quote =
          eqb-false b 34 (not-true (eqb b 34) h.1);
    }

good-byte : (b : ℕ) → LabelByte b → byte_ok b ≡ true
unfolding byte_ok
good-byte b g = rw (le-leb 32 b g.low, le-leb b 126 g.high, ne_eqb b 34 g.no_quote)

bytes_good : (s : List ℕ) → all_ok s ≡ true → Each LabelByte s
bytes_good [] e = none
bytes_good (b ∷ s) e = let h = both (byte_ok b) (all_ok s) e in more (byte-good b h.0) (bytes_good s h.1)

good-bytes : {s : List ℕ} → Each LabelByte s → all_ok s ≡ true
good-bytes none = refl
good-bytes (more {a = b} g gs) = rw (good-byte b g) (good-bytes gs)

pub ok_good : (s : List ℕ) → label_ok (label_of s) ≡ true → GoodLabel s
unfolding label_ok label_of
ok_good s e =
    let a = both (leb 1 (length s)) (leb (length s) label_most && all_ok (text (label_of s))) e in
    let b = both (leb (length s) label_most) (all_ok (text (label_of s))) a.1 in
    let h = leb-true (length s) label_most b.0 in
    record { some = leb-true 1 (length s) a.0; most = h; bytes = bytes_good s (ap all_ok (sym (text_of s h)) ∙ b.1) }

pub good_ok : (s : List ℕ) → GoodLabel s → label_ok (label_of s) ≡ true
unfolding label_ok label_of
good_ok s g = rw (le-leb 1 (length s) g.some, le-leb (length s) label_most g.most)
    (ap all_ok (text_of s g.most) ∙ good-bytes g.bytes)

-- ---- one label

module _ {s t : List ℕ} (a : GoodLabel s) (b : GoodLabel t) where
  -- labels that are one have one text
  pub same-texts : same_label (label_of s) (label_of t) ≡ true → s ≡ t
  same-texts e = sym (text_of s a.most) ∙ same_text (label_of s) (label_of t) e ∙ text_of t b.most

  pub one-text : label_of s ≡ label_of t → s ≡ t
  one-text e = sym (text_of s a.most) ∙ ap text e ∙ text_of t b.most

  -- two labels are not one
  pub other-label : (label_of s ≡ label_of t → ⊥) → same_label (label_of s) (label_of t) ≡ false
  other-label n = go (same_label (label_of s) (label_of t)) refl
    where
      go : (r : Bool) → same_label (label_of s) (label_of t) ≡ r → r ≡ false
      go true e = absurd (n (ap label_of (same-texts e)))
      go false e = refl

pub own-label : {s : List ℕ} → GoodLabel s → same_label (label_of s) (label_of s) ≡ true
unfolding label_of
own-label {s} g = text_same (label_of s) (label_of s) (room s) (room s) g.most g.most refl

-- a good label is not the one that says nothing
pub not_none : {s : List ℕ} → GoodLabel s → same_label no_label (label_of s) ≡ false
unfolding same_label label_of
not_none {s} g = rw (ne_eqb 0 (length s) (λ e. omega (arith, g.some)))
