-- A farm's herds after a step: how many there are, that each is still a good one, and that no two have one label.
-- Assumes nothing.
use Prim.Native.Nat.{suc}
use mathlib.Core.Path.{◌≡◌, refl, ap, ◌∙◌}
use mathlib.Core.Bool.{Bool, true, false, ◌&&◌, ◌||◌}
use mathlib.Core.List.{List, [], ◌∷◌, ◌++◌}
use lib.Dec.{eqb, leb}
use lib.ListN.{length}
use borrow.Author.Tests.{eqb-true}
use Rattle.base.specs.Pick.{pick}
use Rattle.base.specs.Part.{same_bytes}
use Rattle.base.specs.Each.{Each, none, more}
use Rattle.base.proofs.Clash.{clash}
use Rattle.base.proofs.Each.{each_map}
use Rattle.base.proofs.Holds.{both_true, same-eq}
use Rattle.farm.specs.declared.Label.{Label}
use Rattle.farm.specs.declared.Herd.{Herd}
use Rattle.farm.specs.Limits.{label_most}
use Rattle.farm.specs.Labels.{text, same_label}
use Rattle.herd_tests.specs.Tests.{earlier_label}
use Rattle.checks.specs.Accepts.{Distinct}
use Rattle.checks.proofs.Tests.{neither}
use Rattle.books.specs.Steps.{replaced, removed}

-- ---- labels

-- labels that are one are one label to any third
same-to : (a b c : Label) → same_label a b ≡ true → same_label b c ≡ same_label a c
unfolding same_label
same-to a b c e =
    let p = both_true (eqb a.len b.len) (leb a.len label_most && same_bytes (text a) (text b)) e in
    let q = both_true (leb a.len label_most) (same_bytes (text a) (text b)) p.1 in
    let n : a.len ≡ b.len = eqb-true a.len b.len p.0 in
    let t : text a ≡ text b = same-eq (text a) (text b) q.1 in
    cc

-- ---- what holds of each

module _ {P : Herd → Type 0} where
  pub each-added : {hs : List Herd} {h : Herd} → Each P hs → P h → Each P (hs ++ (h ∷ []))
  each-added none p = more p none
  each-added (more q qs) p = more q (each-added qs p)

  pub each-replaced : (h : Herd) {hs : List Herd} → P h → Each P hs → Each P (replaced h hs)
  unfolding replaced
  each-replaced h p none = none
  each-replaced h p (more {a = x} {l = xs} q qs) =
      go (same_label x.label h.label) (each-replaced h p qs)
    where
      go : (t : Bool) → Each P (replaced h xs) → Each P (pick t (h ∷ xs) (x ∷ replaced h xs))
      go true r = more p qs
      go false r = more q r

  pub each-removed : (l : Label) {hs : List Herd} → Each P hs → Each P (removed l hs)
  unfolding removed
  each-removed l none = none
  each-removed l (more {a = x} {l = xs} q qs) = go (same_label x.label l) (each-removed l qs)
    where
      go : (t : Bool) → Each P (removed l xs) → Each P (pick t xs (x ∷ removed l xs))
      go true r = qs
      go false r = more q r

-- ---- no two have one label

pub distinct-added : {hs : List Herd} (h : Herd) → Distinct hs → earlier_label hs h.label ≡ false
    → Distinct (hs ++ (h ∷ []))
unfolding earlier_label
distinct-added h Distinct.none e = Distinct.next none Distinct.none
distinct-added h (Distinct.next {h = x} {hs = xs} n d) e =
    let p = neither (same_label x.label h.label) (earlier_label xs h.label) e in
    Distinct.next (each-added n p.0) (distinct-added h d p.1)

pub distinct-replaced : (h : Herd) {hs : List Herd} → Distinct hs → Distinct (replaced h hs)
unfolding replaced
distinct-replaced h Distinct.none = Distinct.none
distinct-replaced h (Distinct.next {h = x} {hs = xs} n d) =
    go (same_label x.label h.label) refl (distinct-replaced h d)
  where
    go : (t : Bool) → same_label x.label h.label ≡ t → Distinct (replaced h xs)
        → Distinct (pick t (h ∷ xs) (x ∷ replaced h xs))
    go true e r = Distinct.next (each_map (λ later q. same-to x.label h.label later.label e ∙ q) n) d
    go false e r = Distinct.next (each-replaced h e n) r

pub distinct-removed : (l : Label) {hs : List Herd} → Distinct hs → Distinct (removed l hs)
unfolding removed
distinct-removed l Distinct.none = Distinct.none
distinct-removed l (Distinct.next {h = x} {hs = xs} n d) = go (same_label x.label l) (distinct-removed l d)
  where
    go : (t : Bool) → Distinct (removed l xs) → Distinct (pick t xs (x ∷ removed l xs))
    go true r = d
    go false r = Distinct.next (each-removed l n) r

-- ---- how many

pub length-replaced : (h : Herd) (hs : List Herd) → length (replaced h hs) ≡ length hs
unfolding replaced
length-replaced h [] = refl
length-replaced h (x ∷ xs) = go (same_label x.label h.label) (length-replaced h xs)
  where
    go : (t : Bool) → length (replaced h xs) ≡ length xs
        → length (pick t (h ∷ xs) (x ∷ replaced h xs)) ≡ suc (length xs)
    go true e = refl
    go false e = ap suc e

pub length_removed : (l : Label) (hs : List Herd) → earlier_label hs l ≡ true → suc (length (removed l hs)) ≡ length hs
unfolding removed earlier_label
length_removed l [] e = clash cc
length_removed l (x ∷ xs) e = go (same_label x.label l) refl e (length_removed l xs)
  where
    go : (t : Bool) → same_label x.label l ≡ t → (t || earlier_label xs l) ≡ true
        → (earlier_label xs l ≡ true → suc (length (removed l xs)) ≡ length xs)
        → suc (length (pick t xs (x ∷ removed l xs))) ≡ suc (length xs)
    go true q h rest = refl
    go false q h rest = ap suc (rest h)
