-- A herd by its label is the herd at the label's place: which one it is, and the herds with another in its place or
-- without it. Assumes nothing.
use Prim.Native.Nat.{suc, ◌<◌}
use mathlib.Core.Path.{◌≡◌, refl, ap}
use mathlib.Core.Bool.{Bool, true, false, ◌||◌}
use mathlib.Core.List.{List, [], ◌∷◌}
use native.Mathlib.Numerals.{add-one}
use native.Mathlib.Omega.{arith}
use lib.ListN.{length, get_or, set}
use Rattle.base.specs.Pick.{pick}
use Rattle.base.proofs.Clash.{clash}
use Rattle.farm.specs.declared.Label.{Label}
use Rattle.farm.specs.declared.Herd.{Herd}
use Rattle.farm.specs.Labels.{same_label}
use Rattle.herd_tests.specs.Tests.{earlier_label}
use Rattle.books.specs.Steps.{replaced, removed, named}
use Rattle.book_herds.specs.Places.{place_of, without}

pub place_inside : (hs : List Herd) (l : Label) → earlier_label hs l ≡ true → place_of hs l < length hs
unfolding earlier_label place_of
place_inside [] l e = clash cc
place_inside (x ∷ xs) l e = go (same_label x.label l) e (place_inside xs l)
  where
    go : (t : Bool) → (t || earlier_label xs l) ≡ true → (earlier_label xs l ≡ true → place_of xs l < length xs)
        → pick t 0 (suc (place_of xs l)) < suc (length xs)
    go true e more = omega arith
    go false e more = omega (arith, more e)

pub named-at : (hs : List Herd) (l : Label) → earlier_label hs l ≡ true → (d : Herd)
    → get_or hs (place_of hs l) d ∷ [] ≡ named l hs
unfolding earlier_label place_of named
named-at [] l e d = clash cc
named-at (x ∷ xs) l e d = go (same_label x.label l) e (λ q. named-at xs l q d)
  where
    go : (t : Bool) → (t || earlier_label xs l) ≡ true
        → (earlier_label xs l ≡ true → get_or xs (place_of xs l) d ∷ [] ≡ named l xs)
        → get_or (x ∷ xs) (pick t 0 (suc (place_of xs l))) d ∷ [] ≡ pick t (x ∷ []) (named l xs)
    go true e more = refl
    go false e more = more e

pub replaced-at : (hs : List Herd) (h : Herd) → earlier_label hs h.label ≡ true
    → set hs (place_of hs h.label) h ≡ replaced h hs
unfolding earlier_label place_of replaced
replaced-at [] h e = clash cc
replaced-at (x ∷ xs) h e = go (same_label x.label h.label) e (replaced-at xs h)
  where
    go : (t : Bool) → (t || earlier_label xs h.label) ≡ true
        → (earlier_label xs h.label ≡ true → set xs (place_of xs h.label) h ≡ replaced h xs)
        → set (x ∷ xs) (pick t 0 (suc (place_of xs h.label))) h ≡ pick t (h ∷ xs) (x ∷ replaced h xs)
    go true e more = refl
    go false e more = ap (λ (l : List Herd). x ∷ l) (more e)

pub removed-at : (hs : List Herd) (l : Label) → earlier_label hs l ≡ true → without (place_of hs l) hs ≡ removed l hs
unfolding earlier_label place_of removed
removed-at [] l e = clash cc
removed-at (x ∷ xs) l e = go (same_label x.label l) e (removed-at xs l)
  where
    go : (t : Bool) → (t || earlier_label xs l) ≡ true
        → (earlier_label xs l ≡ true → without (place_of xs l) xs ≡ removed l xs)
        → without (pick t 0 (suc (place_of xs l))) (x ∷ xs) ≡ pick t xs (x ∷ removed l xs)
    go true e more = refl
    go false e more =
        let q : without (place_of xs l) xs ≡ removed l xs = more e in
        rw add-one (ap (λ (l : List Herd). x ∷ l) (rw add-one at q))
