-- The herd that a step names, by its place among the herds: what stands before and behind it in the herds with another
-- in its place, and in those without it. Assumes nothing.
use Prim.Native.Nat.{ℕ, zero, suc, ◌<◌, ◌≤◌}
use mathlib.Core.Path.{◌≡◌, refl, ap}
use mathlib.Core.Bool.{Bool, true, false, ◌||◌}
use mathlib.Core.List.{List, [], ◌∷◌}
use native.Mathlib.Omega.{arith}
use lib.ListN.{length}
use Rattle.base.proofs.Clash.{clash}
use Rattle.farm.specs.declared.Label.{Label}
use Rattle.farm.specs.declared.Herd.{Herd}
use Rattle.farm.specs.Labels.{same_label}
use Rattle.herd_tests.specs.Tests.{earlier_label}
use Rattle.books.specs.Steps.{replaced, removed, named}
use Rattle.step_theorems.specs.Places.{entry}

-- the first herd of a label
pub record Stands (l : Label) (hs : List Herd) (place : ℕ) : Type 0 where
  pub inside : place < length hs
  pub same : same_label (entry hs place).label l ≡ true
  pub alone : named l hs ≡ entry hs place ∷ []

pub record Replaced (h : Herd) (hs : List Herd) : Type 0 where
  pub place : ℕ
  pub stands : Stands h.label hs place
  pub here : entry (replaced h hs) place ≡ h
  pub others : (i : ℕ) → (i ≡ place → ⊥) → entry (replaced h hs) i ≡ entry hs i

pub record Removed (l : Label) (hs : List Herd) : Type 0 where
  pub place : ℕ
  pub stands : Stands l hs place
  pub before : (i : ℕ) → i < place → entry (removed l hs) i ≡ entry hs i
  pub behind : (i : ℕ) → place ≤ i → entry (removed l hs) i ≡ entry hs (suc i)

stands-first : {l : Label} {x : Herd} {xs : List Herd} → same_label x.label l ≡ true → Stands l (x ∷ xs) 0
unfolding named
stands-first e = record { inside = omega arith; same = e; alone = rw e }

stands-further : {l : Label} {x : Herd} {xs : List Herd} {p : ℕ} → same_label x.label l ≡ false → Stands l xs p
    → Stands l (x ∷ xs) (suc p)
unfolding named
stands-further e s = record { inside = omega (arith, s.inside); same = s.same; alone = rw e s.alone }

pub replaced-at : (h : Herd) (hs : List Herd) → earlier_label hs h.label ≡ true → Replaced h hs
unfolding replaced earlier_label
replaced-at h [] e = clash cc
replaced-at h (x ∷ xs) e = go (same_label x.label h.label) refl e (replaced-at h xs)
  where
    first : (i : ℕ) → (i ≡ 0 → ⊥) → entry (h ∷ xs) i ≡ entry (x ∷ xs) i
    first zero n = absurd (n refl)
    first (suc i) n = refl

    next : (r : Replaced h xs) (i : ℕ) → (i ≡ suc r.place → ⊥) → entry (x ∷ replaced h xs) i ≡ entry (x ∷ xs) i
    next r zero n = refl
    next r (suc i) n = r.others i (λ q. n (ap suc q))

    go : (t : Bool) → same_label x.label h.label ≡ t → (t || earlier_label xs h.label) ≡ true
        → (earlier_label xs h.label ≡ true → Replaced h xs) → Replaced h (x ∷ xs)
    go true q b rest =
        record { place = 0; stands = stands-first q; here = rw q; others = λ i n. rw q (first i n) }
    go false q b rest =
        let r = rest b in
        record {
          place = suc r.place;
          stands = stands-further q r.stands;
          here = rw q r.here;
          others = λ i n. rw q (next r i n);
        }

pub removed-at : (l : Label) (hs : List Herd) → earlier_label hs l ≡ true → Removed l hs
unfolding removed earlier_label
removed-at l [] e = clash cc
removed-at l (x ∷ xs) e = go (same_label x.label l) refl e (removed-at l xs)
  where
    before : (r : Removed l xs) (i : ℕ) → i < suc r.place → entry (x ∷ removed l xs) i ≡ entry (x ∷ xs) i
    before r zero b = refl
    before r (suc i) b = r.before i (omega arith)

    behind : (r : Removed l xs) (i : ℕ) → suc r.place ≤ i → entry (x ∷ removed l xs) i ≡ entry (x ∷ xs) (suc i)
    behind r zero b = absurd (omega arith)
    behind r (suc i) b = r.behind i (omega arith)

    go : (t : Bool) → same_label x.label l ≡ t → (t || earlier_label xs l) ≡ true
        → (earlier_label xs l ≡ true → Removed l xs) → Removed l (x ∷ xs)
    go true q b rest =
        record {
          place = 0;
          stands = stands-first q;
          before = λ i n. absurd (omega arith);
          behind = λ i n. rw q;
        }
    go false q b rest =
        let r = rest b in
        record {
          place = suc r.place;
          stands = stands-further q r.stands;
          before = λ i n. rw q (before r i n);
          behind = λ i n. rw q (behind r i n);
        }
