-- The steps of the edits, each in the form that a place of the code wants. Assumes nothing.
use Prim.Native.Nat.{ℕ, suc, ◌+◌, ◌-◌, ◌≤◌, ◌<◌}
use mathlib.Core.Path.{◌≡◌, refl, ap, ◌∙◌}
use mathlib.Core.Bool.{Bool, true, false}
use mathlib.Core.List.{List, [], ◌∷◌, ◌++◌, append_assoc, append-nil}
use native.Mathlib.Omega.{arith}
use lib.ListN.{length, get_or, take, drop, set, length-take, length-append, length-drop, length-set}
use lib.Seq.{take-set-lt, drop-set-lt, take-take}
use Rattle.base.specs.Pick.{pick}
use Rattle.farm.specs.Limits.{herds_most}
use Rattle.farm.specs.declared.Label.{Label}
use Rattle.farm.specs.declared.Herd.{Herd}
use Rattle.farm.specs.declared.Farm.{Farm}
use Rattle.farm.specs.Labels.{same_label}
use Rattle.farm.proofs.Left.{taken_at, taken-end, taken-stored}
use Rattle.checks.specs.Checks.{herds_of}
use Rattle.book_herds.specs.Places.{place_of, without, HerdsAre}

-- ---- the place of a label: the first i herds have another one

pub record Looking (f : Farm) (l : Label) (i : ℕ) : Type 0 where
  pub within : i ≤ f.count
  pub left : i + place_of (drop i (herds_of f)) l ≡ place_of (herds_of f) l

pub looking_starts : (f : Farm) (l : Label) → Looking f l 0
looking_starts f l = record { within = omega arith; left = omega arith }

module _ (f : Farm) (l : Label) (i : ℕ) (inv : Looking f l i) where
  module _ (long : length f.herds ≡ herds_most) (room : f.count ≤ herds_most) (b : i < f.count) (d : Herd)
      (r : Bool) (e : r ≡ same_label (get_or f.herds i d).label l) where
    next : i + pick r 0 (suc (place_of (drop (i + 1) (herds_of f)) l)) ≡ place_of (herds_of f) l
    unfolding place_of
    next = let j : i < length f.herds = omega arith in
        rw e (rw (taken_at f.count f.herds i d b j) at inv.left)

    pub label-here : r ≡ true → i ≡ place_of (herds_of f) l
    label-here t = let p : i + 0 ≡ place_of (herds_of f) l = (rw t at next) in omega arith

    pub label-later : r ≡ false → Looking f l (i + 1)
    label-later t =
        let p : i + suc (place_of (drop (i + 1) (herds_of f)) l) ≡ place_of (herds_of f) l = (rw t at next) in
        record { within = omega arith; left = omega arith }

  pub label-nowhere : f.count ≤ i → f.count ≡ place_of (herds_of f) l
  unfolding place_of
  label-nowhere b =
      let p : i + 0 ≡ place_of (herds_of f) l = (rw (taken-end f.count f.herds i b) at inv.left) in
      omega (arith, inv.within)

pub ruleset place_steps = (looking_starts, label-here, label-later, label-nowhere)

-- ---- a herd more, and another in its place

module _ (f : Farm) (h : Herd) (long : length f.herds ≡ herds_most) where
  pub herd-added : f.count < herds_most
      → HerdsAre (herds_of f ++ (h ∷ [])) (record { herds = set f.herds f.count h; count = f.count + 1 })
  herd-added k =
      let j : f.count < length f.herds = omega arith in
      record {
        herds = taken-stored f.herds f.count h j;
        count = omega (arith, length-take f.count f.herds, length-append (herds_of f) (h ∷ []));
      }

  pub herd-replaced : (place : ℕ) → place < f.count → f.count ≤ herds_most
      → HerdsAre (set (herds_of f) place h) (record { herds = set f.herds place h; count = f.count })
  herd-replaced place b k =
      record {
        herds = take-set-lt f.count f.herds place h b;
        count = omega (arith, length-take f.count f.herds, length-set (herds_of f) place h);
      }

pub ruleset edit_steps = (herd-added, herd-replaced)

-- ---- those behind a place move up, in an array whose last herd stands at `last`: those before i are where they belong

-- the herds but for the one at i
abbrev pub all_but : ℕ → ℕ → List Herd → List Herd
all_but last i hs = without i (take (last + 1) hs)

pub record Closing (last place : ℕ) (old hs : List Herd) (i : ℕ) : Type 0 where
  pub room : last < herds_most
  pub within : i ≤ last
  pub long : length hs ≡ herds_most
  pub left : all_but last i hs ≡ all_but last place old

pub closing-starts : (last i : ℕ) (hs : List Herd) → last < herds_most → i ≤ last → length hs ≡ herds_most
    → Closing last i hs hs i
closing-starts last i hs room within long = record { room = room; within = within; long = long; left = refl }

module _ (last place : ℕ) (old hs : List Herd) (i : ℕ) (inv : Closing last place old hs i) where
  -- the herds before a place are among the first
  front : (j : ℕ) → j ≤ last + 1 → (l : List Herd) → take j (take (last + 1) l) ≡ take j l
  front j k l = take-take j (last + 1) l k

  pub closing-next : i < last → (d : Herd) → Closing last place old (set hs i (get_or hs (i + 1) d)) (i + 1)
  closing-next b d =
      let x = get_or hs (i + 1) d in
      let j : i < length hs = omega (arith, inv.long, inv.room) in
      let m : i + 1 < length hs = omega (arith, inv.long, inv.room) in
      let before : take (i + 1) (take (last + 1) (set hs i x)) ≡ take i hs ++ (x ∷ []) =
      front (i + 1) (omega arith) (set hs i x) ∙ taken-stored hs i x j in
      let behind : drop (i + 1 + 1) (take (last + 1) (set hs i x)) ≡ drop (i + 1 + 1) (take (last + 1) hs) =
      ap (drop (i + 1 + 1)) (take-set-lt (last + 1) hs i x (omega arith))
      ∙ drop-set-lt (i + 1 + 1) (take (last + 1) hs) i x (omega arith) in
      let was : take i hs ++ (x ∷ drop (i + 1 + 1) (take (last + 1) hs)) ≡ all_but last place old =
      rw (front i (omega arith) hs, taken_at (last + 1) hs (i + 1) d (omega arith) m) at inv.left in
      record {
        room = inv.room;
        within = omega arith;
        long = rw length-set inv.long;
        left = rw (before, behind, append_assoc) was;
      }

  pub closing-ends : last ≤ i → take last hs ≡ all_but last place old
  closing-ends b =
      let e : last ≡ i = omega (arith, inv.within) in
      let p : take i hs ≡ all_but last place old =
      rw (front i (omega (arith, inv.within)) hs, taken-end (last + 1) hs (i + 1) (omega arith), append-nil)
      at inv.left in
      ap (λ (n : ℕ). take n hs) e ∙ p

-- the farm of the herds that are left
module _ (f : Farm) (long : length f.herds ≡ herds_most) (room : f.count ≤ herds_most) (place : ℕ)
    (b : place < f.count) where
  pub herd-removed : (hs : List Herd) (i : ℕ) → Closing (f.count - 1) place f.herds hs i → f.count - 1 ≤ i
      → HerdsAre (without place (herds_of f)) (record { herds = hs; count = f.count - 1 })
  herd-removed hs i inv h =
      let e : f.count - 1 + 1 ≡ f.count = omega arith in
      record {
        herds = rw e at (closing-ends (f.count - 1) place f.herds hs i inv h);
        count =
            omega (
              arith,
              length-append (take place (herds_of f)) (drop (place + 1) (herds_of f)),
              length-take place (herds_of f),
              length-drop (place + 1) (herds_of f),
              length-take f.count f.herds,
            );
      }

pub ruleset removal_steps = (closing-starts, closing-next, herd-removed)
