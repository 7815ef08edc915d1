-- How long a listing is at most: every amount of an accepted herd (beside this page) and of an accepted farm's totals
-- is short, and so are their listings. Assumes nothing.
use Prim.Native.Nat.{ℕ, ◌+◌, ◌*◌, ◌≤◌}
use mathlib.Core.Path.{◌≡◌, refl}
use mathlib.Core.Bool.{Bool, true, false}
use mathlib.Core.List.{List, [], map}
use native.Mathlib.Nat.{min-le_left}
use native.Mathlib.Omega.{arith}
use borrow.Author.Tests.{ltb-true, ltb-false}
use lib.Dec.{leb, ltb, leb→le}
use lib.ListN.{length, get_or, length-append, length-take, length-map}
use lib.IntN.{ℤ, pos, nat_abs, ◌+ℤ◌}
use Rattle.base.specs.Each.{Each, none, more}
use Rattle.base.proofs.Each.{each_of, each_map}
use Rattle.base.proofs.Runs.{all_get_d}
use Rattle.cut_division.specs.Total.{add_up, signed_total}
use Rattle.cut_division.proofs.Signed.{abs_add}
use Rattle.kilogram_text.specs.Kilograms.{kilograms_of}
use Rattle.kilogram_text.proofs.Lengths.{kilograms-within}
use Rattle.kilogram_text.proofs.Signs.{sign-short}
use Rattle.inputs.specs.declared.Kind.{Kind}
use Rattle.kinds.specs.Sound.{Sound}
use Rattle.farm.specs.declared.Herd.{Herd}
use Rattle.farm.specs.declared.Farm.{Farm}
use Rattle.farm.specs.Limits.{herds_most}
use Rattle.farm.specs.Labels.{text}
use Rattle.farm.specs.Answers.{Accepted}
use Rattle.checks.specs.Checks.{check_herd, check_farm, herds_of}
use Rattle.checks.proofs.Accepts.{accepted-herd, farm-count, farm-each}
use Rattle.typed_inputs.specs.Typed.{typed_as, typed_of}
use Rattle.typed_inputs.proofs.Sound.{typed_sound}
use Rattle.outputs.specs.declared.Figures.{Figures}
use Rattle.outputs.specs.Names.{totals, addends}
use Rattle.outputs.specs.Grams.{grams_at, farm_total, totals_of, GramsTo}
use Rattle.outputs.proofs.ByNumber.{by-number-at, by-number-past}
use Rattle.herd.specs.Herd.{figures_of}
use Rattle.herd.proofs.Made.{made}
use Rattle.herd.proofs.Bounds.{most, made-to, figures-to}
use Rattle.model.specs.Answers.{herd_figures, farm_answer}
use Rattle.line_parts.specs.Bounds.{longest_label}
use Rattle.line_parts.specs.Fields.{each}
use Rattle.line_parts.proofs.Lengths.{label-short}
use Rattle.listing_room.specs.Bounds.{total_room, herd_room, totals_room}
use Rattle.listing.specs.Listing.{herd_lines, herd_listing, totals_listing}
use Rattle.listing_room.proofs.Lengths.{herd-short, TotalsShort, totals-short}
use Rattle.listing_room.proofs.Amounts.{amounts_short}
use Rattle.listing_room.proofs.Lacking.{lacking}

-- ---- a herd

kind_fits : (k : Kind) (h : Herd) → Sound (typed_as k h) → length (text h.label) ≤ longest_label
    → length (herd_lines (text h.label) k (figures_of (typed_as k h))) ≤ herd_room
unfolding figures_of
kind_fits k h s label =
    let l = lacking k h in
    herd-short (text h.label) k (figures_of (typed_as k h)) label l.lacks
    (amounts_short l.has-nothing (made-to (made s)))

pub herd-fits : (h : Herd) → check_herd h ≡ Accepted
    → length (herd_listing h.label h.kind (herd_figures h)) ≤ herd_room
unfolding typed_of
herd-fits h e = kind_fits h.kind h (typed_sound h e) (label-short h.label (accepted-herd h e).label)

-- ---- the totals

-- a sum of amounts that are at most k each
sum-most : {A : Type 0} (f : A → ℤ) (k : ℕ) (t : ℤ) {l : List A} → Each (λ a. nat_abs (f a) ≤ k) l
    → nat_abs (add_up ◌+ℤ◌ f t l) ≤ nat_abs t + k * length l
sum-most f k t none = omega arith
sum-most f k t (more {a} h hs) = let r = sum-most f k (t +ℤ f a) hs in omega (arith, abs_add t (f a))

-- a total has at most three addends
few : (t : ℕ) → length (get_or addends t []) ≤ 3
few t = leb→le _ _ (all_get_d (λ (l : List ℕ). leb (length l) 3) addends tt [] tt t)

module _ (l : List Figures) (room : length l ≤ herds_most) (to : Each (λ (f : Figures). GramsTo most f.grams) l) where
  figure-most : (n : ℕ) → nat_abs (signed_total (λ (f : Figures). grams_at f.grams n) l) ≤ most * herds_most
  figure-most n =
      omega (arith, sum-most (λ (f : Figures). grams_at f.grams n) most (pos 0) (each_map (λ f t. t.most n) to))

  total-most : (t : ℕ) → nat_abs (farm_total l t) ≤ most * herds_most * 3
  unfolding farm_total
  total-most t =
      let figures = each_of figure-most (get_or addends t []) in
      let sums = sum-most (λ n. signed_total (λ (f : Figures). grams_at f.grams n) l) (most * herds_most) (pos 0)
      figures in
      omega (arith, few t, sums)

  totals-most : (n : ℕ) → nat_abs (grams_at (totals_of l).grams n) ≤ most * herds_most * 3
  unfolding totals_of
  totals-most n = go (ltb n (length totals)) refl
    where
      go : (t : Bool) → ltb n (length totals) ≡ t → nat_abs (grams_at (totals_of l).grams n) ≤ most * herds_most * 3
      go true e = rw (by-number-at (farm_total l) (length totals) n (ltb-true n (length totals) e)) (total-most n)
      go false e = rw (by-number-past (farm_total l) (length totals) n (ltb-false n (length totals) e)) (omega arith)

  totals_amounts : TotalsShort (totals_of l).grams
  totals_amounts = record { amount = λ n. short n }
    where
      short : (n : ℕ) → length (kilograms_of (grams_at (totals_of l).grams n)) ≤ total_room
      short n =
          let z = grams_at (totals_of l).grams n in
          omega (arith, kilograms-within 9 z (omega (arith, totals-most n)), sign-short z)

herds-most : {l : List Herd} → Each (λ h. check_herd h ≡ Accepted) l
    → Each (λ (f : Figures). GramsTo most f.grams) (map herd_figures l)
herds-most none = none
herds-most (more {a} p ps) = more (figures-to (typed_of a) (typed_sound a p)) (herds-most ps)

-- a farm has no more herds than it counts
pub herds-counted : (f : Farm) → length (herds_of f) ≤ f.count
herds-counted f = omega (arith, length-take f.count f.herds, min-le_left f.count (length f.herds))

pub totals-fit : (f : Farm) → check_farm f ≡ Accepted → length (totals_listing (farm_answer f).totals) ≤ totals_room
unfolding farm_answer
totals-fit f e =
    let l = map herd_figures (herds_of f) in
    let few : length l ≤ herds_most =
    omega (arith, length-map (herds_of f) herd_figures, herds-counted f, farm-count f e) in
    rw e (totals-short _ (totals_amounts l few (herds-most (farm-each f e))))

-- ---- a farm

-- as many entries as fit the room, each of which fits its own
pub all_fit : {A : Type 0} (f : A → List ℕ) (k : ℕ) {l : List A} → Each (λ a. length (f a) ≤ k) l
    → length (each f l) ≤ k * length l
all_fit f k none = omega arith
all_fit f k (more {a} {l} h hs) = let r = all_fit f k hs in omega (arith, length-append (f a) (each f l))
