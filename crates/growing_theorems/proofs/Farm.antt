-- 02, W14, of farms: where one herd is replaced by one with more, no NH3 total is smaller. One law over the addends of
-- a total, each of which is an NH3 figure. Assumes nothing.
use Prim.Native.Nat.{ℕ}
use Prim.Native.String.{String}
use mathlib.Core.Path.{◌≡◌, refl}
use mathlib.Core.Bool.{Bool, true, false, ◌&&◌, ◌||◌}
use mathlib.Core.List.{List, [], ◌∷◌, map}
use lib.Dec.{T, eqb, ltb, ltb→lt}
use lib.ListN.{length, get_or}
use lib.IntN.{ℤ, pos, ◌+ℤ◌}
use lib.Signed.{◌≤ℤ◌, ≤ℤ_refl}
use borrow.Author.Tests.{eqb-true}
use Rattle.base.specs.Each.{Each, none, more}
use Rattle.base.specs.Runs.{all}
use Rattle.base.proofs.Each.{each_of, each-passed}
use Rattle.base.proofs.Table.{both_left, both_right}
use Rattle.cut_division.specs.Total.{add_up, signed_total}
use Rattle.cut_division.proofs.Ordered.{plus_le, sum-le}
use Rattle.farm.specs.declared.Herd.{Herd}
use Rattle.farm.specs.Answers.{Accepted}
use Rattle.checks.specs.Checks.{check_herd}
use Rattle.outputs.specs.declared.Figures.{Figures}
use Rattle.outputs.specs.Names.{number, totals, total_number, addends}
use Rattle.outputs.specs.Grams.{grams_at, figure, total, farm_total, totals_of}
use Rattle.outputs.proofs.ByNumber.{by-number-at}
use Rattle.model.specs.Answers.{herd_figures}
use Rattle.growing_theorems.specs.Growing.{Grows, OneHasMore, this, later, ammonia, ammonia_totals, NoLessInTotal}
use Rattle.growing_theorems.proofs.Herd.{more-no-less}

-- ---- by number

-- the number of one of these names
abbrev one_of : List String → ℕ → Bool
one_of [] n = false
one_of (t ∷ ts) n = eqb n (number t) || one_of ts n

module _ (f g : Figures) where
  abbrev NoLessAt : ℕ → Type 0
  NoLessAt n = grams_at f.grams n ≤ℤ grams_at g.grams n

  at-number : {ts : List String} (n : ℕ) → Each (λ t. figure t f ≤ℤ figure t g) ts → T (one_of ts n) → NoLessAt n
  at-number n none known = absurd known
  at-number n (more {a = t} {l = ts} p ps) known = go (eqb n (number t)) refl (λ k. at-number n ps k) known
    where
      go : (b : Bool) → eqb n (number t) ≡ b → (T (one_of ts n) → NoLessAt n) → T (b || one_of ts n) → NoLessAt n
      go true e rest k = rw (eqb-true n (number t) e) p
      go false e rest k = rest k

-- ---- a figure of that number, summed over the herds

module _ {name : String} (grows : Grows name) (n : ℕ) (known : T (one_of ammonia n)) where
  abbrev grams : Figures → ℤ
  grams f = grams_at f.grams n

  herds-from : {hs gs : List Herd} → OneHasMore name hs gs → Each (λ h. check_herd h ≡ Accepted) hs → (s t : ℤ) → s ≤ℤ t
      → add_up ◌+ℤ◌ grams s (map herd_figures hs) ≤ℤ add_up ◌+ℤ◌ grams t (map herd_figures gs)
  herds-from (this {h} {g} {hs} m) (more a rest) s t le =
      sum-le grams grams (s +ℤ grams (herd_figures h)) (t +ℤ grams (herd_figures g))
      (plus_le s t (grams (herd_figures h)) (grams (herd_figures g)) le
      (at-number (herd_figures h) (herd_figures g) n (more-no-less grows h g a m) known))
      (each_of (λ f. ≤ℤ_refl (grams f)) (map herd_figures hs))
  herds-from (later {h} o) (more a rest) s t le =
      herds-from o rest (s +ℤ grams (herd_figures h)) (t +ℤ grams (herd_figures h))
      (plus_le s t (grams (herd_figures h)) (grams (herd_figures h)) le (≤ℤ_refl (grams (herd_figures h))))

-- ---- the totals

-- a total, and each of its addends an NH3 figure
abbrev is_sum : String → Bool
is_sum t = ltb (total_number t) (length totals) && all (one_of ammonia) (get_or addends (total_number t) [])

module _ {name : String} (grows : Grows name) {hs gs : List Herd} (o : OneHasMore name hs gs)
    (accepted : Each (λ h. check_herd h ≡ Accepted) hs) where
  abbrev sum : List Herd → ℕ → ℤ
  sum l n = signed_total (λ (f : Figures). grams_at f.grams n) (map herd_figures l)

  one-total : (t : String) → T (is_sum t)
      → total t (totals_of (map herd_figures hs)) ≤ℤ total t (totals_of (map herd_figures gs))
  unfolding totals_of farm_total
  one-total t k =
      let inside = ltb (total_number t) (length totals) in
      let ns = get_or addends (total_number t) [] in
      let at_place = ltb→lt (total_number t) (length totals) (both_left inside (all (one_of ammonia) ns) k) in
      rw (
        by-number-at (farm_total (map herd_figures hs)) (length totals) (total_number t) at_place,
        by-number-at (farm_total (map herd_figures gs)) (length totals) (total_number t) at_place,
      )
      (sum-le (sum hs) (sum gs) (pos 0) (pos 0) (≤ℤ_refl (pos 0))
      (each-passed (one_of ammonia)
      (λ n known. herds-from grows n known o accepted (pos 0) (pos 0) (≤ℤ_refl (pos 0))) ns
      (both_right inside (all (one_of ammonia) ns) k)))

  pub totals-no-less : NoLessInTotal (totals_of (map herd_figures hs)) (totals_of (map herd_figures gs))
  totals-no-less = each-passed is_sum one-total ammonia_totals tt
