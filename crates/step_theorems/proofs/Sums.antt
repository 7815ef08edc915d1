-- The totals of a farm's herds after a step: those before it, less those of the herd that it takes away and more by
-- those of the herd that it brings. Assumes nothing.
use Prim.Native.Nat.{ℕ, ◌<◌}
use mathlib.Core.Path.{◌≡◌, refl, sym, ap, ◌∙◌}
use mathlib.Core.Bool.{Bool, true, false, ◌||◌}
use mathlib.Core.List.{List, [], ◌∷◌, ◌++◌, map}
use lib.ListN.{length, get_or}
use lib.IntN.{ℤ, pos, neg_ℤ, ◌+ℤ◌, ◌-ℤ◌, +ℤ_assoc, +ℤ_comm, +ℤ_idl, +ℤ_idr, +ℤ-neg_ℤ_cancel}
use Rattle.base.specs.Pick.{pick}
use Rattle.base.proofs.Clash.{clash}
use Rattle.cut_division.specs.Total.{signed_total}
use Rattle.cut_division.proofs.Totals.{add_up-map, signed_total_cons, signed_total-swap}
use Rattle.farm.specs.declared.Label.{Label}
use Rattle.farm.specs.declared.Herd.{Herd}
use Rattle.farm.specs.Labels.{same_label}
use Rattle.herd_tests.specs.Tests.{earlier_label}
use Rattle.outputs.specs.declared.Figures.{Figures}
use Rattle.outputs.specs.declared.Totals.{Totals}
use Rattle.outputs.specs.Names.{totals, addends}
use Rattle.outputs.specs.Grams.{grams_at, total_at, farm_total, totals_of}
use Rattle.outputs.proofs.ByNumber.{by-number-at, by-number-same}
use Rattle.model.specs.Answers.{herd_figures}
use Rattle.books.specs.declared.Step.{Step}
use Rattle.books.specs.declared.Step.TheVariants.{Add, Replace, Remove}
use Rattle.books.specs.Steps.{replaced, removed, herds_after, named, brings, takes, total_of, moved, totals_after}
use Rattle.step_theorems.specs.Refusals.{NamesOne}
use Rattle.step_theorems.specs.Moves.{own}

-- ---- sums of signed numbers

slide : (o t n h : ℤ) → o +ℤ ((t -ℤ n) +ℤ h) ≡ ((o +ℤ t) -ℤ n) +ℤ h
slide o t n h = sym (ap (λ (z : ℤ). z +ℤ h) (+ℤ_assoc o t (neg_ℤ n)) ∙ +ℤ_assoc o (t -ℤ n) h)

pub taken-off : (o t : ℤ) → (o +ℤ t) -ℤ o ≡ t
taken-off o t = ap (λ (z : ℤ). z -ℤ o) (+ℤ_comm o t) ∙ +ℤ-neg_ℤ_cancel t o

-- ---- a total of the herds, herd by herd

module _ (n : ℕ) where
  by-herd : (hs : List Herd) → total_of hs n ≡ signed_total (own n) hs
  unfolding farm_total total_at
  by-herd hs =
      sym (signed_total-swap (λ (f : Figures) (i : ℕ). grams_at f.grams i) (map herd_figures hs) (get_or addends n []))
      ∙ add_up-map ◌+ℤ◌ (λ (f : Figures). total_at f.grams n) herd_figures (pos 0) hs

  pub total-none : total_of [] n ≡ pos 0
  total-none = by-herd []

  pub total_cons : (x : Herd) (hs : List Herd) → total_of (x ∷ hs) n ≡ own n x +ℤ total_of hs n
  total_cons x hs =
      by-herd (x ∷ hs) ∙ signed_total_cons (own n) x hs ∙ ap (λ (z : ℤ). own n x +ℤ z) (sym (by-herd hs))

  pub total-one : (x : Herd) → total_of (x ∷ []) n ≡ own n x
  total-one x = total_cons x [] ∙ ap (λ (z : ℤ). own n x +ℤ z) total-none ∙ +ℤ_idr (own n x)

  -- ---- step by step

  added : (h : Herd) (hs : List Herd)
      → total_of (hs ++ (h ∷ [])) n ≡ (total_of hs n -ℤ total_of [] n) +ℤ total_of (h ∷ []) n
  added h [] =
      let z = total-none in
      rw (total-one h, z) (sym (+ℤ_idl (own n h)))
  added h (x ∷ hs) =
      total_cons x (hs ++ (h ∷ [])) ∙ ap (λ (z : ℤ). own n x +ℤ z) (added h hs)
      ∙ slide (own n x) (total_of hs n) (total_of [] n) (total_of (h ∷ []) n)
      ∙ ap (λ (z : ℤ). (z -ℤ total_of [] n) +ℤ total_of (h ∷ []) n) (sym (total_cons x hs))

  was-replaced : (h : Herd) (hs : List Herd) → earlier_label hs h.label ≡ true
      → total_of (replaced h hs) n ≡ (total_of hs n -ℤ total_of (named h.label hs) n) +ℤ total_of (h ∷ []) n
  unfolding replaced named earlier_label
  was-replaced h [] e = clash cc
  was-replaced h (x ∷ xs) e = go (same_label x.label h.label) e (was-replaced h xs)
    where
      go : (t : Bool) → (t || earlier_label xs h.label) ≡ true
          → (earlier_label xs h.label ≡ true
          → total_of (replaced h xs) n ≡ (total_of xs n -ℤ total_of (named h.label xs) n) +ℤ total_of (h ∷ []) n)
          → total_of (pick t (h ∷ xs) (x ∷ replaced h xs)) n
          ≡ (total_of (x ∷ xs) n -ℤ total_of (pick t (x ∷ []) (named h.label xs)) n) +ℤ total_of (h ∷ []) n
      go true q rest =
          total_cons h xs ∙ +ℤ_comm (own n h) (total_of xs n)
          ∙ ap (λ (z : ℤ). z +ℤ own n h) (sym (taken-off (own n x) (total_of xs n)))
          ∙ ap (λ (z : ℤ). (z -ℤ own n x) +ℤ own n h) (sym (total_cons x xs))
          ∙ ap (λ (z : ℤ). (total_of (x ∷ xs) n -ℤ z) +ℤ own n h) (sym (total-one x))
          ∙ ap (λ (z : ℤ). (total_of (x ∷ xs) n -ℤ total_of (x ∷ []) n) +ℤ z) (sym (total-one h))
      go false q rest =
          let gone = total_of (named h.label xs) n in
          let come = total_of (h ∷ []) n in
          total_cons x (replaced h xs) ∙ ap (λ (z : ℤ). own n x +ℤ z) (rest q)
          ∙ slide (own n x) (total_of xs n) gone come
          ∙ ap (λ (z : ℤ). (z -ℤ gone) +ℤ come) (sym (total_cons x xs))

  was-removed : (l : Label) (hs : List Herd)
      → total_of (removed l hs) n ≡ (total_of hs n -ℤ total_of (named l hs) n) +ℤ total_of [] n
  unfolding removed named
  was-removed l [] = rw total-none refl
  was-removed l (x ∷ xs) = go (same_label x.label l) (was-removed l xs)
    where
      go : (t : Bool) → total_of (removed l xs) n ≡ (total_of xs n -ℤ total_of (named l xs) n) +ℤ total_of [] n
          → total_of (pick t xs (x ∷ removed l xs)) n
          ≡ (total_of (x ∷ xs) n -ℤ total_of (pick t (x ∷ []) (named l xs)) n) +ℤ total_of [] n
      go true rest =
          sym (+ℤ_idr (total_of xs n)) ∙ ap (λ (z : ℤ). z +ℤ pos 0) (sym (taken-off (own n x) (total_of xs n)))
          ∙ ap (λ (z : ℤ). (z -ℤ own n x) +ℤ pos 0) (sym (total_cons x xs))
          ∙ ap (λ (z : ℤ). (total_of (x ∷ xs) n -ℤ z) +ℤ pos 0) (sym (total-one x))
          ∙ ap (λ (z : ℤ). (total_of (x ∷ xs) n -ℤ total_of (x ∷ []) n) +ℤ z) (sym total-none)
      go false rest =
          let gone = total_of (named l xs) n in
          total_cons x (removed l xs) ∙ ap (λ (z : ℤ). own n x +ℤ z) rest
          ∙ slide (own n x) (total_of xs n) gone (total_of [] n)
          ∙ ap (λ (z : ℤ). (z -ℤ gone) +ℤ total_of [] n) (sym (total_cons x xs))

  -- of any step; one that names a herd finds it
  pub total-after : (step : Step) (h : Herd) (hs : List Herd) → (NamesOne step → earlier_label hs h.label ≡ true)
      → total_of (herds_after step h hs) n
      ≡ (total_of hs n -ℤ total_of (takes step h hs) n) +ℤ total_of (brings step h) n
  total-after Add h hs found = added h hs
  total-after Replace h hs found = was-replaced h hs (found NamesOne.replacing)
  total-after Remove h hs found = was-removed h.label hs

-- ---- all totals

of_grams : List ℤ → Totals
of_grams g = record { grams = g }

-- those worked out afresh move to those worked out afresh
pub totals-after : (step : Step) (h : Herd) (hs : List Herd) → (NamesOne step → earlier_label hs h.label ≡ true)
    → totals_after step h hs (totals_of (map herd_figures hs)) ≡ totals_of (map herd_figures (herds_after step h hs))
unfolding moved totals_of of_grams
totals-after step h hs found =
    let change : ℕ → ℤ → ℤ = λ n z. (z -ℤ total_of (takes step h hs) n) +ℤ total_of (brings step h) n in
    ap of_grams
    (by-number-same (λ n. change n (grams_at (totals_of (map herd_figures hs)).grams n))
    (farm_total (map herd_figures (herds_after step h hs))) (length totals)
    (λ n b. ap (change n) (by-number-at (farm_total (map herd_figures hs)) (length totals) n b)
    ∙ sym (total-after n step h hs found)))

-- of any totals: each moves by the total of the herd that goes and of the herd that comes
pub each-moves : (gone come : List Herd) (t : Totals) (n : ℕ) → n < length totals
    → grams_at (moved gone come t).grams n ≡ (grams_at t.grams n -ℤ total_of gone n) +ℤ total_of come n
unfolding moved
each-moves gone come t n b =
    by-number-at (λ n. (grams_at t.grams n -ℤ total_of gone n) +ℤ total_of come n) (length totals) n b
