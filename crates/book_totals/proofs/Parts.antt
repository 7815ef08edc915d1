-- The totals of one herd and of none, as the code has them, and totals moved by them: that is `moved` of a step.
-- Assumes nothing.
use Prim.Native.Nat.{ℕ, ◌^◌, ◌+◌, ◌≤◌, ◌<◌}
use mathlib.Core.Path.{◌≡◌, sym, ap, ◌∙◌}
use mathlib.Core.Bool.{false}
use mathlib.Core.List.{List, [], ◌∷◌, map}
use native.Mathlib.Omega.{arith}
use lib.ListN.{length, get_or}
use lib.IntN.{ℤ, nat_abs, ◌+ℤ◌, ◌-ℤ◌, +ℤ_idl}
use mir.Syntax.{w64}
use mir.Val.{SFits, to_z, of_z}
use Rattle.base.specs.Each.{none, more}
use Rattle.base.proofs.Each.{each_of}
use Rattle.cut_division.proofs.Signed.{fits_abs, back, abs_add, abs_sub}
use Rattle.cut_division.proofs.Totals.{signed_total-same}
use Rattle.farm.specs.declared.Herd.{Herd}
use Rattle.farm.specs.Answers.{Accepted}
use Rattle.checks.specs.Checks.{check_herd}
use Rattle.kinds.specs.declared.Inputs.{Inputs}
use Rattle.kinds.specs.Sound.{Sound}
use Rattle.typed_inputs.specs.Typed.{typed_of}
use Rattle.typed_inputs.proofs.Sound.{typed_sound}
use Rattle.outputs.specs.declared.Figures.{Figures}
use Rattle.outputs.specs.declared.Totals.{Totals}
use Rattle.outputs.specs.Names.{totals, addends}
use Rattle.outputs.specs.Grams.{grams_at, zeros, figure_most, GramsTo, total_at, total_grams, farm_total, totals_of}
use Rattle.outputs.proofs.Adding.{widen, zeros-to, totals-of-sum}
use Rattle.outputs.proofs.ByNumber.{by-number-at, by-number-same}
use Rattle.kilograms.proofs.Small.{totals-small}
use Rattle.herd.specs.Herd.{figures_of}
use Rattle.herd.proofs.Bounds.{most, figures-to}
use Rattle.model.specs.Answers.{herd_figures}
use Rattle.model.proofs.Exact.{no-totals-small}
use Rattle.books.specs.Steps.{moved}
use Rattle.books.specs.Rules.{total_most, beyond}
use Rattle.book_totals.specs.Parts.{part_most, TotalsOf, moved_by}
use Rattle.book_totals.proofs.Beyond.{within-most}

of_grams : List ℤ → Totals
of_grams g = record { grams = g }

-- ---- one herd

-- a total of one herd's figures
total-alone : (f : Figures) (t : ℕ) → total_at f.grams t ≡ farm_total (f ∷ []) t
unfolding total_at farm_total
total-alone f t = signed_total-same (each_of (λ n. sym (+ℤ_idl (grams_at f.grams n))) (get_or addends t []))

totals-alone : (f : Figures) (t : Totals) → t.grams ≡ total_grams f.grams → t ≡ totals_of (f ∷ [])
unfolding totals_of of_grams
totals-alone f t e =
    ap of_grams (e ∙ by-number-same (total_at f.grams) (farm_total (f ∷ [])) (length totals) (λ n h. total-alone f n))

module _ (h : Herd) (accepted : check_herd h ≡ Accepted) (i : Inputs) (q : i ≡ typed_of h) where
  pub part_sound : Sound i
  part_sound = rw q (typed_sound h accepted)

  module _ (f : Figures) (e : f ≡ figures_of i) where
    to-most : GramsTo most f.grams
    to-most = rw e (figures-to i part_sound)

    pub part_small : GramsTo figure_most f.grams
    part_small = widen most figure_most to-most (omega arith)

    pub part-totals : (t : Totals) → t.grams ≡ total_grams f.grams → TotalsOf (h ∷ []) t
    part-totals t d =
        let a : t ≡ totals_of (f ∷ []) = totals-alone f t d in
        let p : f ≡ herd_figures h = e ∙ ap figures_of q in
        let s : GramsTo part_most (totals_of (f ∷ [])).grams = widen _ part_most
        (totals-small (f ∷ []) most (more to-most none)) (omega arith) in
        record { is = a ∙ ap (λ (x : Figures). totals_of (x ∷ [])) p; small = rw a s }

-- ---- no herd

pub none-small : (f : Figures) → f.grams ≡ zeros → GramsTo figure_most f.grams
none-small f e = rw e (zeros-to figure_most)

pub none-totals : (f : Figures) → f.grams ≡ zeros → (t : Totals) → t.grams ≡ total_grams f.grams → TotalsOf [] t
none-totals f e t d =
    let a : t ≡ totals_of [] = totals-of-sum herd_figures [] t (d ∙ ap total_grams e) in
    record { is = a; small = rw a (widen 0 part_most no-totals-small (omega arith)) }

pub ruleset part_steps = (part_sound, part_small, part-totals, none-small, none-totals)

-- ---- one total moved, as the machine does it

module _ (x y z : ℤ) (hx : nat_abs x ≤ total_most) (hy : nat_abs y ≤ part_most) (hz : nat_abs z ≤ part_most) where
  less-small : nat_abs (x -ℤ y) ≤ total_most + part_most
  less-small = omega (arith, abs_sub x y)

  all_small : nat_abs ((x -ℤ y) +ℤ z) < 2 ^ 63
  all_small = omega (arith, less-small, abs_add (x -ℤ y) z)

  pub less-fits : SFits w64 (to_z w64 (of_z w64 x) -ℤ to_z w64 (of_z w64 y))
  less-fits = rw (back x (omega arith), back y (omega arith)) (fits_abs _ (omega (arith, less-small)))

  less-is : to_z w64 (of_z w64 (to_z w64 (of_z w64 x) -ℤ to_z w64 (of_z w64 y))) ≡ x -ℤ y
  less-is = rw (back x (omega arith), back y (omega arith)) (back (x -ℤ y) (omega (arith, less-small)))

  pub more-fits : SFits w64
      (to_z w64 (of_z w64 (to_z w64 (of_z w64 x) -ℤ to_z w64 (of_z w64 y))) +ℤ to_z w64 (of_z w64 z))
  more-fits = rw (less-is, back z (omega arith)) (fits_abs _ all_small)

  pub more-is : to_z w64 (of_z w64 (to_z w64 (of_z w64 (to_z w64 (of_z w64 x) -ℤ to_z w64 (of_z w64 y)))
      +ℤ to_z w64 (of_z w64 z))) ≡ (x -ℤ y) +ℤ z
  more-is = rw (less-is, back z (omega arith)) (back _ all_small)

-- ---- what was read is small

module _ (a : List ℤ) (n : ℕ) where
  read_small : (k : ℕ) → k ≤ total_most → GramsTo k a → nat_abs (to_z w64 (of_z w64 (grams_at a n))) ≤ k
  read_small k b s = rw (back (grams_at a n) (omega (arith, s.most n))) (s.most n)

  pub part-read : (k : ℕ) → GramsTo part_most a → part_most ≤ k → nat_abs (to_z w64 (of_z w64 (grams_at a n))) ≤ k
  part-read k s b = omega (arith, read_small part_most (omega arith) s)

pub total-read : (t : Totals) (n : ℕ) → beyond t ≡ false
    → nat_abs (to_z w64 (of_z w64 (grams_at t.grams n))) ≤ total_most
total-read t n e = read_small t.grams n total_most (omega arith) (within-most t e)

pub ruleset reads_small = (part-read, total-read)

-- ---- one total moved, of what was read

module _ {a b c : List ℤ} (ta : GramsTo total_most a) (tb : GramsTo part_most b) (tc : GramsTo part_most c)
    (n : ℕ) where
  abbrev x : ℤ
  x = grams_at a n

  abbrev y : ℤ
  y = grams_at b n

  abbrev z : ℤ
  z = grams_at c n

  x-back : to_z w64 (of_z w64 x) ≡ x
  x-back = back x (omega (arith, ta.most n))

  y-back : to_z w64 (of_z w64 y) ≡ y
  y-back = back y (omega (arith, tb.most n))

  z-back : to_z w64 (of_z w64 z) ≡ z
  z-back = back z (omega (arith, tc.most n))

  pub gave : (r : ℤ) → r ≡ (to_z w64 (of_z w64 x) -ℤ to_z w64 (of_z w64 y)) +ℤ to_z w64 (of_z w64 z)
      → to_z w64 (of_z w64 r) ≡ (x -ℤ y) +ℤ z
  gave r e = rw (e, x-back, y-back, z-back) (back _ (all_small x y z (ta.most n) (tb.most n) (tc.most n)))

-- ---- all of them: what a step does

pub is-moved : {gone come : List Herd} {a b : Totals} (t r : Totals) → TotalsOf gone a → TotalsOf come b
    → r.grams ≡ moved_by t a b → r ≡ moved gone come t
unfolding moved totals_of of_grams
is-moved {gone} {come} {a} {b} t r p q e =
    ap of_grams (e ∙ by-number-same _ _ (length totals) (λ n h. rw (
      p.is,
      q.is,
      by-number-at (farm_total (map herd_figures gone)) (length totals) n h,
      by-number-at (farm_total (map herd_figures come)) (length totals) n h,
    )))
