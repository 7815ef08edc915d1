-- 02, W7: "Quotient times divisor plus what was cut off is the dividend, always." And no cut is missing: the names
-- under which a herd has cuts are those of its kind's list. Assumes nothing.
use Prim.Native.Nat.{ℕ, zero, suc, ◌*◌, ◌-◌, ◌<◌}
use Prim.Native.String.{String}
use mathlib.Core.Path.{◌≡◌, refl}
use mathlib.Core.Bool.{Bool, true, false}
use mathlib.Core.List.{List, [], ◌∷◌, map}
use native.Mathlib.Omega.{arith}
use native.Mathlib.Nat.{mul_comm}
use borrow.Author.Tests.{ltb-true, lt-ltb}
use lib.Dec.{ltb}
use lib.ListN.{get_or}
use Rattle.base.specs.Pick.{pick}
use Rattle.cut_division.specs.declared.Quotient.{Quotient}
use Rattle.cut_division.specs.Cut.{Divides, undivided}
use Rattle.cut_division.proofs.Quotients.{divides}
use Rattle.amounts.specs.Units.{year, day}
use Rattle.amounts.specs.Dividing.{Divided, uncut, division, handed, worth, dividend, dividing}
use Rattle.kinds.specs.declared.Roughage.{Roughage}
use Rattle.kinds.specs.declared.Cattle.{Cattle}
use Rattle.kinds.specs.declared.Pigs.{Pigs}
use Rattle.kinds.specs.declared.AirScrubber.{AirScrubber}
use Rattle.kinds.specs.declared.AirScrubber.TheVariants as scrubber
use Rattle.kinds.specs.declared.Inputs.{Inputs}
use Rattle.kinds.specs.declared.Inputs.TheVariants as kinds
use Rattle.outputs.specs.Sections.{FiguresIn}
use Rattle.herd.specs.Herd.{figures_in}
use Rattle.cuts.specs.Names.{Row, rows, cut_number}
use Rattle.cuts.specs.Cuts.{divisor_of, names_made}
use Rattle.cuts.specs.Herd.{made_names, names_of, is_of, cut_under, cuts_of, AddsUp}

-- ---- a row, and any of the rows by its number

module _ (names : List String) (h : FiguresIn dividing) where
  one : (b : Bool) (d : Divided) → 0 < (pick b (handed d) (undivided 0)).divisor
      → Divides (dividend d) (record {
        whole = worth d;
        cut_off = (pick b (handed d) (undivided 0)).cut_off;
        divisor = (pick b (handed d) (undivided 0)).divisor;
      })
  one true (division a b) p = divides a b p
  one true (uncut n) p = absurd (omega arith)
  one false d p = absurd (omega arith)

  abbrev offs : List Row → List ℕ
  offs rs = map (λ (q : Quotient). q.cut_off) (map (cut_under names h) rs)

  abbrev bys : List Row → List ℕ
  bys rs = map (λ (q : Quotient). q.divisor) (map (cut_under names h) rs)

  any : (rs : List Row) (n : ℕ) → 0 < get_or (bys rs) n 0
      → let d = get_or (map (λ (r : Row). r.division h) rs) n (uncut 0) in
      Divides (dividend d) (record { whole = worth d; cut_off = get_or (offs rs) n 0; divisor = get_or (bys rs) n 0 })
  any [] n p = absurd (omega arith)
  any (r ∷ rs) zero p = one (is_of names r.text) (r.division h) p
  any (r ∷ rs) (suc n) p = any rs n p

-- every cut that a herd has adds up
pub cuts-add-up : (i : Inputs) (t : String) → 0 < divisor_of t (cuts_of i) → AddsUp i (cuts_of i) t
unfolding cuts_of
cuts-add-up i t p = let d = any (names_of i) (figures_in dividing i) rows (cut_number t) p in
    record { back = d.back; less = d.less }

-- ---- the names

roughage-names : (r : Roughage) (b : Bool) → ltb (r.grazing_days * r.grazing_hours) (year * day) ≡ b
    → names_made (cuts_of (kinds.Roughage r)) ≡ made_names (kinds.Roughage r)
unfolding cuts_of
roughage-names r true e =
    let h = ltb-true (r.grazing_days * r.grazing_hours) (year * day) e in
    let l : 0 < year * day - r.grazing_hours * r.grazing_days =
    omega (arith, mul_comm r.grazing_hours r.grazing_days) in
    rw (e, lt-ltb 0 (year * day - r.grazing_hours * r.grazing_days) l) refl
roughage-names r false e = rw e refl

cattle-names : (c : Cattle) → names_made (cuts_of (kinds.Cattle c)) ≡ made_names (kinds.Cattle c)
unfolding cuts_of
cattle-names c = refl

pigs-names : (p : Pigs) → names_made (cuts_of (kinds.Pigs p)) ≡ made_names (kinds.Pigs p)
unfolding cuts_of
pigs-names p = go p.air_scrubber refl
  where
    go : (s : AirScrubber) → p.air_scrubber ≡ s → names_made (cuts_of (kinds.Pigs p)) ≡ made_names (kinds.Pigs p)
    go scrubber.Acid e = rw e refl
    go scrubber.Biotrickling e = rw e refl
    go scrubber.None e = rw e refl

-- no cut is missing, and none is there that is not made
pub cuts-named : (i : Inputs) → names_made (cuts_of i) ≡ made_names i
cuts-named (kinds.Roughage r) = roughage-names r _ refl
cuts-named (kinds.Cattle c) = cattle-names c
cuts-named (kinds.Pigs p) = pigs-names p
