-- How long the records of a herd's cuts are: what is cut off is less than the divisor, the divisor under a name is at
-- most a power of ten, and a name under which the kind has no cut has no record. Assumes nothing.
use Prim.Native.Nat.{ℕ, zero, suc, ◌+◌, ◌*◌, ◌-◌, ◌^◌, ◌≤◌, ◌<◌}
use Prim.Native.String.{String}
use mathlib.Core.Path.{◌≡◌, refl}
use mathlib.Core.Bool.{Bool, true, false, ◌&&◌}
use mathlib.Core.List.{List, [], ◌∷◌, ◌++◌}
use native.Mathlib.Nat.{le_trans, pow-suc}
use native.Mathlib.Omega.{arith}
use borrow.Author.Tests.{ltb-true, le-ltb, leb-true, le-leb}
use lib.Dec.{leb, ltb, leb→le}
use lib.ListN.{length, get_or, length-append}
use Rattle.base.specs.Pick.{pick}
use Rattle.base.specs.Text.{bytes}
use Rattle.base.proofs.Clash.{clash}
use Rattle.base.proofs.Holds.{both_true}
use Rattle.decimal.specs.Writing.{width}
use Rattle.decimal.proofs.Widths.{whole_length, width-below}
use Rattle.amounts.specs.Units.{year, day}
use Rattle.inputs.specs.declared.Kind.{Kind}
use Rattle.inputs.specs.declared.Kind.TheVariants as kind
use Rattle.farm.specs.declared.Herd.{Herd}
use Rattle.farm.specs.Labels.{text}
use Rattle.farm.specs.Answers.{Accepted}
use Rattle.checks.specs.Checks.{check_herd}
use Rattle.checks.proofs.Accepts.{accepted-herd}
use Rattle.kinds.specs.declared.Roughage.{Roughage}
use Rattle.kinds.specs.declared.Pigs.{Pigs}
use Rattle.kinds.specs.declared.AirScrubber.{AirScrubber}
use Rattle.kinds.specs.declared.AirScrubber.TheVariants as scrubber
use Rattle.kinds.specs.declared.Inputs.{Inputs}
use Rattle.kinds.specs.declared.Inputs.TheVariants as kinds
use Rattle.typed_inputs.specs.Typed.{typed_as, typed_of}
use Rattle.line_parts.specs.Bounds.{longest_label, longest_field}
use Rattle.line_parts.specs.Fields.{label_field}
use Rattle.line_parts.proofs.Lengths.{label-short, field-length, sum_of, each_fits}
use Rattle.cuts.specs.Names.{texts, cut_number}
use Rattle.cuts.specs.Cuts.{cut_off, divisor_of}
use Rattle.cuts.specs.Herd.{names_of, is_of, cuts_of}
use Rattle.cuts.proofs.AddUp.{cuts-add-up}
use Rattle.lines_cuts.specs.Rooms.{longest_cuts}
use Rattle.lines_cuts.specs.Lines.{cut_line, module_of, cut_record, cut_lines, herd_cut_lines}
use Rattle.lines_cuts.proofs.LineByLine.{numbers-length}

-- ---- a record

line-length : (label path name : List ℕ) (off by : ℕ)
    → length (cut_line label path name off by)
    ≡ length (label_field label) + length path + length name + width off + width by + 6
unfolding cut_line
line-length label path name off by =
    simp length-append (omega (arith, numbers-length off by, whole_length off, whole_length by))

-- the room of a record whose divisor is at most ten to the k; where k is 0 there is no cut, and no record
abbrev record_room : Kind → String → ℕ → ℕ
record_room kind t zero = 0
record_room kind t (suc k) = longest_field + length (module_of kind t) + length (bytes t) + suc k + suc (suc k) + 6

-- and how large that divisor may be
abbrev limit : ℕ → ℕ
limit zero = 0
limit (suc k) = 10 ^ suc k

module _ (label : List ℕ) (short : length label ≤ longest_label) (kind : Kind) (t : String) (off by : ℕ)
    (less : 0 < by → off < by) where
  abbrev line : List ℕ
  line = cut_line label (module_of kind t) (bytes t) off by

  made-fits : (k : ℕ) → 0 < by → by ≤ 10 ^ suc k → length line ≤ record_room kind t (suc k)
  made-fits k above to =
      let o = width-below k off (omega (arith, less above)) in
      let b = width-below (suc k) by (omega (arith, pow-suc 10 (suc k))) in
      omega (arith, line-length label (module_of kind t) (bytes t) off by, field-length label, o, b)

  record_fits : (k : ℕ) → by ≤ limit k → length (pick (ltb 0 by) line []) ≤ record_room kind t k
  record_fits zero to = rw (le-ltb 0 by to) (omega arith)
  record_fits (suc k) to = go (ltb 0 by) refl
    where
      go : (b : Bool) → ltb 0 by ≡ b → length (pick b line []) ≤ record_room kind t (suc k)
      go true e = made-fits k (ltb-true 0 by e) to
      go false e = omega arith

-- ---- the divisors

-- Ten to this is at least the divisor under the name, by its number. A row each has the excretion, the yard, the
-- pasture, the housing of roughage-consuming animals, that of pigs, the ammonia of either, the scrubber, and the gases
-- from the house.
abbrev powers : List ℕ
powers =
    (4 ∷ [])
    ++ (4 ∷ 4 ∷ 8 ∷ [])
    ++ (6 ∷ 6 ∷ 4 ∷ 4 ∷ 4 ∷ 4 ∷ [])
    ++ (5 ∷ 3 ∷ 2 ∷ [])
    ++ (2 ∷ 1 ∷ 1 ∷ 2 ∷ 1 ∷ 1 ∷ [])
    ++ (9 ∷ [])
    ++ (9 ∷ 9 ∷ [])
    ++ (4 ∷ 4 ∷ 4 ∷ 4 ∷ 4 ∷ 4 ∷ [])

-- those of a kind's names, and 0 for any other
abbrev under : List String → List String → List ℕ → List ℕ
under names [] ks = []
under names (t ∷ ts) [] = []
under names (t ∷ ts) (k ∷ ks) = pick (is_of names t) k 0 ∷ under names ts ks

abbrev powers_of : List String → List ℕ
powers_of names = under names texts powers

-- no divisor is above its limit
abbrev all_to : List ℕ → List ℕ → Bool
all_to [] ks = true
all_to (d ∷ ds) [] = false
all_to (d ∷ ds) (k ∷ ks) = leb d (limit k) && all_to ds ks

at_most : (ds ks : List ℕ) → all_to ds ks ≡ true → (n : ℕ) → get_or ds n 0 ≤ limit (get_or ks n 0)
at_most [] ks e n = omega arith
at_most (d ∷ ds) [] e n = clash cc
at_most (d ∷ ds) (k ∷ ks) e zero = leb-true d (limit k) (both_true (leb d (limit k)) (all_to ds ks) e).0
at_most (d ∷ ds) (k ∷ ks) e (suc n) = at_most ds ks (both_true (leb d (limit k)) (all_to ds ks) e).1 n

abbrev DivisorsTo : Inputs → Type 0
DivisorsTo i = all_to (cuts_of i).divisor (powers_of (names_of i)) ≡ true

-- c_grazing is divided by the hours in the housing, of a year
roughage-to : (r : Roughage) (b : Bool) → ltb (r.grazing_days * r.grazing_hours) (year * day) ≡ b
    → DivisorsTo (kinds.Roughage r)
unfolding cuts_of
roughage-to r true e =
    let most = limit (get_or powers (cut_number "c_grazing") 0) in
    rw (e, le-leb (year * day - r.grazing_hours * r.grazing_days) most (omega arith)) refl
roughage-to r false e = rw e refl

-- without a biotrickling filter two cuts are not made
pigs-to : (p : Pigs) (s : AirScrubber) → p.air_scrubber ≡ s → DivisorsTo (kinds.Pigs p)
unfolding cuts_of
pigs-to p scrubber.Acid e = rw e refl
pigs-to p scrubber.Biotrickling e = rw e refl
pigs-to p scrubber.None e = rw e refl

divisors_to : (i : Inputs) → DivisorsTo i
unfolding cuts_of
divisors_to (kinds.Roughage r) = roughage-to r _ refl
divisors_to (kinds.Cattle c) = refl
divisors_to (kinds.Pigs p) = pigs-to p _ refl

-- ---- a herd

abbrev room : Kind → List String → String → ℕ
room kind names t = record_room kind t (get_or (powers_of names) (cut_number t) 0)

rooms : (k : Kind) (h : Herd) → sum_of (room k (names_of (typed_as k h))) texts ≤ longest_cuts
rooms kind.Roughage h = leb→le _ _ tt
rooms kind.Cattle h = leb→le _ _ tt
rooms kind.Pigs h = leb→le _ _ tt
rooms kind.DairyCow h = leb→le _ _ tt

kind_fits : (label : List ℕ) → length label ≤ longest_label → (k : Kind) (h : Herd)
    → length (cut_lines label k (cuts_of (typed_as k h))) ≤ longest_cuts
unfolding cut_lines
kind_fits label short k h =
    le_trans (each_fits (cut_record label k (cuts_of i)) (room k (names_of i)) fits texts) (rooms k h)
  where
    i : Inputs
    i = typed_as k h

    fits : (t : String) → length (cut_record label k (cuts_of i) t) ≤ room k (names_of i) t
    fits t =
        record_fits label short k t (cut_off t (cuts_of i)) (divisor_of t (cuts_of i))
        (λ above. (cuts-add-up i t above).less) (get_or (powers_of (names_of i)) (cut_number t) 0)
        (at_most (cuts_of i).divisor (powers_of (names_of i)) (divisors_to i) (cut_number t))

-- the records of an accepted herd are at most so long
pub cuts_fit : (h : Herd) → check_herd h ≡ Accepted → length (herd_cut_lines h) ≤ longest_cuts
unfolding typed_of
cuts_fit h e = kind_fits (text h.label) (label-short h.label (accepted-herd h e).label) h.kind h
