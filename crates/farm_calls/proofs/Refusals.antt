-- Of a slice of herds and a count: the calls refuse with a number exactly where that is the first refusal that applies,
-- with record 0, and accept exactly where none applies, for every slice and count. A count beyond the slice, or beyond
-- the herds that any farm may have, is refused with 9. And what stands behind the count says nothing.
-- Assumes nothing.
use Prim.Native.Nat.{ℕ, zero, suc, ◌<◌, ◌≤◌}
use mathlib.Core.Path.{◌≡◌, refl, sym, ◌∙◌}
use mathlib.Core.Logic.{◌↔◌, ◌⊎◌, inl, inr}
use mathlib.Core.Bool.{Bool, true, false}
use mathlib.Core.List.{List}
use native.Mathlib.Omega.{arith}
use lib.Dec.{ltb}
use lib.ListN.{length, get_or, take, length-take}
use lib.Seq.{get_or-take, take-take}
use borrow.Author.Tests.{le-ltb, ltb-true, ltb-false}
use Rattle.base.proofs.Clash.{clash}
use Rattle.base.proofs.SameRefused.{same-record, same-refusal}
use Rattle.base.specs.Refused.{refuse}
use Rattle.farm.specs.declared.Herd.{Herd}
use Rattle.farm.specs.declared.Refusal.{Refusal}
use Rattle.farm.specs.declared.Refusal.TheVariants.{NoRoomForHerd}
use Rattle.farm.specs.Limits.{herds_most}
use Rattle.farm.specs.Herds.{no_herd}
use Rattle.farm.specs.Answers.{Accepted, Checked}
use Rattle.checks.specs.Checks.{herds_of, check_farm}
use Rattle.checks.specs.Refusals as record-rules
use Rattle.checks.specs.Refusals.{Applies, AppliesAt, Turn, Sooner, herd_by_herd, in_that_order, FirstOfRecord}
use Rattle.checks.specs.Refusals.{RecordGets}
use Rattle.checks.proofs.Refuses.{record_gets, one-first}
use Rattle.lent.specs.Laid.{farm_in}
use Rattle.lent.proofs.Loaded.{loaded_count, loaded_herds, beyond-array, beyond-most, refused-beyond}
use Rattle.farm_calls.specs.Totals.{totals_in, listing_in}
use Rattle.farm_calls.specs.Refusals.{Beyond, the_slice, the_most, AppliesIn, no_room, of_herd, FirstIn}
use Rattle.farm_calls.specs.Refusals.{GetsIn, fine, gets_refusal}

-- ---- beyond the bounds, or within

module _ (herds : List Herd) (count : ℕ) where
  -- the count is within the slice and within what a farm may have
  abbrev Within : Type 0
  Within = (count ≤ length herds) × (count ≤ herds_most)

  situated : Beyond herds count ⊎ Within
  situated = go (ltb (length herds) count) refl (ltb herds_most count) refl
    where
      go : (s : Bool) → ltb (length herds) count ≡ s → (t : Bool) → ltb herds_most count ≡ t
          → Beyond herds count ⊎ Within
      go true e t q = inl (the_slice (ltb-true (length herds) count e))
      go false e true q = inl (the_most (ltb-true herds_most count q))
      go false e false q = inr (ltb-false (length herds) count e, ltb-false herds_most count q)

-- "9 when the array or the 512 is full, also where a farm record is checked"
pub beyond-checked : {herds : List Herd} {count : ℕ} → Beyond herds count
    → check_farm (farm_in herds count) ≡ refuse NoRoomForHerd 0
beyond-checked {herds} {count} (the_slice h) = refused-beyond (farm_in herds count) (beyond-array herds count h)
beyond-checked {herds} {count} (the_most h) = refused-beyond (farm_in herds count) (beyond-most herds count h)

-- ---- within the bounds: what applies to the slice and the count applies to the record, and nothing else does

module _ (herds : List Herd) (count : ℕ) (w : Within herds count) where
  abbrev handed : record-rules.Handed
  handed = record-rules.farm (farm_in herds count)

  to_record : {i : ℕ} {refusal : Refusal} → AppliesIn herds count i refusal → AppliesAt handed i refusal
  to_record (no_room (the_slice l)) = absurd (omega (arith, w.0))
  to_record (no_room (the_most l)) = absurd (omega (arith, w.1))
  to_record (of_herd {i = i} {refusal = refusal} a b x) =
      let e = loaded_herds herds count w.0 w.1 in
      let inside : i < length (herds_of (farm_in herds count)) = rw e (omega (arith, length-take count herds)) in
      let le : i ≤ count = omega arith in
      record-rules.of_herd {x = handed} {refusal = refusal} inside
      (rw (e, take-take i count herds le, get_or-take count herds i no_herd a) x)

  from_record : {i : ℕ} {refusal : Refusal} → AppliesAt handed i refusal → AppliesIn herds count i refusal
  from_record (record-rules.no_room l) = absurd (omega (arith, w.1, loaded_count herds count w.0))
  from_record (record-rules.of_herd {i = i} b x) =
      let e = loaded_herds herds count w.0 w.1 in
      let inside : i < length (take count herds) = rw e at b in
      let a : i < count = omega (arith, length-take count herds) in
      let l : i < length herds = omega (arith, length-take count herds) in
      let le : i ≤ count = omega arith in
      of_herd a l (rw (e, take-take i count herds le, get_or-take count herds i no_herd a) at x)

  to-first : {refusal : Refusal} → FirstIn herds count refusal → FirstOfRecord handed refusal
  to-first y =
      record {
        place = y.place;
        is_first = record {
          applies = to_record y.is_first.applies;
          none_sooner = λ m other a s. y.is_first.none_sooner m other (from_record a) s;
        };
      }

  from_first : {refusal : Refusal} → FirstOfRecord handed refusal → FirstIn herds count refusal
  from_first y =
      record {
        place = y.place;
        is_first = record {
          applies = from_record y.is_first.applies;
          none_sooner = λ m other a s. y.is_first.none_sooner m other (to_record a) s;
        };
      }

  from_gets : {c : Checked} → RecordGets handed c → GetsIn herds count c
  from_gets (record-rules.fine none) = fine (λ n refusal a. none n refusal (to_record a))
  from_gets (record-rules.gets_refusal y) = gets_refusal (from_first y)

-- ---- beyond them 9 is the first

before_nine : {m : ℕ} {other : Refusal} → Sooner m other 0 NoRoomForHerd → ⊥
before_nine (herd_by_herd l) = omega arith
before_nine (in_that_order p Turn.room l) = omega arith

-- what is wrong with a herd has a later turn
later : {before : List Herd} {h : Herd} {refusal : Refusal} → Applies before h refusal → (n : ℕ)
    → Sooner 0 NoRoomForHerd n refusal
later (Applies.bad_label e) zero = in_that_order Turn.room Turn.label (omega arith)
later (Applies.has_earlier_label b e) zero = in_that_order Turn.room Turn.earlier (omega arith)
later (Applies.input_missing b e) zero = in_that_order Turn.room Turn.missing (omega arith)
later (Applies.bad_value b e) zero = in_that_order Turn.room Turn.value (omega arith)
later a (suc n) = let l : 0 < suc n = omega arith in herd_by_herd l

module _ {herds : List Herd} {count : ℕ} (b : Beyond herds count) where
  first-beyond : FirstIn herds count NoRoomForHerd
  first-beyond =
      record {
        place = 0;
        is_first = record { applies = no_room b; none_sooner = λ m other a s. before_nine s };
      }

  only_nine : {refusal : Refusal} → FirstIn herds count refusal → refusal ≡ NoRoomForHerd
  only_nine y = go y.is_first.applies y.is_first.none_sooner
    where
      go : {n : ℕ} {refusal : Refusal} → AppliesIn herds count n refusal
          → ((m : ℕ) (other : Refusal) → AppliesIn herds count m other → Sooner m other n refusal → ⊥)
          → refusal ≡ NoRoomForHerd
      go (no_room _) none = refl
      go (of_herd {i = i} _ _ a) none = absurd (none 0 NoRoomForHerd (no_room b) (later a i))

-- ---- the theorems

pub gets_in : (herds : List Herd) (count : ℕ) → GetsIn herds count (check_farm (farm_in herds count))
gets_in herds count = go (situated herds count)
  where
    go : Beyond herds count ⊎ Within herds count → GetsIn herds count (check_farm (farm_in herds count))
    go (inl b) = rw (beyond-checked b) (gets_refusal (first-beyond b))
    go (inr w) = from_gets herds count w (record_gets (record-rules.farm (farm_in herds count)))

pub one-first_in : {herds : List Herd} {count : ℕ} {f g : Refusal} → FirstIn herds count f → FirstIn herds count g
    → f ≡ g
one-first_in {herds} {count} {f} {g} x y = go (situated herds count)
  where
    go : Beyond herds count ⊎ Within herds count → f ≡ g
    go (inl b) = only_nine b x ∙ sym (only_nine b y)
    go (inr w) = one-first (to-first herds count w x) (to-first herds count w y)

module _ (herds : List Herd) (count : ℕ) where
  pub in_refused : (n : ℕ) (refusal : Refusal)
      → (check_farm (farm_in herds count) ≡ refuse refusal n) ↔ (FirstIn herds count refusal × (n ≡ 0))
  in_refused n refusal = (told (gets_in herds count), found (gets_in herds count))
    where
      told : {c : Checked} → GetsIn herds count c → c ≡ refuse refusal n → FirstIn herds count refusal × (n ≡ 0)
      told (fine none) e = clash cc
      told (gets_refusal y) e = (rw (same-refusal e) at y, sym (same-record e))

      found : {c : Checked} → GetsIn herds count c → FirstIn herds count refusal × (n ≡ 0) → c ≡ refuse refusal n
      found (fine none) y = absurd (none y.0.place refusal y.0.is_first.applies)
      found (gets_refusal x) y = let p = one-first_in x y.0 in rw (p, y.1)

  pub in_accepted : (check_farm (farm_in herds count) ≡ Accepted)
      ↔ ((n : ℕ) (refusal : Refusal) → AppliesIn herds count n refusal → ⊥)
  in_accepted = (told (gets_in herds count), found (gets_in herds count))
    where
      told : {c : Checked} → GetsIn herds count c → c ≡ Accepted
          → (n : ℕ) (refusal : Refusal) → AppliesIn herds count n refusal → ⊥
      told (fine none) e = none
      told (gets_refusal _) e = clash cc

      found : {c : Checked} → GetsIn herds count c
          → ((n : ℕ) (refusal : Refusal) → AppliesIn herds count n refusal → ⊥) → c ≡ Accepted
      found (fine _) none = refl
      found (gets_refusal {refusal = f} y) none = absurd (none y.place f y.is_first.applies)

  -- an accepted count is within the bounds
  pub accepted-within : check_farm (farm_in herds count) ≡ Accepted → (count ≤ length herds) × (count ≤ herds_most)
  accepted-within e = go (situated herds count)
    where
      go : Beyond herds count ⊎ Within herds count → Within herds count
      go (inl b) = let q = beyond-checked b in clash cc
      go (inr w) = w

-- ---- what stands behind the count says nothing

module _ (a b : List Herd) (count : ℕ) (h : count ≤ length a) (k : count ≤ length b) (e : take count a ≡ take count b)
  where
    pub same-farm : farm_in a count ≡ farm_in b count
    unfolding farm_in
    same-farm = rw (le-ltb (length a) count h, le-ltb (length b) count k, e)

    pub totals-of_the_first : totals_in a count ≡ totals_in b count
    unfolding totals_in
    totals-of_the_first = rw same-farm

    pub listing-of_the_first : listing_in a count ≡ listing_in b count
    unfolding listing_in
    listing-of_the_first = rw same-farm
