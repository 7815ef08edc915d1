-- What a record says by itself is the first of 3 to 7 that applies, and else a value for a slot that herds have, under
-- a good label. Assumes nothing.
use Rattle.std.specs.Prelude.{Err, None, Ok, Some}
use Prim.Native.Nat.{ℕ, ◌<◌}
use mathlib.Core.Path.{◌≡◌, refl}
use mathlib.Core.Bool.{Bool, true, false, not}
use mathlib.Core.List.{List, [], ◌∷◌, ◌++◌}
use native.Mathlib.Omega.{arith}
use lib.Dec.{eqb}
use Rattle.base.specs.Pick.{pick}
use Rattle.base.specs.First.{Test, ◌when◌, first}
use Rattle.grammar.specs.Reading.{Parts}
use Rattle.inputs.specs.declared.Kind.{Kind}
use Rattle.finding.specs.Find.{find_input, FoundInput}
use Rattle.finding.proofs.Finds.{find_input-at}
use Rattle.farm.specs.declared.Given.{Given}
use Rattle.farm.specs.declared.Refusal.{Refusal}
use Rattle.farm.specs.declared.Refusal.TheVariants.{NotFourFields, BadLabel, NotInTheList, StandardForbidden, BadValue}
use Rattle.farm.specs.Limits.{slots}
use Rattle.farm.specs.Labels.{label_ok}
use Rattle.farm.proofs.Slots.{count_most}
use Rattle.records.specs.declared.Entry.{Entry}
use Rattle.values.specs.Values.{value_of}
use Rattle.records.specs.Entries.{
  label_in,
  is_nowhere,
  kind_by,
  slot_by,
  form_by,
  found_in,
  is_forbidden,
  is_unfit,
  given_by,
  entry_tests,
  record_read,
  entry_of,
  HasSlot,
}
use Rattle.records.specs.Entries.{RecordRead}

-- ---- lists of refusals, whatever a refusal is said as

abbrev pub lines : {A : Type 0} → (Refusal → A) → List (Test Refusal) → List (Test A)
lines refuse [] = []
lines refuse (l ∷ ls) = refuse l.answer when l.holds ∷ lines refuse ls

abbrev pub faults : Parts → List (Test Refusal)
faults x = entry_tests (λ refusal. refusal) x

-- what is read decides: the refusal, or what comes behind
abbrev pub decided : {A : Type 0} → (Refusal → A) → A → RecordRead → A
decided refuse z (Err refusal) = refuse refusal
decided refuse z (Ok (k, i, g)) = z

-- what a list of refusals says of a record that gives g for the slot i of the kind k
abbrev pub read_by : Kind → ℕ → Given → List (Test Refusal) → RecordRead
read_by k i g ls = first (lines Err ls) (Ok (k, i, g))

module _ (k : Kind) (i : ℕ) (g : Given) where
  pub read_first : {A : Type 0} (refuse : Refusal → A) (behind : List (Test A)) (z : A) (ls : List (Test Refusal))
      → first (lines refuse ls ++ behind) z ≡ decided refuse (first behind z) (read_by k i g ls)
  read_first refuse behind z [] = refl
  read_first {A} refuse behind z (l ∷ ls) = go l.holds (read_first refuse behind z ls)
    where
      go : (b : Bool) → first (lines refuse ls ++ behind) z ≡ decided refuse (first behind z) (read_by k i g ls)
          → pick b (refuse l.answer) (first (lines refuse ls ++ behind) z)
          ≡ decided refuse (first behind z) (pick b (Err l.answer) (read_by k i g ls))
      go true e = refl
      go false e = e

  pub read-gives : (ls : List (Test Refusal)) {m : Kind} {j : ℕ} {v : Given} → read_by k i g ls ≡ Ok (m, j, v)
      → ◌≡◌ {A = RecordRead} (Ok (k, i, g)) (Ok (m, j, v))
  read-gives [] e = e
  read-gives (l ∷ ls) {m} {j} {v} e = go l.holds e (read-gives ls)
    where
      go : (b : Bool) → pick b (Err l.answer) (read_by k i g ls) ≡ Ok (m, j, v)
          → (read_by k i g ls ≡ Ok (m, j, v) → ◌≡◌ {A = RecordRead} (Ok (k, i, g)) (Ok (m, j, v)))
          → ◌≡◌ {A = RecordRead} (Ok (k, i, g)) (Ok (m, j, v))
      go true h more = cc
      go false h more = more h

  read-has-slot : i < slots → (ls : List (Test Refusal)) → HasSlot (read_by k i g ls)
  read-has-slot b [] = HasSlot.gives b
  read-has-slot b (l ∷ ls) = go l.holds (read-has-slot b ls)
    where
      go : (t : Bool) → HasSlot (read_by k i g ls) → HasSlot (pick t (Err l.answer) (read_by k i g ls))
      go true h = HasSlot.wrong
      go false h = h

-- ---- what a record gives has a slot

entry-has-slot : (x : Parts) → HasSlot (record_read x)
unfolding record_read
entry-has-slot x = go (found_in x) refl
  where
    a : Bool
    a = not (eqb x.count 4)

    b : Bool
    b = not (label_ok (label_in x))

    nowhere : (a b : Bool)
        → HasSlot (pick a (Err NotFourFields) (pick b (Err BadLabel) (Err NotInTheList)))
    nowhere true b = HasSlot.wrong
    nowhere false true = HasSlot.wrong
    nowhere false false = HasSlot.wrong

    by : FoundInput → List (Test Refusal)
    by o =
        NotFourFields when a
        ∷ BadLabel when b
        ∷ NotInTheList when is_nowhere o
        ∷ StandardForbidden when is_forbidden (value_of (form_by o) x.fourth)
        ∷ BadValue when is_unfit (value_of (form_by o) x.fourth)
        ∷ []

    go : (o : FoundInput) → find_input x.second x.third ≡ o
        → HasSlot (first (lines Err (by o))
        (Ok (kind_by o, slot_by o, given_by (value_of (form_by o) x.fourth))))
    go (Some (k, i, form)) e =
        let in-kind = (find_input-at x.second x.third e).0.inside in
        read-has-slot k i (given_by (value_of form x.fourth)) (omega (arith, count_most k)) (by (Some (k, i, form)))
    go None e = nowhere a b

-- ---- nor of a bad label

pub input-good : (x : Parts) {m : Kind} {j : ℕ} {v : Given} → record_read x ≡ Ok (m, j, v)
    → label_ok (label_in x) ≡ true
unfolding record_read
input-good x {m} {j} {v} e = go (not (eqb x.count 4)) (label_ok (label_in x)) _ e
  where
    go : (a good : Bool) (t : RecordRead)
        → pick a (Err NotFourFields) (pick (not good) (Err BadLabel) t) ≡ Ok (m, j, v)
        → good ≡ true
    go a true t h = refl
    go true false t h = cc
    go false false t h = cc

-- ---- so says the record

pub entry-gives-slot : (x : Parts) {y : Entry} → y ≡ entry_of x → HasSlot y.read
unfolding entry_of
entry-gives-slot x e = rw e (entry-has-slot x)
