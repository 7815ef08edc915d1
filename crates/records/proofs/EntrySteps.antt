-- What a record says by itself, from the calls that look at its fields: each law in the form that a place of
-- src/entries.rt wants. Assumes nothing.
use Rattle.std.specs.Prelude.{Err, None, Ok, Some}
use Prim.Native.Nat.{ℕ}
use mathlib.Core.Path.{◌≡◌, sym, ◌∙◌}
use mathlib.Core.Bool.{Bool, true, false, not}
use mathlib.Core.List.{List}
use borrow.Author.Tests.{eq-eqb, ne_eqb}
use Rattle.plain_fields.specs.Places.{held}
use Rattle.csv_reader.specs.Places.{parts_at}
use Rattle.csv_reader.specs.declared.Fields.{Fields}
use Rattle.inputs.specs.declared.Form.{Form}
use Rattle.inputs.specs.declared.Kind.{Kind}
use Rattle.finding.specs.Find.{find_input, FoundInput}
use Rattle.farm.specs.declared.Label.{Label}
use Rattle.farm.specs.declared.Given.{Given}
use Rattle.farm.specs.declared.Refusal.{Refusal}
use Rattle.farm.specs.declared.Refusal.TheVariants.{NotFourFields, BadLabel, NotInTheList, StandardForbidden, BadValue}
use Rattle.farm.specs.Labels.{label_ok, label_of}
use Rattle.values.specs.Values.{value_of}
use Rattle.records.specs.Entries.{label_in, record_read, input_read, entry_of, RecordRead}
use Rattle.number_values.specs.Numbers.{ValueRead}
use Rattle.number_values.specs.declared.ValueFault.{ValueFault}
use Rattle.number_values.specs.declared.ValueFault.TheVariants.{Forbidden, Unfit}
use Rattle.number_values.specs.Faults.{refusal_of}

-- ---- what it says: 5 to 7

module _ (s : List ℕ) (f : Fields) {a b : List ℕ} (qa : a ≡ held s f.second) (qb : b ≡ held s f.third)
    {x : FoundInput} (q : x ≡ find_input a b) where
  found_at : find_input (held s f.second) (held s f.third) ≡ x
  found_at = rw (qa, qb) at (sym q)

  pub read-nowhere : x ≡ None → Err NotInTheList ≡ input_read (parts_at s f)
  unfolding input_read
  read-nowhere e = simp (input_read, found_at ∙ e)

  module _ {k : Kind} {i : ℕ} {form : Form} (e : x ≡ Some (k, i, form)) {v : List ℕ} (qv : v ≡ held s f.fourth)
      {y : ValueRead} (u : y ≡ value_of form v) where
    value-at : value_of form (held s f.fourth) ≡ y
    value-at = rw qv at (sym u)

    pub read-gives : {g : Given} → y ≡ Ok g → Ok (k, i, g) ≡ input_read (parts_at s f)
    unfolding input_read
    read-gives z = simp (input_read, found_at ∙ e, value-at ∙ z)

    read_forbidden : y ≡ Err Forbidden → Err StandardForbidden ≡ input_read (parts_at s f)
    unfolding input_read
    read_forbidden z = simp (input_read, found_at ∙ e, value-at ∙ z)

    read-unfit : y ≡ Err Unfit → Err BadValue ≡ input_read (parts_at s f)
    unfolding input_read
    read-unfit z = simp (input_read, found_at ∙ e, value-at ∙ z)

    pub read-refused : (fault : ValueFault) {refusal : Refusal} → y ≡ Err fault → refusal ≡ refusal_of fault
        → Err refusal ≡ input_read (parts_at s f)
    read-refused Forbidden z r = rw r (read_forbidden z)
    read-refused Unfit z r = rw r (read-unfit z)

pub ruleset input_steps = (read-nowhere, read-gives, read-refused)

-- ---- the whole record: 3 and 4 before them

module _ (s : List ℕ) (f : Fields) {a : List ℕ} (qa : a ≡ held s f.first) {l : Label} (q : l ≡ label_of a) where
  label_at : l ≡ label_in (parts_at s f)
  label_at = rw qa at q

  entry : {t : RecordRead} → t ≡ record_read (parts_at s f) → record { label = l; read = t } ≡ entry_of (parts_at s f)
  unfolding entry_of
  entry e = let z = label_at in cc

  pub not-four : (f.count ≡ 4 → ⊥) → record { label = l; read = Err NotFourFields } ≡ entry_of (parts_at s f)
  unfolding record_read
  not-four n = entry (simp (record_read, ne_eqb f.count 4 n))

  module _ (four : f.count ≡ 4) {r : Bool} (w : r ≡ label_ok l) where
    good-at : label_ok (label_of (held s f.first)) ≡ r
    good-at = rw (q, qa) at (sym w)

    pub bad_label : not r ≡ true → record { label = l; read = Err BadLabel } ≡ entry_of (parts_at s f)
    unfolding record_read
    bad_label n = entry (simp (record_read, eq-eqb f.count 4 four, good-at, n))

    pub good-label : not r ≡ false → {t : RecordRead} → t ≡ input_read (parts_at s f)
        → record { label = l; read = t } ≡ entry_of (parts_at s f)
    unfolding record_read input_read
    good-label n e = entry (simp (record_read, eq-eqb f.count 4 four, good-at, n) e)

pub ruleset entry_steps = (not-four, bad_label, good-label)
