-- 01, The farm file: where a record's fields stand in it, which is what the reader hands back. The same reading as in
-- `grammar/specs/Reading`, with positions for contents; `proofs/Steps.antt` shows that the bytes at these places are
-- the contents, and that reading goes on where the record has ended.
use Rattle.std.specs.Prelude.{ℕ, zero, suc, ◌+◌, ◌-◌, List, leb, length, drop}
use Rattle.base.specs.Pick.{pick, if◌is◌then◌else◌}
use Rattle.grammar.specs.Reading.{Parts}
use Rattle.plain_fields.specs.declared.Place.{Place}
use Rattle.plain_fields.specs.declared.FieldEnd.TheVariants as ends
use Rattle.plain_fields.specs.Places.{place, held}
use Rattle.field_ends.specs.Places.{field_from}
use Rattle.csv_reader.specs.declared.Fields.{Fields}
use Rattle.csv_reader.specs.declared.ReaderPlace.{ReaderPlace}
use Rattle.csv_reader.specs.declared.Step.{Step}
use Rattle.csv_reader.specs.declared.Step.TheVariants.{Record, Broken, End}

abbrev pub reader : ℕ → ReaderPlace
reader n = record { at = n }

-- a record's fields: how many there are, and where the first four stand; a field that is not there stands nowhere, as
-- an empty part
abbrev pub no_fields : Fields
no_fields = record { count = 0; first = place 0 0; second = place 0 0; third = place 0 0; fourth = place 0 0 }

-- what stands at these places
abbrev pub parts_at : List ℕ → Fields → Parts
parts_at s f = record {
  count = f.count;
  first = held s f.first;
  second = held s f.second;
  third = held s f.third;
  fourth =
      held s f.fourth;
}

-- one field more
abbrev pub and_field : Fields → Place → Fields
and_field f p =
    record {
      count = f.count + 1;
      first = if f.count is 0 then p else f.first;
      second = if f.count is 1 then p else f.second;
      third = if f.count is 2 then p else f.third;
      fourth = if f.count is 3 then p else f.fourth;
    }

-- the record goes on at `at`, after the fields f; it has fewer than k fields more
unfoldable pub row_from : ℕ → Fields → ℕ → List ℕ → Step
row_from zero f at s = Broken
row_from (suc k) f at s =
    elim (field_from at (drop at s)) [
      | ends.Comma p n ↦ row_from k (and_field f p) n s
      | ends.Crlf p n ↦ Record (and_field f p) (reader n)
      | ends.File p ↦ Record (and_field f p) (reader (length s))
      | ends.Broken ↦ Broken
    ]

-- what reading the file s at the position `at` finds
unfoldable pub step_of : List ℕ → ℕ → Step
step_of s at = pick (leb (length s) at) End (row_from (suc (length s - at)) no_fields at s)
