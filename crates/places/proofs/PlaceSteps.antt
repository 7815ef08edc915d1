-- What stands at a place, by what the reader found there: each law in the form that a place of src/lib.rt wants.
-- Assumes nothing.
use Prim.Native.Nat.{ℕ}
use mathlib.Core.Path.{◌≡◌, sym, ap, ◌∙◌}
use mathlib.Core.List.{List}
use Rattle.csv_reader.specs.declared.Fields.{Fields}
use Rattle.csv_reader.specs.declared.ReaderPlace.{ReaderPlace}
use Rattle.csv_reader.specs.declared.Step.{Step}
use Rattle.csv_reader.specs.declared.Step.TheVariants.{Record, Broken, End}
use Rattle.csv_reader.specs.Places.{parts_at, step_of}
use Rattle.farm.specs.declared.Herd.{Herd}
use Rattle.farm.specs.declared.Refusal.TheVariants.{RecordBroken}
use Rattle.records.specs.declared.Entry.{Entry}
use Rattle.records.specs.Entries.{entry_of}
use Rattle.progress.specs.declared.Effect.TheVariants.{Wrong, Ends}
use Rattle.progress.specs.declared.HerdAfter.{HerdAfter}
use Rattle.progress.specs.Herds.{effect_of}
use Rattle.places.specs.Places.{read_by, read_at}

module _ (s : List ℕ) (place : ReaderPlace) (h : Herd) {o : Step} (q : o ≡ step_of s place.at) where
  read_is : {x : Step} → o ≡ x → read_at s place h ≡ read_by s place h x
  unfolding read_at
  read_is e = ap (read_by s place h) (sym q ∙ e)

  pub read_record : {f : Fields} {next : ReaderPlace} → o ≡ Record f next → {y : Entry} → y ≡ entry_of (parts_at s f)
      → {t : HerdAfter} → t ≡ effect_of h y
      → record { effect = t.effect; herd = t.herd; next = next } ≡ read_at s place h
  read_record e v w = rw (w, v) (sym (read_is e))

  pub read-broken : o ≡ Broken → record { effect = Wrong RecordBroken; herd = h; next = place } ≡ read_at s place h
  read-broken e = sym (read_is e)

  pub read-end : o ≡ End → record { effect = Ends; herd = h; next = place } ≡ read_at s place h
  read-end e = sym (read_is e)

pub ruleset place_steps = (read_record, read-broken, read-end)
