-- What stands at a place of a file does to the herd being read. It mirrors the code for its contracts; that this gives
-- the first that applies of 2 to 11 is shown in `reader/proofs/Effects`.
use Rattle.std.specs.Prelude.{ℕ, List}
use Rattle.csv_reader.specs.declared.ReaderPlace.{ReaderPlace}
use Rattle.csv_reader.specs.declared.Step.{Step}
use Rattle.csv_reader.specs.declared.Step.TheVariants.{Record, Broken, End}
use Rattle.csv_reader.specs.Places.{parts_at, step_of}
use Rattle.farm.specs.declared.Herd.{Herd}
use Rattle.farm.specs.declared.Refusal.TheVariants.{RecordBroken}
use Rattle.records.specs.Entries.{entry_of}
use Rattle.progress.specs.declared.Effect.TheVariants.{Wrong, Ends}
use Rattle.places.specs.declared.PlaceRead.{PlaceRead}
use Rattle.progress.specs.Herds.{effect_of}

-- a record, which does this to the herd being read, a broken one, or the file's end
abbrev pub read_by : List ℕ → ReaderPlace → Herd → Step → PlaceRead
read_by s place h (Record f next) = let x = effect_of h (entry_of (parts_at s f)) in
    record { effect = x.effect; herd = x.herd; next = next }
read_by s place h Broken = record { effect = Wrong RecordBroken; herd = h; next = place }
read_by s place h End = record { effect = Ends; herd = h; next = place }

unfoldable pub read_at : List ℕ → ReaderPlace → Herd → PlaceRead
read_at s place h = read_by s place h (step_of s place.at)
