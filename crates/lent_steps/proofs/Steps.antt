-- The herd of a label, and what is told of a step that was done and of one that was refused: each law in the form that
-- a place of src/lib.rt wants. Assumes nothing.
use Rattle.std.specs.Prelude.{Err}
use mathlib.Core.Path.{◌≡◌}
use Rattle.farm.specs.declared.Label.{Label}
use Rattle.farm.specs.declared.Herd.{Herd}
use Rattle.farm.specs.Herds.{no_herd}
use Rattle.books.specs.declared.Book.{Book}
use Rattle.books.specs.declared.StepRefusal.{StepRefusal}
use Rattle.books.specs.declared.Stepped.{Stepped}
use Rattle.books.specs.Rules.{Done}
use Rattle.lent_steps.specs.Named.{herd_named}
use Rattle.lent_steps.specs.Told.{told_of}

pub named_so : (l : Label) (none : Herd) → none ≡ no_herd
    → record { label = l; kind = none.kind; slots = none.slots } ≡ herd_named l
named_so l none e = rw e

module _ (book : Book) (s : Stepped) where
  pub told-done : s.decided ≡ Done
      → record { decided = Done; book = record { count = s.farm.count; totals = s.totals } } ≡ told_of book s
  told-done e = rw e

  pub told-refused : (refusal : StepRefusal) → s.decided ≡ Err refusal
      → record { decided = Err refusal; book = book } ≡ told_of book s
  told-refused refusal e = rw e

pub ruleset calling_steps = (named_so, told-done, told-refused)
