-- A step as the program takes it, from the calls that take it and put its answer: the step of src/lib.rt. Assumes
-- nothing.
use Rattle.std.specs.Prelude.{Err}
use Prim.Native.Nat.{ℕ}
use mathlib.Core.Path.{◌≡◌, refl, ap, ◌∙◌}
use mathlib.Core.List.{List}
use native.Mathlib.Omega.{arith}
use lib.ListN.{length, replicate}
use Rattle.base.specs.Wrote.{Wrote}
use Rattle.farm.specs.declared.Herd.{Herd}
use Rattle.farm.specs.declared.Farm.{Farm}
use Rattle.farm.specs.Answers.{Checked}
use Rattle.limits.specs.declared.Source.{Source}
use Rattle.limits.specs.Limits.{limits_of}
use Rattle.reader.specs.declared.FileAnswer.{FileAnswer}
use Rattle.reader.specs.Files.{read_of}
use Rattle.model.specs.declared.FarmAnswer.{FarmAnswer}
use Rattle.model.specs.Answers.{farm_answer}
use Rattle.checks.specs.Checks.{herds_of}
use Rattle.outputs.specs.declared.Totals.{Totals}
use Rattle.books.specs.declared.Step.{Step}
use Rattle.books.specs.declared.Stepped.{Stepped}
use Rattle.books.specs.Rules.{decided_of, Decided, Done}
use Rattle.books.specs.Answers.{StepsTo, stored_herds}
use Rattle.lines_steps.specs.Lines.{step_lines}
use Rattle.step_answer.specs.Files.{Opens}
use Rattle.step_answer.specs.Program.{answer_room, pick_farm, kept_herds, kept_count, Takes}

module _ (f : Farm) (step : Step) (h : Herd) (g : Farm) where
  herds-kept : (d : Decided) → herds_of g ≡ stored_herds d (herds_of f) step h
      → herds_of (pick_farm d f g) ≡ kept_herds d (herds_of f) step h
  herds-kept Done e = e
  herds-kept (Err refusal) e = refl

  count_kept : (d : Decided) → g.count ≡ length (stored_herds d (herds_of f) step h)
      → (pick_farm d f g).count ≡ kept_count d f step h
  count_kept Done e = e
  count_kept (Err refusal) e = refl

pub step-taken : (f : Farm) (room : ℕ) (t : Totals) (step : Step) (h : Herd) (s : Stepped) → StepsTo f room t step h s
    → (g : Farm) → g ≡ pick_farm s.decided f s.farm → {new : List ℕ} {n : ℕ}
    → Wrote (replicate answer_room 0) 0 (step_lines s.decided s.totals) new n
    → Takes f room t step h
    (record { decided = s.decided; farm = g; totals = s.totals; bytes = new; length = n })
step-taken f room t step h s to g e w =
    record {
      decided = to.decided;
      herds = rw (e, to.decided) (herds-kept f step h s.farm (decided_of f room t step h) to.herds);
      count = rw (e, to.decided) (count_kept f step h s.farm (decided_of f room t step h) to.count);
      totals = to.totals;
      put = w.bytes;
      long = w.past ∙ omega arith;
    }

pub file_opened : (source : Source) (s : List ℕ) (a : FileAnswer) → a ≡ read_of (limits_of source) s
    → (b : FarmAnswer) → b ≡ farm_answer a.farm
    → Opens source s (record { checked = a.checked; farm = a.farm; totals = b.totals })
file_opened source s a e b k =
    record { checked = ap checked_of e; farm = ap farm_of e; totals = ap totals_in k }
  where
    checked_of : FileAnswer → Checked
    checked_of x = x.checked

    farm_of : FileAnswer → Farm
    farm_of x = x.farm

    totals_in : FarmAnswer → Totals
    totals_in x = x.totals
