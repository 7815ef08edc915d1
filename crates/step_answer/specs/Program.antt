-- A step as the program takes it (02, W11): what is decided of it, the farm's herds and their totals afterwards, and
-- what is printed. "A refused step leaves farm and totals unchanged". To be believed: `Takes`.
use Rattle.std.specs.Prelude.{ℕ, ◌≡◌, List, length, replicate, Err}
use Rattle.std.proofs.lemmas.List.Edits.{sets}
use Rattle.farm.specs.declared.Herd.{Herd}
use Rattle.farm.specs.declared.Farm.{Farm}
use Rattle.checks.specs.Checks.{herds_of}
use Rattle.outputs.specs.declared.Totals.{Totals}
use Rattle.books.specs.declared.Step.{Step}
use Rattle.books.specs.Steps.{herds_after}
use Rattle.books.specs.Rules.{decided_of, Decided, Done}
use Rattle.books.specs.Answers.{stored_totals}
use Rattle.lines_steps.specs.Lines.{step_lines}
use Rattle.step_answer.specs.declared.Taken.{Taken}

-- the herds after a step, and how many the farm counts
abbrev pub kept_herds : Decided → List Herd → Step → Herd → List Herd
kept_herds Done hs step h = herds_after step h hs
kept_herds (Err refusal) hs step h = hs

abbrev pub kept_count : Decided → Farm → Step → Herd → ℕ
kept_count Done f step h = length (herds_after step h (herds_of f))
kept_count (Err refusal) f step h = f.count

-- longer than any answer
abbrev pub answer_room : ℕ
answer_room = 784

pub record Takes (f : Farm) (room : ℕ) (t : Totals) (step : Step) (h : Herd) (r : Taken) : Type 0 where
  pub decided : r.decided ≡ decided_of f room t step h
  pub herds : herds_of r.farm ≡ kept_herds (decided_of f room t step h) (herds_of f) step h
  pub count : r.farm.count ≡ kept_count (decided_of f room t step h) f step h
  pub totals : r.totals ≡ stored_totals (decided_of f room t step h) (herds_of f) t step h
  -- what is printed, before zeros
  pub put : r.bytes ≡ sets (replicate answer_room 0) 0 (step_lines r.decided r.totals)
  pub long : r.length ≡ length (step_lines r.decided r.totals)

-- ---- as the code has it; no reader has to believe it

abbrev pub pick_farm : Decided → Farm → Farm → Farm
pick_farm Done old new = new
pick_farm (Err refusal) old new = old
