-- How far reading came, by cases. Assumes nothing.
use Rattle.std.specs.Prelude.{Ok, Err}
use Prim.Native.Nat.{ℕ}
use mathlib.Core.Path.{◌≡◌, ap, sym, ◌∙◌}
use mathlib.Core.List.{List}
use Rattle.farm.specs.declared.Refusal.{Refusal}
use Rattle.farm.specs.Refusals as farms
use Rattle.farm.specs.Answers.{Accepted}
use Rattle.limits.specs.declared.Source.{Source}
use Rattle.limits.specs.Limits.{limits_of}
use Rattle.reader.specs.declared.FileAnswer.{FileAnswer}
use Rattle.reader.specs.Files.{read_of}
use Rattle.gate_days.specs.declared.LogRefusal.{LogRefusal}
use Rattle.outdoors.specs.declared.Outdoors.{Outdoors}
use Rattle.gate_days.specs.Refusals as gates
use Rattle.gate.specs.Logs.{read_log, LogAnswer}
use Rattle.hints.specs.declared.Input.{Input}
use Rattle.hints.specs.declared.Input.TheVariants.{Farm, Log}
use Rattle.reach.specs.declared.Reach.{Reach}
use Rattle.reach.specs.declared.Reach.TheVariants.{Through}
use Rattle.reach.specs.Reach.{reach_of}
use Rattle.hints.specs.Hint.{checked_reach, answer_reach, farm_reach, log_reach, read_to}
use Rattle.base.specs.declared.refusals.Refused.{Refused}

module _ (source : Source) (s : List ℕ) (a : FileAnswer) (e : a ≡ read_of (limits_of source) s) where
  pub farm-through : a.checked ≡ Accepted → Through ≡ farm_reach source s
  unfolding farm_reach
  farm-through c = ap checked_reach (sym c ∙ ap (λ (x : FileAnswer). x.checked) e)

  pub farm-refused : (why : Refused Refusal) → a.checked ≡ Err why → (k : ℕ) → k ≡ farms.number why.0
      → (r : Reach) → r ≡ reach_of k why.1 → r ≡ farm_reach source s
  unfolding farm_reach
  farm-refused why c k ek r er =
      er ∙ ap (λ (x : ℕ). reach_of x why.1) ek ∙ ap checked_reach (sym c ∙ ap (λ (x : FileAnswer). x.checked) e)

module _ (s : List ℕ) (a : LogAnswer) (e : a ≡ read_log s) where
  pub log-through : (o : Outdoors) → a ≡ Ok o → Through ≡ log_reach s
  unfolding log_reach
  log-through o c = ap answer_reach (sym c ∙ e)

  pub log-refused : (why : Refused LogRefusal) → a ≡ Err why → (k : ℕ) → k ≡ gates.number why.0
      → (r : Reach) → r ≡ reach_of k why.1 → r ≡ log_reach s
  unfolding log_reach
  log-refused why c k ek r er = er ∙ ap (λ (x : ℕ). reach_of x why.1) ek ∙ ap answer_reach (sym c ∙ e)

module _ (i : Input) (s : List ℕ) (r : Reach) where
  pub read-farm : (source : Source) → i ≡ Farm source → r ≡ farm_reach source s → r ≡ read_to i s
  read-farm source e h = rw e h

  pub read-log : i ≡ Log → r ≡ log_reach s → r ≡ read_to i s
  read-log e h = rw e h

pub ruleset reach_steps = (farm-through, farm-refused, log-through, log-refused, read-farm, read-log)
