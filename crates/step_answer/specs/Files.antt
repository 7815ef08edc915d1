-- A farm's file opened for steps (02, W11): "a farm that .. came from an accepted file", with "the totals worked out
-- afresh". To be believed.
use Rattle.std.specs.Prelude.{ℕ, ◌≡◌, List}
use Rattle.limits.specs.declared.Source.{Source}
use Rattle.limits.specs.Limits.{limits_of}
use Rattle.reader.specs.Files.{read_of}
use Rattle.model.specs.Answers.{farm_answer}
use Rattle.step_answer.specs.declared.files.Opened.{Opened}

pub record Opens (source : Source) (s : List ℕ) (r : Opened) : Type 0 where
  pub checked : r.checked ≡ (read_of (limits_of source) s).checked
  pub farm : r.farm ≡ (read_of (limits_of source) s).farm
  pub totals : r.totals ≡ (farm_answer r.farm).totals
