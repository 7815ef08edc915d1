-- A herd that follows the one being read: how many herds there are, for 9, and which lacks an input, for 12. It mirrors
-- the code for its contracts; what 9 and 12 mean is said of the records in `rules_theorems/specs`, and proved to be the
-- same there.
use Rattle.std.specs.Prelude.{ℕ, ◌+◌, eqb}
use Rattle.base.specs.Pick.{pick}
use Rattle.farm.specs.declared.Herd.{Herd}
use Rattle.herd_tests.specs.Tests.{lacks}

-- of the herds up to the one being read, the first record of the first that lacks an input: `before` where a herd
-- before this one does
abbrev pub lacking_with : ℕ → Herd → ℕ → ℕ
lacking_with before h first' = pick (eqb before 0) (pick (lacks h) first' 0) before

-- how many herds the farm has with the one being read, where there is one
unfoldable pub herds_so_far : ℕ → ℕ → ℕ
herds_so_far count first' = pick (eqb first' 0) count (count + 1)
