-- The loop keeps that the tests of the herds from i on, after the first i labels, give what the whole check gives, and
-- that the first i prints are those of these labels. Assumes nothing.
use mathlib.Core.Path.{◌≡◌}
use lib.ListN.{length, take, drop}
use Rattle.base.specs.First.{first}
use Rattle.farm.specs.Limits.{herds_most}
use Rattle.farm.specs.Answers.{Accepted}
use Rattle.herd_tests.specs.Tests.{labels_of, prints_of}
use Rattle.checks.specs.Checks.{herds_tests, herds_of, check_farm}
use Rattle.checks.proofs.check_farm.Given as goal

abbrev pub invariant-loop-i : goal.invariant-loop-i
invariant-loop-i l = (length l.farm.herds ≡ herds_most) × (length l.prints ≡ herds_most)
    × (take l.i l.prints ≡ prints_of (take l.i l.farm.herds))
    × (first (herds_tests (labels_of (take l.i l.farm.herds)) (drop l.i (herds_of l.farm))) Accepted
    ≡ check_farm l.farm)
