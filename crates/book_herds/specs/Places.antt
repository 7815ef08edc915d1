-- Herds by their place in a list: the place of the first herd of a label, and the herds without the one at a place. It
-- mirrors the code for its contracts; what a step makes of a farm's herds is said by the label, in crate `books`.
use Rattle.std.specs.Prelude.{ℕ, suc, ◌+◌, ◌≡◌, List, [], ◌∷◌, ◌++◌, length, take, drop}
use Rattle.base.specs.Pick.{pick}
use Rattle.farm.specs.declared.Label.{Label}
use Rattle.farm.specs.declared.Herd.{Herd}
use Rattle.farm.specs.declared.Farm.{Farm}
use Rattle.farm.specs.Labels.{same_label}
use Rattle.checks.specs.Checks.{herds_of}

-- where none has the label, the length
unfoldable pub place_of : List Herd → Label → ℕ
place_of [] l = 0
place_of (x ∷ xs) l = pick (same_label x.label l) 0 (suc (place_of xs l))

abbrev pub without : ℕ → List Herd → List Herd
without place hs = take place hs ++ drop (place + 1) hs

-- the farm has these herds and no other
pub record HerdsAre (hs : List Herd) (f : Farm) : Type 0 where
  pub herds : herds_of f ≡ hs
  pub count : f.count ≡ length hs
