-- How the code adds up: a herd's own ammonia, in whole grams. No reader has to believe it.
use Rattle.std.specs.Prelude.{ℕ, ◌≤◌, ◌≡◌, [], ◌∷◌, pos}
use Rattle.farm.specs.declared.Herd.{Herd}
use Rattle.above_line.specs.Line.{livestock}

-- so small that no farm's sum passes 64 bits: three figures, none above 4,000,000,000
abbrev pub own_most : ℕ
own_most = 12000000000

-- the nh3_nlivestock of a farm of this herd alone
pub record Own (h : Herd) (r : ℕ) : Type 0 where
  pub is : pos r ≡ livestock (h ∷ [])
  pub small : r ≤ own_most
