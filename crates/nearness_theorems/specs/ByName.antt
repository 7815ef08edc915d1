-- Tables by name: an entry stands only where a name is not like the others.
use Rattle.std.specs.Prelude.{ℕ, List, [], ◌∷◌, map, get_or}
use Prim.Native.String.{String}
use lib.Text.{eqt}
use Rattle.base.specs.Pick.{pick}

pub record Entry (X : Type 0) : Type 0 where
  pub name : String
  pub says : X

module _ {X : Type 0} (other : X) where
  -- what is said of a name: its entry, or the same as of the others
  abbrev pub entry_of : List (Entry X) → String → X
  entry_of [] t = other
  entry_of (e ∷ es) t = pick (eqt t e.name) e.says (entry_of es t)

  -- what is said of these names, in their order
  abbrev pub said_of : List (Entry X) → List String → List X
  said_of es names = map (entry_of es) names

  -- by number, and past the last the same as of the others
  abbrev pub said_at : List (Entry X) → List String → ℕ → X
  said_at es names n = get_or (said_of es names) n other
