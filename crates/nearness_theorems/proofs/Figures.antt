-- A herd's figures, each as near its exact value as was shown: one proof after the other, and one section after the
-- other, in the order of the rows; and all of them read at a number. Assumes nothing.
use Prim.Native.Nat.{ℕ, zero, suc, ◌-◌}
use mathlib.Core.List.{List, [], ◌∷◌, ◌++◌, map}
use lib.ListN.{length, get_or, replicate}
use lib.IntN.{ℤ, pos}
use Rattle.cut_division.specs.Frac.{Frac, whole}
use Rattle.cut_division.proofs.Near.{Near, near-whole}
use Rattle.amounts.specs.Arithmetic.{Arithmetic, cutting}
use Rattle.yard.specs.Yard.{no_yard}
use Rattle.housing.specs.Housing.{through_door}
use Rattle.pig_house.specs.PigHouse.{no_pig_house}
use Rattle.pig_house.specs.NxOx.{no_nx_ox}
use Rattle.outputs.specs.Sections.{FiguresIn}
use Rattle.outputs.specs.Names.{Field, yard, housing, pig_house, nx_ox, figures, texts}
use Rattle.outputs.specs.Grams.{grams_of, grams_at}
use Rattle.nearness_theorems.specs.ByName.{Entry, said_at}
use Rattle.nearness_theorems.specs.Errors.{Errors, exactly}
use Rattle.nearness_theorems.specs.Exact.{exact}
use Rattle.nearness_theorems.proofs.Laws.{NearBy}

infixr 50 ◌then◌
pub data NearAll : List ℤ → List Frac → Type 0 where
  end : NearAll [] []
  ◌then◌ : {lo hi : ℕ} {x : ℤ} {q : Frac} {xs : List ℤ} {qs : List Frac}
      → Near lo hi x q → NearAll xs qs → NearAll (x ∷ xs) (q ∷ qs)

-- the errors that were shown
abbrev pub shown : {xs : List ℤ} {qs : List Frac} → NearAll xs qs → List Errors
shown end = []
shown (◌then◌ {lo} {hi} h hs) = record { below = lo; above = hi } ∷ shown hs

-- every number, those past the last too
pub near-at : {xs : List ℤ} {qs : List Frac} (l : NearAll xs qs) (n : ℕ)
    → NearBy (get_or (shown l) n exactly) (grams_at xs n) (get_or qs n (whole 0))
near-at end n = near-whole 0
near-at (h then hs) zero = h
near-at (h then hs) (suc n) = near-at hs n

-- a herd's figures are as near as a table of errors says
abbrev pub NearFigures : List (Entry Errors) → FiguresIn cutting → FiguresIn exact → Type 0
NearFigures es f f' =
    (n : ℕ) → NearBy (said_at exactly es texts n) (grams_at (grams_of f) n) (get_or (figures exact f') n (whole 0))

-- ---- sections

abbrev pub NearSection : {S : Arithmetic → Type 0} → List (Field S) → S cutting → S exact → Type 0
NearSection {S} fields s s' =
    NearAll (map (λ (x : Field S). x.figure cutting s) fields) (map (λ (x : Field S). x.figure exact s') fields)

-- one before the others, as `then` puts one figure before the others
infixr 40 ◌and◌
abbrev pub ◌and◌ : {xs ys : List ℤ} {qs rs : List Frac} → NearAll xs qs → NearAll ys rs → NearAll (xs ++ ys) (qs ++ rs)
end and l = l
(h then hs) and l = h then (hs and l)

-- figures that a kind of herd does not have are 0
abbrev nothing : (k : ℕ) → NearAll (replicate k (pos 0)) (replicate k (whole 0))
nothing zero = end
nothing (suc k) = near-whole 0 then nothing k

abbrev pub near-no-yard : NearSection yard (no_yard cutting) (no_yard exact)
near-no-yard = nothing (length yard)

abbrev pub near-no-pig_house : NearSection pig_house (no_pig_house cutting) (no_pig_house exact)
near-no-pig_house = nothing (length pig_house)

abbrev pub near-no_nx_ox : NearSection nx_ox (no_nx_ox cutting) (no_nx_ox exact)
near-no_nx_ox = nothing (length nx_ox)

-- of the housing only what goes through the door
abbrev pub near_door : {lo hi lo' hi' n tan : ℕ} {N TAN : Frac} → Near lo hi (pos n) N → Near lo' hi' (pos tan) TAN
    → NearSection housing (through_door cutting n tan) (through_door exact N TAN)
near_door n tan = n then tan then nothing (length housing - 2)
