-- Bounds of figures: a list of facts that computes, section by section, so that no name is written. Assumes nothing.
use Prim.Native.Nat.{ℕ, zero, suc, ◌≤◌}
use mathlib.Core.List.{List, [], ◌∷◌, ◌++◌, map}
use native.Mathlib.Omega.{arith}
use lib.IntN.{ℤ, nat_abs}
use Rattle.amounts.specs.Arithmetic.{Arithmetic, cutting}
use Rattle.outputs.specs.Sections.{FiguresIn}
use Rattle.outputs.specs.Names.{Field, excretion, yard, grazing, housing, pig_house, nx_ox}
use Rattle.outputs.specs.Grams.{grams_at, grams_of, GramsTo}

-- none of these is larger than k
abbrev pub AllTo : ℕ → List ℤ → Type 0
AllTo k [] = Unit {0}
AllTo k (x ∷ g) = (nat_abs x ≤ k) × AllTo k g

-- no figure of a section is
abbrev of : {S : Arithmetic → Type 0} → List (Field S) → S cutting → List ℤ
of {S} fields s = map (λ (x : Field S). x.figure cutting s) fields

abbrev pub SectionTo : {S : Arithmetic → Type 0} → ℕ → List (Field S) → S cutting → Type 0
SectionTo k fields s = AllTo k (of fields s)

all_append : (k : ℕ) (g h : List ℤ) → AllTo k g → AllTo k h → AllTo k (g ++ h)
all_append k [] h p q = q
all_append k (x ∷ g) h p q = (p.0, all_append k g h p.1 q)

all-to : (k : ℕ) (g : List ℤ) → AllTo k g → GramsTo k g
all-to k [] a = record { most = λ n. omega arith }
all-to k (x ∷ g) a = record { most = λ n. go (all-to k g a.1) n }
  where
    go : GramsTo k g → (n : ℕ) → nat_abs (grams_at (x ∷ g) n) ≤ k
    go t zero = a.0
    go t (suc n) = t.most n

-- from those of the sections, those of the herd
pub sections_to : (k : ℕ) (f : FiguresIn cutting) → SectionTo k excretion f.excretion → SectionTo k yard f.yard
    → SectionTo k grazing f.grazing → SectionTo k housing f.housing → SectionTo k pig_house f.pig_house
    → SectionTo k nx_ox f.nx_ox → GramsTo k (grams_of f)
sections_to k f e y g h p x =
    let past-housing = of pig_house f.pig_house ++ of nx_ox f.nx_ox in
    let past-grazing = of housing f.housing ++ past-housing in
    let past-yard = of grazing f.grazing ++ past-grazing in
    let past-excretion = of yard f.yard ++ past-yard in
    all-to k (grams_of f)
    (all_append k (of excretion f.excretion) past-excretion e
    (all_append k (of yard f.yard) past-yard y
    (all_append k (of grazing f.grazing) past-grazing g
    (all_append k (of housing f.housing) past-housing h
    (all_append k (of pig_house f.pig_house) (of nx_ox f.nx_ox) p x)))))
