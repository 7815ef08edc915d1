-- The three lines, by the pieces in which the code puts them. Assumes nothing.
use Prim.Native.Nat.{ℕ, ◌/◌, ◌%◌}
use mathlib.Core.Path.{◌≡◌}
use mathlib.Core.List.{List, ◌++◌, append_assoc}
use Rattle.base.specs.Text.{bytes}
use Rattle.decimal.specs.Writing.{whole_of}
use Rattle.outdoors.specs.declared.Outdoors.{Outdoors}
use Rattle.lines_outdoors.specs.Lines.{outdoors_lines}

-- a text, and a number behind it, four times
regroup : (A a B b C c D d E : List ℕ)
    → (A ++ a) ++ (B ++ b) ++ (C ++ c) ++ (D ++ d) ++ E ≡ A ++ (a ++ (B ++ (b ++ (C ++ ((c ++ (D ++ d)) ++ E)))))
regroup A a B b C c D d E = simp append_assoc

pub outdoors-is : (o : Outdoors)
    → (bytes "grazing_days," ++ whole_of o.grazing_days)
    ++ (bytes "\r\nyard_days," ++ whole_of o.yard_days)
    ++ (bytes "\r\ngrazing_hours," ++ whole_of (o.grazing_hours / 10))
    ++ (bytes "." ++ whole_of (o.grazing_hours % 10))
    ++ bytes "\r\n"
    ≡ outdoors_lines o
unfolding outdoors_lines
outdoors-is o =
    regroup (bytes "grazing_days,") (whole_of o.grazing_days) (bytes "\r\nyard_days,") (whole_of o.yard_days)
    (bytes "\r\ngrazing_hours,")
    (whole_of (o.grazing_hours / 10)) (bytes ".") (whole_of (o.grazing_hours % 10)) (bytes "\r\n")
