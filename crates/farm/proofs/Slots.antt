-- A herd has a slot for each input of its kind. Assumes nothing.
use Prim.Native.Nat.{◌≤◌}
use lib.Dec.{lit≤}
use Rattle.inputs.specs.declared.Kind.{Kind}
use Rattle.inputs.specs.declared.Kind.TheVariants.{Roughage, Cattle, Pigs, DairyCow}
use Rattle.inputs.specs.Inputs.{count_of}
use Rattle.farm.specs.Limits.{slots}

pub count_most : (k : Kind) → count_of k ≤ slots
count_most Roughage = lit≤ tt
count_most Cattle = lit≤ tt
count_most Pigs = lit≤ tt
count_most DairyCow = lit≤ tt
