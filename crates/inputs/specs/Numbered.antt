-- A row of the list as the code keeps it: its name by its place among the input names.
use Rattle.words.specs.Find.{input_names, place_in}
use Rattle.inputs.specs.declared.Input.{Input}
use Rattle.inputs.specs.Inputs.{Row}

abbrev pub numbered : Row → Input
numbered row = record { 0 = place_in input_names row.name; 1 = row.form }
