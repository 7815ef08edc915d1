-- 02, W11: a removal names the herd by its label alone. The herd that has the label and says nothing else.
use Rattle.farm.specs.declared.Label.{Label}
use Rattle.farm.specs.declared.Herd.{Herd}
use Rattle.farm.specs.Herds.{no_herd}

abbrev pub herd_named : Label → Herd
herd_named l = record { label = l; kind = no_herd.kind; slots = no_herd.slots }
