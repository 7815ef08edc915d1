-- Herds and farms that say nothing, from the calls that make their parts. Assumes nothing.
use mathlib.Core.Path.{◌≡◌, ap}
use lib.ListN.{replicate}
use Rattle.inputs.specs.declared.Kind.TheVariants.{Roughage}
use Rattle.farm.specs.declared.Label.{Label}
use Rattle.farm.specs.declared.Herd.{Herd}
use Rattle.farm.specs.declared.Farm.{Farm}
use Rattle.farm.specs.Limits.{slots, herds_most}
use Rattle.farm.specs.Labels.{no_label}
use Rattle.farm.specs.Herds.{no_slot, no_herd, no_farm}

pub herd-none : {l : Label} → l ≡ no_label
    → ◌≡◌ {A = Herd} (record { label = l; kind = Roughage; slots = replicate slots no_slot }) no_herd
herd-none e = rw e

pub farm-none : {h : Herd} → h ≡ no_herd → ◌≡◌ {A = Farm} (record { herds = replicate herds_most h; count = 0 }) no_farm
farm-none e = ap (λ (x : Herd). record { herds = replicate herds_most x; count = 0 }) e

pub ruleset empty_steps = (herd-none, farm-none)
