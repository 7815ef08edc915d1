-- A herd by its slots, one for each input of its kind (01, The farm file: "Inputs per kind"): what says nothing in a
-- slot, and a slot, a herd and a farm that say nothing. To be believed.
use Rattle.std.specs.Prelude.{Bool, true, false, replicate}
use Rattle.inputs.specs.declared.Kind.TheVariants.{Roughage}
use Rattle.farm.specs.declared.Given.{Given}
use Rattle.farm.specs.declared.Given.TheVariants.{Missing, Standard, Value, Signed}
use Rattle.farm.specs.declared.Slot.{Slot}
use Rattle.farm.specs.declared.Herd.{Herd}
use Rattle.farm.specs.declared.Farm.{Farm}
use Rattle.farm.specs.Limits.{slots, herds_most}
use Rattle.farm.specs.Labels.{no_label}

abbrev pub is_missing : Given → Bool
is_missing Missing = true
is_missing Standard = false
is_missing (Value v) = false
is_missing (Signed v) = false

abbrev pub no_slot : Slot
no_slot = record { given = Missing }

abbrev pub no_herd : Herd
no_herd = record { label = no_label; kind = Roughage; slots = replicate slots no_slot }

abbrev pub no_farm : Farm
no_farm = record { herds = replicate herds_most no_herd; count = 0 }
