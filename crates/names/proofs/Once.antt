-- No list has a name twice. Assumes nothing.
use mathlib.Core.Path.{refl}
use Rattle.base.specs.Part.{same_bytes}
use Rattle.words.specs.Find.{first_from, is_name, find_text}
use Rattle.words.proofs.Places.{Once}
use Rattle.names.specs.declared.ValueList.{ValueList}
use Rattle.names.specs.declared.ValueList.TheVariants.{
  Categories,
  Yards,
  Floors,
  HousingTypes,
  AirScrubbers,
  HousingFloors,
  HousingAirs,
}
use Rattle.names.specs.Names.{names_of}

pub names-once : (names : ValueList) → Once (names_of names)
unfolding find_text first_from is_name same_bytes
names-once Categories = refl
names-once Yards = refl
names-once Floors = refl
names-once HousingTypes = refl
names-once AirScrubbers = refl
names-once HousingFloors = refl
names-once HousingAirs = refl
