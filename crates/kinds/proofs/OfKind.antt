-- Sound inputs that are of a kind are sound as that kind's. Assumes nothing.
use mathlib.Core.Path.{◌≡◌, subst}
use Rattle.kinds.specs.declared.Roughage.{Roughage}
use Rattle.kinds.specs.declared.Cattle.{Cattle}
use Rattle.kinds.specs.declared.Pigs.{Pigs}
use Rattle.kinds.specs.declared.Inputs.{Inputs}
use Rattle.kinds.specs.declared.Inputs.TheVariants as kinds
use Rattle.kinds.specs.Sound.{SoundRoughage, SoundCattle, SoundPigs, Sound, roughage, cattle, pigs}

module _ (i : Inputs) (s : Sound i) where
  pub sound-roughage : (r : Roughage) → i ≡ kinds.Roughage r → SoundRoughage r
  sound-roughage r e = of (subst Sound e s)
    where
      of : Sound (kinds.Roughage r) → SoundRoughage r
      of (roughage h) = h

  pub sound-cattle : (c : Cattle) → i ≡ kinds.Cattle c → SoundCattle c
  sound-cattle c e = of (subst Sound e s)
    where
      of : Sound (kinds.Cattle c) → SoundCattle c
      of (cattle h) = h

  pub sound-pigs : (p : Pigs) → i ≡ kinds.Pigs p → SoundPigs p
  sound-pigs p e = of (subst Sound e s)
    where
      of : Sound (kinds.Pigs p) → SoundPigs p
      of (pigs h) = h

pub ruleset of_kind = (sound-roughage, sound-cattle, sound-pigs)
