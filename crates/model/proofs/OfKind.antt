-- A record of a kind, and accepted: its typed inputs are those of that kind, and sound as such. Assumes nothing.
use mathlib.Core.Path.{◌≡◌, refl, ap, ◌∙◌}
use Rattle.inputs.specs.declared.Kind.{Kind}
use Rattle.inputs.specs.declared.Kind.TheVariants as kinds
use Rattle.farm.specs.declared.Herd.{Herd}
use Rattle.farm.specs.Answers.{Accepted}
use Rattle.checks.specs.Checks.{check_herd}
use Rattle.kinds.specs.declared.CattleKind.{CattleKind}
use Rattle.kinds.specs.declared.CattleKind.TheVariants.{OtherCattle, DairyCow}
use Rattle.kinds.specs.declared.Inputs.TheVariants as typed
use Rattle.kinds.specs.Sound.{SoundRoughage, SoundCattle, SoundPigs}
use Rattle.kinds.proofs.OfKind.{sound-roughage, sound-cattle, sound-pigs}
use Rattle.typed_inputs.specs.Typed.{roughage_of, kind_of, cattle_of, pigs_of, typed_as, typed_of}
use Rattle.typed_inputs.proofs.Sound.{typed_sound}

module _ (h : Herd) where
  pub typed_roughage : h.kind ≡ kinds.Roughage → typed_of h ≡ typed.Roughage (roughage_of h)
  unfolding typed_of
  typed_roughage k = rw k

  cattle-as : (k : CattleKind) → typed_as (kind_of k) h ≡ typed.Cattle (cattle_of k h)
  cattle-as OtherCattle = refl
  cattle-as DairyCow = refl

  pub typed_cattle : (k : CattleKind) → h.kind ≡ kind_of k → typed_of h ≡ typed.Cattle (cattle_of k h)
  unfolding typed_of
  typed_cattle k e = ap (λ (kind : Kind). typed_as kind h) e ∙ cattle-as k

  pub typed_pigs : h.kind ≡ kinds.Pigs → typed_of h ≡ typed.Pigs (pigs_of h)
  unfolding typed_of
  typed_pigs k = rw k

  module _ (accepted : check_herd h ≡ Accepted) where
    pub roughage-sound : h.kind ≡ kinds.Roughage → SoundRoughage (roughage_of h)
    roughage-sound k = sound-roughage (typed_of h) (typed_sound h accepted) (roughage_of h) (typed_roughage k)

    pub cattle-sound : (k : CattleKind) → h.kind ≡ kind_of k → SoundCattle (cattle_of k h)
    cattle-sound k e = sound-cattle (typed_of h) (typed_sound h accepted) (cattle_of k h) (typed_cattle k e)

    pub pigs-sound : h.kind ≡ kinds.Pigs → SoundPigs (pigs_of h)
    pigs-sound k = sound-pigs (typed_of h) (typed_sound h accepted) (pigs_of h) (typed_pigs k)
