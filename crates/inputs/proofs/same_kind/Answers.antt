-- `inputs::same_kind` meets its contract: kinds are equal where their numbers are. Assumes nothing.
use mathlib.Core.Path.{◌≡◌, refl, ◌∙◌}
use denote.Enum.Bare.{sameb}
use Rattle.inputs.specs.contracts.Kind.{the_type}
use Rattle.inputs.specs.declared.Kind.{Kind}
use Rattle.inputs.specs.declared.Kind.TheVariants.{Roughage, Cattle, Pigs, DairyCow}
use Rattle.inputs.specs.Inputs.{same_kind}
use Rattle.inputs.proofs.same_kind.Goals as goal

same : (a b : Kind) → sameb the_type a b ≡ same_kind a b
same Roughage Roughage = refl
same Roughage Cattle = refl
same Roughage Pigs = refl
same Roughage DairyCow = refl
same Cattle Roughage = refl
same Cattle Cattle = refl
same Cattle Pigs = refl
same Cattle DairyCow = refl
same Pigs Roughage = refl
same Pigs Cattle = refl
same Pigs Pigs = refl
same Pigs DairyCow = refl
same DairyCow Roughage = refl
same DairyCow Cattle = refl
same DairyCow Pigs = refl
same DairyCow DairyCow = refl

pub returns : goal.returns
returns c = c.eq.ensures ∙ same c.args.a c.args.b
