-- The refusal of a text that is no value (01, Refusal numbers): 6 or 7.
use Rattle.farm.specs.declared.Refusal.{Refusal}
use Rattle.farm.specs.declared.Refusal.TheVariants.{StandardForbidden, BadValue}
use Rattle.number_values.specs.declared.ValueFault.{ValueFault}
use Rattle.number_values.specs.declared.ValueFault.TheVariants.{Forbidden, Unfit}

abbrev pub refusal_of : ValueFault → Refusal
refusal_of Forbidden = StandardForbidden
refusal_of Unfit = BadValue
