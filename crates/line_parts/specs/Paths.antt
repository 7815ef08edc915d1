-- The module of a kind of herd, under which its lines stand (01, The farm file; 02, W9). To be believed.
use Prim.Native.String.{String}
use Rattle.inputs.specs.declared.Kind.{Kind}
use Rattle.inputs.specs.declared.Kind.TheVariants.{Roughage, Cattle, Pigs, DairyCow}

abbrev pub path_of : Kind → String
path_of Roughage = "Livestock::RoughageConsuming"
path_of Cattle = "Livestock::OtherCattle"
path_of Pigs = "Livestock::FatteningPigs"
path_of DairyCow = "Livestock::DairyCow"
