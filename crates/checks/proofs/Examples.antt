-- Where `standard` may stand in a record of cattle (02, W9), computed from the definitions: it is a TAN of dairy cows,
-- and none of other cattle, and an N of neither. Assumes nothing.
use mathlib.Core.Path.{◌≡◌, refl}
use mathlib.Core.List.{List, [], ◌∷◌, map}
use lib.IntN.{pos}
use Rattle.base.specs.Text.{bytes}
use Rattle.base.specs.Refused.{refuse}
use Rattle.inputs.specs.declared.Kind.{Kind}
use Rattle.inputs.specs.declared.Kind.TheVariants.{Cattle, DairyCow}
use Rattle.farm.specs.declared.Given.{Given}
use Rattle.farm.specs.declared.Given.TheVariants.{Standard, Value, Signed}
use Rattle.farm.specs.declared.Slot.{Slot}
use Rattle.farm.specs.declared.Herd.{Herd}
use Rattle.farm.specs.declared.Refusal.TheVariants.{BadValue}
use Rattle.farm.specs.Labels.{label_of, byte_ok, label_ok}
use Rattle.farm.specs.Answers.{Accepted}
use Rattle.herd_tests.specs.Tests.{lacks}
use Rattle.fits.specs.Fits.{unfit}
use Rattle.checks.specs.Checks.{check_herd}

-- 10 head without a yard, with these for N and TAN
abbrev cattle : Kind → Given → Given → Herd
cattle kind n tan =
    record {
      label = label_of (bytes "C");
      kind = kind;
      slots = map slot (Value 10 ∷ n ∷ tan ∷ nought ∷ nought ∷ nought ∷ Signed (pos 0) ∷ nought ∷ nought ∷ []);
    }
  where
    slot : Given → Slot
    slot given = record { given = given }

    nought : Given
    nought = Value 0

abbrev herds : List Herd
herds =
    cattle DairyCow (Value 112000) Standard
    ∷ cattle DairyCow (Value 112000) (Value 5500)
    ∷ cattle DairyCow Standard (Value 5500)
    ∷ cattle Cattle (Value 73000) Standard
    ∷ cattle Cattle Standard (Value 6000)
    ∷ []

pub standard_in_record : map check_herd herds
    ≡ Accepted ∷ Accepted ∷ refuse BadValue 0 ∷ refuse BadValue 0 ∷ refuse BadValue 0 ∷ []
unfolding check_herd lacks unfit label_ok label_of byte_ok
standard_in_record = refl
