-- What the checks of a record accept, said without the order of the tests (01, The farm file): a good label, every
-- input of the kind given a value of its form; at most 512 such herds (02, W12), no two with one label.
-- proofs/Accepts.antt shows that the checks accept exactly these. To be believed.
use Rattle.std.specs.Prelude.{◌≤◌, ◌≡◌, true, false, List, [], ◌∷◌}
use Rattle.base.specs.Each.{Each}
use Rattle.inputs.specs.Inputs.{Row, rows_of}
use Rattle.farm.specs.declared.Slot.{Slot}
use Rattle.farm.specs.declared.Herd.{Herd}
use Rattle.farm.specs.declared.Farm.{Farm}
use Rattle.farm.specs.Limits.{herds_most}
use Rattle.farm.specs.Herds.{is_missing}
use Rattle.farm.specs.Labels.{label_ok, same_label}
use Rattle.fits.specs.Fits.{fits}
use Rattle.checks.specs.Checks.{herds_of}

-- each of the inputs has a slot that is not missing and fits its form
pub data Passes : List Row → List Slot → Type 0 where
  none : {slots : List Slot} → Passes [] slots
  next : {row : Row} {rows : List Row} {s : Slot} {slots : List Slot} → is_missing s.given ≡ false
      → fits row.form s.given ≡ true → Passes rows slots → Passes (row ∷ rows) (s ∷ slots)

pub record GoodHerd (h : Herd) : Type 0 where
  pub label : label_ok h.label ≡ true
  pub inputs : Passes (rows_of h.kind) h.slots

-- no herd has the label of one before it
pub data Distinct : List Herd → Type 0 where
  none : Distinct []
  next : {h : Herd} {hs : List Herd} → Each (λ later. same_label h.label later.label ≡ false) hs → Distinct hs
      → Distinct (h ∷ hs)

pub record GoodFarm (f : Farm) : Type 0 where
  pub room : f.count ≤ herds_most
  pub herds : Each GoodHerd (herds_of f)
  pub labels : Distinct (herds_of f)
