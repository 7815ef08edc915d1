-- 01, Refusal numbers: "A public call handed a record in place of a file checks it too, always with record 0. For a
-- herd: 4 bad label, 12 an input missing, 7 one out of range or a `standard` that 6 forbids, in that order. For a farm:
-- 9 more than 64 herds, then herd by herd 4, 8 (label of an earlier herd), 12, 7." 02, W12, puts 512 for the 64: "9
-- when the array or the 512 is full, also where a farm record is checked". To be believed.
use Rattle.std.specs.Prelude.{not, List, [], ◌∷◌, ◌++◌, take, ltb}
use Rattle.base.specs.First.{Test, ◌when◌, first}
use Rattle.base.specs.Refused.{refuse}
use Rattle.farm.specs.declared.Label.{Label}
use Rattle.farm.specs.declared.Herd.{Herd}
use Rattle.farm.specs.declared.Farm.{Farm}
use Rattle.farm.specs.declared.Refusal.TheVariants.{BadLabel, BadValue, EarlierLabel, NoRoomForHerd, InputMissing}
use Rattle.farm.specs.Limits.{herds_most}
use Rattle.farm.specs.Labels.{label_ok}
use Rattle.farm.specs.Answers.{Accepted, Checked}
use Rattle.herd_tests.specs.Tests.{lacks, has_label}
use Rattle.fits.specs.Fits.{unfit}

-- the tests of a herd's inputs, in their order
abbrev pub input_tests : Herd → List (Test Checked)
input_tests h = refuse InputMissing 0 when lacks h ∷ refuse BadValue 0 when unfit h ∷ []

-- of a herd that stands after those with these labels
abbrev pub herd_tests : List Label → Herd → List (Test Checked)
herd_tests earlier h =
    refuse BadLabel 0 when not (label_ok h.label) ∷ refuse EarlierLabel 0 when has_label earlier h.label
    ∷ input_tests h

-- herd by herd
abbrev pub herds_tests : List Label → List Herd → List (Test Checked)
herds_tests earlier [] = []
herds_tests earlier (h ∷ hs) = herd_tests earlier h ++ herds_tests (earlier ++ (h.label ∷ [])) hs

-- a herd by itself: no herd is earlier
unfoldable pub check_herd : Herd → Checked
check_herd h = first (herd_tests [] h) Accepted

-- the herds of a farm
abbrev pub herds_of : Farm → List Herd
herds_of f = take f.count f.herds

-- the tests of a farm
abbrev pub farm_tests : Farm → List (Test Checked)
farm_tests f = refuse NoRoomForHerd 0 when ltb herds_most f.count ∷ herds_tests [] (herds_of f)

unfoldable pub check_farm : Farm → Checked
check_farm f = first (farm_tests f) Accepted
