-- 01, Refusal numbers, over a whole file: 1 before all, then records from the front, in each 2 to 11 in that order,
-- then 12. The first that applies is given; where none does, the farm that the records say. It mirrors the code for its
-- contracts: this is how the reader goes; what it means is said of the records alone in `rules_theorems/specs`, and
-- proved to be the same there.
use Rattle.std.specs.Prelude.{ℕ, ◌+◌, min, Bool, not, ◌&&◌, List, [], ◌∷◌, ◌++◌, length, set, eqb, leb, ltb}
use Rattle.base.specs.Pick.{pick}
use Rattle.base.specs.First.{Test, ◌when◌, first}
use Rattle.base.specs.Refused.{refuse}
use Rattle.grammar.specs.Reading.{Parts, parts_of, Reading, ◌then◌, end, broken, reading_of}
use Rattle.inputs.specs.Inputs.{same_kind}
use Rattle.farm.specs.declared.Herd.{Herd}
use Rattle.farm.specs.declared.Farm.{Farm}
use Rattle.farm.specs.declared.Refusal.{Refusal}
use Rattle.farm.specs.declared.Refusal.TheVariants.{
  FileTooLong,
  RecordBroken,
  EarlierLabel,
  NoRoomForHerd,
  OtherKind,
  GivenAlready,
  InputMissing,
}
use Rattle.farm.specs.Limits.{herds_most}
use Rattle.farm.specs.Labels.{same_label}
use Rattle.farm.specs.Herds.{no_herd, no_farm}
use Rattle.farm.specs.Answers.{Accepted}
use Rattle.limits.specs.declared.Limits.{Limits}
use Rattle.herd_tests.specs.Tests.{earlier_label}
use Rattle.checks.specs.Checks.{herds_of}
use Rattle.records.specs.Entries.{entry_tests, label_in, kind_in, slot_in, given_in}
use Rattle.progress.specs.Herds.{with_input, new_herd, has_input}
use Rattle.next_herd.specs.Farms.{lacking_with}
use Rattle.reader.specs.declared.FileAnswer.{FileAnswer}

abbrev pub refused : ℕ → Refusal → FileAnswer
refused record' refusal = record { checked = refuse refusal record'; farm = no_farm }

abbrev pub accepted : Farm → FileAnswer
accepted f = record { checked = Accepted; farm = f }

-- ---- how far a file is read

-- the herds before the one being read; that one, and the number of its first record, 0 where there is none yet; and of
-- the herds before it, the first record of the first that lacks an input, 0 where none does
pub record Progress : Type 0 where
  pub farm : Farm
  pub herd : Herd
  pub first : ℕ
  pub lacking : ℕ

abbrev pub nothing_read : Progress
nothing_read = record { farm = no_farm; herd = no_herd; first = 0; lacking = 0 }

-- a farm with one herd more
abbrev pub with_herd : Farm → Herd → Farm
with_herd f h = record { herds = set f.herds f.count h; count = f.count + 1 }

abbrev pub lacking_now : Progress → ℕ
lacking_now p = lacking_with p.lacking p.herd p.first

-- the herd being read, where there is one, has all its records
unfoldable pub closed : Progress → Progress
closed p =
    pick (eqb p.first 0) p
    (record { farm = with_herd p.farm p.herd; herd = no_herd; first = 0; lacking = lacking_now p })

-- the record belongs to the herd being read
abbrev pub is_current : Progress → Parts → Bool
is_current p x = same_label p.herd.label (label_in x)

-- ---- one record: 3 to 11, in that order, of a farm that may have `most` herds

unfoldable pub record_tests : ℕ → ℕ → Progress → Parts → List (Test FileAnswer)
record_tests most n p x =
    entry_tests (refused n) x
    ++ (refused n EarlierLabel when (not (is_current p x) && earlier_label (herds_of p.farm) (label_in x))
    ∷ refused n NoRoomForHerd when (not (is_current p x) && leb most (closed p).farm.count)
    ∷ refused n OtherKind when (is_current p x && not (same_kind p.herd.kind (kind_in x)))
    ∷ refused n GivenAlready when (is_current p x && has_input p.herd (slot_in x))
    ∷ [])

-- the record adds to the herd being read, or begins another
unfoldable pub taken : ℕ → Progress → Parts → Progress
taken n p x =
    pick (is_current p x)
    (record {
      farm = p.farm;
      herd = with_input p.herd (slot_in x) (given_in x);
      first = p.first;
      lacking =
          p.lacking;
    })
    (record {
      farm = (closed p).farm;
      herd = new_herd (label_in x) (kind_in x) (slot_in x) (given_in x);
      first = n;
      lacking = (closed p).lacking;
    })

-- ---- the file

-- read through: 12, or the farm
unfoldable pub finished : Progress → FileAnswer
finished p = first (refused (closed p).lacking InputMissing when not (eqb (closed p).lacking 0) ∷ [])
    (accepted (closed p).farm)

-- from record n on, with these records to come; a broken record is 2
unfoldable pub read_from : ℕ → ℕ → Progress → Reading → FileAnswer
read_from most n p end = finished p
read_from most n p broken = refused n RecordBroken
read_from most n p (cs then rest) =
    first (record_tests most n p (parts_of cs)) (read_from most (n + 1) (taken n p (parts_of cs)) rest)

-- how many herds a farm may have: as the limits say, and no more than its record has room for
abbrev pub herds_within : Limits → ℕ
herds_within limits = min limits.herds herds_most

unfoldable pub read_of : Limits → List ℕ → FileAnswer
read_of limits s =
    first (refused 0 FileTooLong when ltb limits.bytes (length s) ∷ [])
    (read_from (herds_within limits) 1 nothing_read (reading_of s))
