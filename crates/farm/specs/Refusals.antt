-- 01, Refusal numbers. The one definition that gives the number and the record of each answer; the promises speak
-- through it. To be believed.
use Rattle.std.specs.Prelude.{ℕ, Err}
use Rattle.farm.specs.declared.Refusal.{Refusal}
use Rattle.farm.specs.declared.Refusal.TheVariants.{
  FileTooLong,
  RecordBroken,
  NotFourFields,
  BadLabel,
  NotInTheList,
  StandardForbidden,
  BadValue,
  EarlierLabel,
  NoRoomForHerd,
  OtherKind,
  GivenAlready,
  InputMissing,
  BufferTooShort,
}
use Rattle.farm.specs.Answers.{Accepted, Checked}

abbrev pub number : Refusal → ℕ
number FileTooLong = 1
number RecordBroken = 2
number NotFourFields = 3
number BadLabel = 4
number NotInTheList = 5
number StandardForbidden = 6
number BadValue = 7
number EarlierLabel = 8
number NoRoomForHerd = 9
number OtherKind = 10
number GivenAlready = 11
number InputMissing = 12
number BufferTooShort = 13

-- what an answer says in 01's numbers: that nothing is wrong; a listing's length; or the refusal's number and the
-- record's
pub data Says : Type 0 where
  accepts : Says
  gives : (listing-length : ℕ) → Says
  refuses : (refusal at_record : ℕ) → Says

abbrev pub says : Checked → Says
says Accepted = accepts
says (Err refused) = refuses (number refused.0) refused.1

-- what the checks of a record that is handed in may say, always with record 0: of a herd
pub data HerdSays : Says → Type 0 where
  fine : HerdSays accepts
  label : HerdSays (refuses 4 0)
  missing : HerdSays (refuses 12 0)
  value : HerdSays (refuses 7 0)

-- and of a farm
pub data FarmSays : Says → Type 0 where
  herd : {s : Says} → HerdSays s → FarmSays s
  earlier : FarmSays (refuses 8 0)
  room : FarmSays (refuses 9 0)
