-- 01's table of refusals, a second time and by count: the thirteen faults in its order, its words beside each, have the
-- numbers 1 to 13. Assumes nothing.
use mathlib.Core.Path.{◌≡◌, refl}
use mathlib.Core.List.{List, [], ◌∷◌, map}
use Rattle.farm.specs.declared.Refusal.{Refusal}
use Rattle.farm.specs.declared.Refusal.TheVariants.{
  FileTooLong,
  RecordBroken,
  NotFourFields,
  BadLabel,
  NotInTheList,
  StandardForbidden,
  BadValue,
  EarlierLabel,
  NoRoomForHerd,
  OtherKind,
  GivenAlready,
  InputMissing,
  BufferTooShort,
}
use Rattle.farm.specs.Refusals.{number}

abbrev faults : List Refusal
faults =
    FileTooLong  -- "file over 65,536 bytes"
    ∷ RecordBroken  -- "record breaks RFC 4180 as above"
    ∷ NotFourFields  -- "not four fields (an empty line has one)"
    ∷ BadLabel  -- "bad label"
    ∷ NotInTheList  -- "module and input name not in the list"
    ∷ StandardForbidden  -- "`standard` as inp_n_excretion or tan_fraction of cattle or pigs"
    ∷ BadValue  -- "value unreadable or out of range"
    ∷ EarlierLabel  -- "label of an earlier herd, not the current one"
    ∷ NoRoomForHerd  -- "a new label after 64 herds"
    ∷ OtherKind  -- "record of another kind than its herd"
    ∷ GivenAlready  -- "input given already in this herd"
    ∷ InputMissing  -- "file read through, a herd lacks an input"
    ∷ BufferTooShort  -- "lent buffer shorter than the listing"
    ∷ []

pub numbered : map number faults ≡ 1 ∷ 2 ∷ 3 ∷ 4 ∷ 5 ∷ 6 ∷ 7 ∷ 8 ∷ 9 ∷ 10 ∷ 11 ∷ 12 ∷ 13 ∷ []
numbered = refl
