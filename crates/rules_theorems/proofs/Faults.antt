-- Refusals by their numbers: which of 3 to 11 apply, told one number after the other. Assumes nothing.
use Prim.Native.Nat.{ℕ, ◌+◌, ◌<◌, ◌≤◌}
use mathlib.Core.Path.{◌≡◌, refl, sym, ap, subst, ◌∙◌}
use mathlib.Core.Bool.{Bool, true, false}
use mathlib.Core.List.{List, [], ◌∷◌}
use native.Mathlib.Omega.{arith}
use lib.Dec.{eqb}
use lib.ListN.{get_or}
use borrow.Author.Tests.{eqb-true, eqb-false}
use Rattle.farm.specs.declared.Refusal.{Refusal}
use Rattle.farm.specs.declared.Refusal.TheVariants.{
  FileTooLong,
  RecordBroken,
  NotFourFields,
  BadLabel,
  NotInTheList,
  StandardForbidden,
  BadValue,
  EarlierLabel,
  NoRoomForHerd,
  OtherKind,
  GivenAlready,
  InputMissing,
  BufferTooShort,
}
use Rattle.farm.specs.Refusals.{number}
use Rattle.limits.specs.declared.Limits.{Limits}
use Rattle.first_refusal.specs.Records.{Record}
use Rattle.rules_theorems.specs.Refusals.{
  Applies,
  not_four_fields,
  bad_label,
  not_in_the_list,
  standard_forbidden,
  bad_value,
  has_earlier_label,
  no_room_for_herd,
  other_kind,
  given_already,
}

-- the refusal of a number
abbrev pub refusal_of : ℕ → Refusal
refusal_of n =
    get_or (
    FileTooLong
    ∷ FileTooLong
    ∷ RecordBroken
    ∷ NotFourFields
    ∷ BadLabel
    ∷ NotInTheList
    ∷ StandardForbidden
    ∷ BadValue
    ∷ EarlierLabel
    ∷ NoRoomForHerd
    ∷ OtherKind
    ∷ GivenAlready
    ∷ InputMissing
    ∷ BufferTooShort
    ∷ []
    )
    n
    FileTooLong

pub of_number : (f : Refusal) → refusal_of (number f) ≡ f
of_number FileTooLong = refl
of_number RecordBroken = refl
of_number NotFourFields = refl
of_number BadLabel = refl
of_number NotInTheList = refl
of_number StandardForbidden = refl
of_number BadValue = refl
of_number EarlierLabel = refl
of_number NoRoomForHerd = refl
of_number OtherKind = refl
of_number GivenAlready = refl
of_number InputMissing = refl
of_number BufferTooShort = refl

pub one-refusal : (f g : Refusal) → number f ≡ number g → f ≡ g
one-refusal f g e = sym (of_number f) ∙ ap refusal_of e ∙ of_number g

pub record Within (f : Refusal) : Type 0 where
  pub low : 3 ≤ number f
  pub high : number f ≤ 11

pub applies-within : {limits : Limits} {before : List Record} {cs : Record} {f : Refusal} → Applies limits before cs f
    → Within f
applies-within (not_four_fields _) = record { low = omega arith; high = omega arith }
applies-within (bad_label _) = record { low = omega arith; high = omega arith }
applies-within (not_in_the_list _) = record { low = omega arith; high = omega arith }
applies-within (standard_forbidden _ _ _) = record { low = omega arith; high = omega arith }
applies-within (bad_value _ _) = record { low = omega arith; high = omega arith }
applies-within (has_earlier_label _ _) = record { low = omega arith; high = omega arith }
applies-within (no_room_for_herd _ _) = record { low = omega arith; high = omega arith }
applies-within (other_kind _ _ _ _ _) = record { low = omega arith; high = omega arith }
applies-within (given_already _ _) = record { low = omega arith; high = omega arith }

-- none of the refusals below a number applies
abbrev pub NoneBelow : Limits → List Record → Record → ℕ → Type 0
NoneBelow limits before cs k = (f : Refusal) → number f < k → Applies limits before cs f → ⊥

module _ {limits : Limits} {before : List Record} {cs : Record} where
  pub none_yet : NoneBelow limits before cs 3
  none_yet f h a = let w = applies-within a in omega arith

  -- nor that of the next
  pub none-next : (k : ℕ) → NoneBelow limits before cs k → (Applies limits before cs (refusal_of k) → ⊥)
      → NoneBelow limits before cs (k + 1)
  none-next k below here f h a = go (eqb (number f) k) refl
    where
      go : (t : Bool) → eqb (number f) k ≡ t → ⊥
      go true e = here (subst (λ (x : Refusal). Applies limits before cs x)
          (sym (of_number f) ∙ ap refusal_of (eqb-true (number f) k e)) a)
      go false e = let n = eqb-false (number f) k e in below f (omega arith) a

  pub none_at_all : NoneBelow limits before cs 12 → (f : Refusal) → Applies limits before cs f → ⊥
  none_at_all below f a = let w = applies-within a in below f (omega arith) a
