-- What can be said of the entries of a list: that one has a property, that it is the last, that no two are one, and
-- that two lists agree entry by entry. To be believed.
use Rattle.std.specs.Prelude.{◌≡◌, List, [], ◌∷◌}
use Rattle.base.specs.Each.{Each}

-- P holds of one of the list
pub data Some {A : Type 0} (P : A → Type 0) : List A → Type 0 where
  here : {a : A} {l : List A} → P a → Some P (a ∷ l)
  there : {a : A} {l : List A} → Some P l → Some P (a ∷ l)

-- the last of the list
pub data Last {A : Type 0} : List A → A → Type 0 where
  only : {a : A} → Last (a ∷ []) a
  past : {a b : A} {l : List A} → Last l b → Last (a ∷ l) b

-- no two of the list are one
pub data Apart {A : Type 0} : List A → Type 0 where
  none : Apart []
  next : {a : A} {l : List A} → Each (λ b. a ≡ b → ⊥) l → Apart l → Apart (a ∷ l)

-- R holds between each of the one list and its fellow in the other
pub data Pairs {A B : Type 0} (R : A → B → Type 0) : List A → List B → Type 0 where
  none : Pairs R [] []
  more : {a : A} {b : B} {l : List A} {m : List B} → R a b → Pairs R l m → Pairs R (a ∷ l) (b ∷ m)
