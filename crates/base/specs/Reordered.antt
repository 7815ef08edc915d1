-- One list in another order.
use Rattle.std.specs.Prelude.{List, [], ◌∷◌}

-- the entries of the one are those of the other: two neighbours change places, as often as it takes
pub data Reordered {A : Type 0} : List A → List A → Type 0 where
  none : Reordered [] []
  next : {a : A} {l m : List A} → Reordered l m → Reordered (a ∷ l) (a ∷ m)
  swap : {a b : A} {l : List A} → Reordered (a ∷ b ∷ l) (b ∷ a ∷ l)
  chain : {l m n : List A} → Reordered l m → Reordered m n → Reordered l n
