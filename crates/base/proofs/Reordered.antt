-- What a list in another order keeps: its length, and what holds of each entry. Assumes nothing.
use Prim.Native.Nat.{suc}
use mathlib.Core.Path.{◌≡◌, refl, ap, ◌∙◌}
use mathlib.Core.List.{List, map}
use lib.ListN.{length}
use Rattle.base.specs.Each.{Each, none, more}
use Rattle.base.specs.Reordered.{Reordered, next, swap, chain}

module _ {A : Type 0} where
  pub reordered_back : {l m : List A} → Reordered l m → Reordered m l
  reordered_back Reordered.none = Reordered.none
  reordered_back (next o) = next (reordered_back o)
  reordered_back swap = swap
  reordered_back (chain o p) = chain (reordered_back p) (reordered_back o)

  pub reordered_length : {l m : List A} → Reordered l m → length l ≡ length m
  reordered_length Reordered.none = refl
  reordered_length (next o) = ap suc (reordered_length o)
  reordered_length swap = refl
  reordered_length (chain o p) = reordered_length o ∙ reordered_length p

  pub reordered_map : {B : Type 0} (f : A → B) {l m : List A} → Reordered l m → Reordered (map f l) (map f m)
  reordered_map f Reordered.none = Reordered.none
  reordered_map f (next o) = next (reordered_map f o)
  reordered_map f swap = swap
  reordered_map f (chain o p) = chain (reordered_map f o) (reordered_map f p)

  pub each_reordered : {P : A → Type 0} {l m : List A} → Reordered l m → Each P l → Each P m
  each_reordered Reordered.none none = none
  each_reordered (next o) (more p ps) = more p (each_reordered o ps)
  each_reordered swap (more p (more q ps)) = more q (more p ps)
  each_reordered (chain o r) e = each_reordered r (each_reordered o e)
