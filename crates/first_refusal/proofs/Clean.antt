-- Records to none of which a refusal applies, each taken behind those before it. Assumes nothing.
use mathlib.Core.Path.{◌≡◌, refl, ap}
use mathlib.Core.List.{List, [], ◌∷◌, ◌++◌}
use native.Mathlib.Omega.{arith}
use lib.ListN.{length, length-append}

-- where an entry stands in a list with one more at its end
data Splits {A : Type 0} (rs : List A) (cs : A) (a : List A) (c : A) : Type 0 where
  at-end : rs ≡ a → cs ≡ c → Splits rs cs a c
  within : (b : List A) → rs ≡ a ++ (c ∷ b) → Splits rs cs a c

not_nil : {A R : Type 0} (a : List A) (c : A) (b : List A) → [] ≡ a ++ (c ∷ b) → R
not_nil a c b e = absurd (omega (arith, ap length e, length-append a (c ∷ b)))

splits : {A : Type 0} (rs : List A) (cs : A) (a : List A) (c : A) (b : List A) → rs ++ (cs ∷ []) ≡ a ++ (c ∷ b)
    → Splits rs cs a c
splits [] cs [] c b e = at-end refl (cc)
splits [] cs (x ∷ a) c b e = let d : [] ≡ a ++ (c ∷ b) = cc in not_nil a c b d
splits {A} (y ∷ rs) cs [] c b e = let d : y ≡ c = cc in within rs (ap (λ (x : A). x ∷ rs) d)
splits {A} (y ∷ rs) cs (x ∷ a) c b e = go (splits rs cs a c b (cc))
  where
    go : Splits rs cs a c → Splits (y ∷ rs) cs (x ∷ a) c
    go (at-end p q) = let d : y ≡ x = cc in at-end (cc) q
    go (within b' p) = let d : y ≡ x = cc in within b' (cc)

module _ {A F : Type 0} (Applies : List A → A → F → Type 0) where
  abbrev pub CleanOf : List A → Type 0
  CleanOf rs = (a : List A) (c : A) (b : List A) → rs ≡ a ++ (c ∷ b) → (f : F) → Applies a c f → ⊥

  pub clean_none : CleanOf []
  clean_none a c b e = not_nil a c b e

  pub clean_last : (rs : List A) (cs : A) → CleanOf rs → ((f : F) → Applies rs cs f → ⊥) → CleanOf (rs ++ (cs ∷ []))
  clean_last rs cs clean none a c b e f x = go (splits rs cs a c b e)
    where
      go : Splits rs cs a c → ⊥
      go (at-end p q) = none f (rw (p, q) x)
      go (within b' p) = clean a c b' p f x
