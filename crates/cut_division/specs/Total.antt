-- Adding up a list, as 2.1 adds up the herds: one definition for whole figures, signed ones, exact ones and sets of
-- figures.
use Rattle.std.specs.Prelude.{List, [], ◌∷◌, ℕ, ◌+◌, ℤ, pos, ◌+ℤ◌}
use Rattle.cut_division.specs.Frac.{Frac, whole, ◌⊕◌}

-- t and the figure f a of each a of the list, added one by one from the front
abbrev pub add_up : {A T : Type 0} → (T → T → T) → (A → T) → T → List A → T
add_up add f t [] = t
add_up add f t (a ∷ l) = add_up add f (add t (f a)) l

-- the total of whole figures
abbrev pub total : {A : Type 0} → (A → ℕ) → List A → ℕ
total f l = add_up ◌+◌ f 0 l

-- of figures that may be below zero
abbrev pub signed_total : {A : Type 0} → (A → ℤ) → List A → ℤ
signed_total f l = add_up ◌+ℤ◌ f (pos 0) l

-- of exact figures
abbrev pub exact_total : {A : Type 0} → (A → Frac) → List A → Frac
exact_total f l = add_up ◌⊕◌ f (whole 0) l
