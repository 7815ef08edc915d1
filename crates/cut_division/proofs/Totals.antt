-- Totals: how near a sum over a list is to the exact one, and sums of sets of figures part by part. Assumes nothing.
use mathlib.Core.Path.{◌≡◌, refl, sym, ap, subst, ◌∙◌}
use mathlib.Core.List.{List, [], ◌∷◌, map}
use Prim.Native.Nat.{ℕ, ◌+◌, ◌*◌, ◌≤◌}
use native.Mathlib.Omega.{arith}
use lib.ListN.{length}
use lib.IntN.{ℤ, pos, ◌+ℤ◌, +ℤ_assoc, +ℤ_comm, +ℤ_idl, +ℤ_idr}
use Rattle.cut_division.specs.Frac.{Frac, ◌⊕◌, Within}
use Rattle.base.specs.Each.{Each, none, more}
use Rattle.base.specs.Reordered.{Reordered, next, swap, chain}
use Rattle.base.proofs.Each.{each_of}
use Rattle.cut_division.specs.Total.{add_up, total, signed_total, exact_total}
use Rattle.cut_division.proofs.Near.{Near, near-whole, near_add, near_within}

-- ---- a part of a sum of sets of figures is the sum of the parts

module _ {A T S : Type 0} (add_t : T → T → T) (add_s : S → S → S) (part : T → S)
    (splits : (t u : T) → part (add_t t u) ≡ add_s (part t) (part u)) (f : A → T) where
  pub add_up-part : (t : T) (l : List A) → part (add_up add_t f t l) ≡ add_up add_s (λ a. part (f a)) (part t) l
  add_up-part t [] = refl
  add_up-part t (a ∷ l) = add_up-part (add_t t (f a)) l ∙ ap (λ s. add_up add_s (λ b. part (f b)) s l) (splits t (f a))

-- adding up what f makes of a list
module _ {A B T : Type 0} (add : T → T → T) (g : B → T) (f : A → B) where
  pub add_up-map : (t : T) (l : List A) → add_up add g t (map f l) ≡ add_up add (λ a. g (f a)) t l
  add_up-map t [] = refl
  add_up-map t (a ∷ l) = add_up-map (add t (g (f a))) l

-- whole figures, added up as signed ones
pub pos-total : {A : Type 0} (x : A → ℕ) (l : List A) → pos (total x l) ≡ signed_total (λ a. pos (x a)) l
pos-total x l = add_up-part ◌+◌ ◌+ℤ◌ pos (λ t u. refl) x 0 l

-- ---- sums of sums

exchange : (x a y b : ℤ) → (x +ℤ a) +ℤ (y +ℤ b) ≡ (x +ℤ y) +ℤ (a +ℤ b)
exchange x a y b =
    +ℤ_assoc x a (y +ℤ b)
    ∙ ap (λ (w : ℤ). x +ℤ w) (sym (+ℤ_assoc a y b) ∙ ap (λ (w : ℤ). w +ℤ b) (+ℤ_comm a y) ∙ +ℤ_assoc y a b)
    ∙ sym (+ℤ_assoc x y (a +ℤ b))

other_way : (a b : ℤ) → (pos 0 +ℤ a) +ℤ b ≡ (pos 0 +ℤ b) +ℤ a
other_way a b = ap (λ (z : ℤ). z +ℤ b) (+ℤ_idl a) ∙ +ℤ_comm a b ∙ ap (λ (z : ℤ). z +ℤ a) (sym (+ℤ_idl b))

module _ {A : Type 0} where
  -- a sum that starts at t
  from_start : (f : A → ℤ) (t : ℤ) (l : List A) → add_up ◌+ℤ◌ f t l ≡ t +ℤ signed_total f l
  from_start f t [] = sym (+ℤ_idr t)
  from_start f t (a ∷ l) =
      from_start f (t +ℤ f a) l
      ∙ +ℤ_assoc t (f a) (signed_total f l)
      ∙ ap (λ (z : ℤ). t +ℤ z)
      (ap (λ (z : ℤ). z +ℤ signed_total f l) (sym (+ℤ_idl (f a))) ∙ sym (from_start f (pos 0 +ℤ f a) l))

  pub signed_total_cons : (f : A → ℤ) (a : A) (l : List A) → signed_total f (a ∷ l) ≡ f a +ℤ signed_total f l
  signed_total_cons f a l = from_start f (pos 0 +ℤ f a) l ∙ ap (λ (z : ℤ). z +ℤ signed_total f l) (+ℤ_idl (f a))

  signed_total_plus : (f g : A → ℤ) (l : List A)
      → signed_total (λ a. f a +ℤ g a) l ≡ signed_total f l +ℤ signed_total g l
  signed_total_plus f g [] = refl
  signed_total_plus f g (a ∷ l) =
      signed_total_cons (λ b. f b +ℤ g b) a l
      ∙ ap (λ (z : ℤ). (f a +ℤ g a) +ℤ z) (signed_total_plus f g l)
      ∙ exchange (f a) (g a) (signed_total f l) (signed_total g l)
      ∙ ap (λ (z : ℤ). z +ℤ (g a +ℤ signed_total g l)) (sym (signed_total_cons f a l))
      ∙ ap (λ (z : ℤ). signed_total f (a ∷ l) +ℤ z) (sym (signed_total_cons g a l))

  signed_total-zero : (l : List A) → signed_total (λ (a : A). pos 0) l ≡ pos 0
  signed_total-zero [] = refl
  signed_total-zero (a ∷ l) = signed_total-zero l

  -- two rules that agree on each of a list
  pub signed_total-same : {f g : A → ℤ} {l : List A} → Each (λ a. f a ≡ g a) l → signed_total f l ≡ signed_total g l
  signed_total-same none = refl
  signed_total-same {f} {g} (more {a} {l} e es) =
      signed_total_cons f a l ∙ ap (λ (z : ℤ). z +ℤ signed_total f l) e
      ∙ ap (λ (z : ℤ). g a +ℤ z) (signed_total-same es)
      ∙ sym (signed_total_cons g a l)

  -- the order does not count
  pub signed_total_reordered : (f : A → ℤ) {l m : List A} → Reordered l m → signed_total f l ≡ signed_total f m
  signed_total_reordered f Reordered.none = refl
  signed_total_reordered f (next {a} {l} {m} o) =
      signed_total_cons f a l ∙ ap (λ (z : ℤ). f a +ℤ z) (signed_total_reordered f o) ∙ sym (signed_total_cons f a m)
  signed_total_reordered f (swap {a} {b} {l}) = ap (λ (z : ℤ). add_up ◌+ℤ◌ f z l) (other_way (f a) (f b))
  signed_total_reordered f (chain o p) = signed_total_reordered f o ∙ signed_total_reordered f p

-- rows first or columns first
pub signed_total-swap : {A B : Type 0} (f : A → B → ℤ) (xs : List A) (bs : List B)
    → signed_total (λ a. signed_total (f a) bs) xs ≡ signed_total (λ b. signed_total (λ a. f a b) xs) bs
signed_total-swap f [] bs = sym (signed_total-zero bs)
signed_total-swap f (a ∷ xs) bs =
    signed_total_cons (λ b. signed_total (f b) bs) a xs
    ∙ ap (λ (z : ℤ). signed_total (f a) bs +ℤ z) (signed_total-swap f xs bs)
    ∙ sym (signed_total_plus (f a) (λ b. signed_total (λ c. f c b) xs) bs)
    ∙ signed_total-same (each_of (λ b. sym (signed_total_cons (λ c. f c b) a xs)) bs)

-- ---- bounds of sums of whole numbers

module _ {A : Type 0} (f g : A → ℕ) where
  sum_both : (s t : ℕ) (l : List A) → add_up ◌+◌ f s l + add_up ◌+◌ g t l ≡ add_up ◌+◌ (λ a. f a + g a) (s + t) l
  sum_both s t [] = refl
  sum_both s t (a ∷ l) = sum_both (s + f a) (t + g a) l ∙ ap (λ (n : ℕ). add_up ◌+◌ (λ b. f b + g b) n l) (omega arith)

module _ {A : Type 0} (f : A → ℕ) (k : ℕ) where
  sum-most : (s : ℕ) {l : List A} → Each (λ a. f a ≤ k) l → add_up ◌+◌ f s l ≤ s + k * length l
  sum-most s none = omega arith
  sum-most s (more {a} h hs) = let r = sum-most (s + f a) hs in omega arith

-- each at most k: the total at most k for each
pub total-most : {A : Type 0} (f : A → ℕ) (k : ℕ) {l : List A} → Each (λ a. f a ≤ k) l → total f l ≤ k * length l
total-most f k h = let r = sum-most f k 0 h in omega arith

-- each in millionths at most what another has in units: so the totals
module _ {A : Type 0} (f e : A → ℕ) where
  sum-scaled : (s t : ℕ) → s ≤ t * 1000000 → {l : List A} → Each (λ a. f a ≤ e a * 1000000) l
      → add_up ◌+◌ f s l ≤ add_up ◌+◌ e t l * 1000000
  sum-scaled s t k none = k
  sum-scaled s t k (more {a} h hs) = sum-scaled (s + f a) (t + e a) (omega arith) hs

  total-scaled : {l : List A} → Each (λ a. f a ≤ e a * 1000000) l → total f l ≤ total e l * 1000000
  total-scaled h = sum-scaled 0 0 (omega arith) h

-- ---- nearness of a total: the errors add up, each element's own

-- x is at most the total of lo below q, and at most the total of hi above it
pub record TotalNear {A : Type 0} (lo hi : A → ℕ) (l : List A) (x : ℤ) (q : Frac) : Type 0 where
  pub near : Near (total lo l) (total hi l) x q

module _ {A : Type 0} (lo hi : A → ℕ) (x : A → ℤ) (q : A → Frac) where
  near-from : {l₀ h₀ : ℕ} {t : ℤ} {T : Frac} {l : List A} → Near l₀ h₀ t T
      → Each (λ a. Near (lo a) (hi a) (x a) (q a)) l
      → Near (add_up ◌+◌ lo l₀ l) (add_up ◌+◌ hi h₀ l) (add_up ◌+ℤ◌ x t l) (add_up ◌⊕◌ q T l)
  near-from n none = n
  near-from {l₀ = l₀} {h₀ = h₀} {t = t} {T = T} n (more {a = a} {l = l} p ps) =
      near-from {l₀ = l₀ + lo a} {h₀ = h₀ + hi a} {t = t +ℤ x a} {T = T ⊕ q a} (near_add n p) ps

  -- of figures that may be below zero
  pub near-signed-total : {l : List A} → Each (λ a. Near (lo a) (hi a) (x a) (q a)) l
      → TotalNear lo hi l (signed_total x l) (exact_total q l)
  near-signed-total h = record { near = near-from (near-whole 0) h }

-- two totals of one list, added: the errors add up element by element
pub near-total-add : {A : Type 0} {lo₁ hi₁ lo₂ hi₂ : A → ℕ} {l : List A} {x y : ℤ} {q r : Frac}
    → TotalNear lo₁ hi₁ l x q → TotalNear lo₂ hi₂ l y r
    → TotalNear (λ a. lo₁ a + lo₂ a) (λ a. hi₁ a + hi₂ a) l (x +ℤ y) (q ⊕ r)
near-total-add {lo₁} {hi₁} {lo₂} {hi₂} {l} {x} {y} {q} {r} h k =
    record {
      near = subst (λ (n : ℕ). Near n (total (λ a. hi₁ a + hi₂ a) l) (x +ℤ y) (q ⊕ r)) (sum_both lo₁ lo₂ 0 0 l)
          (subst (λ (n : ℕ). Near (total lo₁ l + total lo₂ l) n (x +ℤ y) (q ⊕ r)) (sum_both hi₁ hi₂ 0 0 l)
          (near_add h.near k.near));
    }

-- the end: of each element its own bound
pub total-within : {A : Type 0} (e : A → ℕ) {lo hi : A → ℕ} {l : List A} {x : ℤ} {q : Frac}
    → Each (λ a. lo a ≤ e a * 1000000) l → Each (λ a. hi a ≤ e a * 1000000) l
    → TotalNear lo hi l x q → Within (total e l) x q
total-within e {lo} {hi} {l} kl kh h =
    near_within (total e l) (total-scaled lo e kl) (total-scaled hi e kh) h.near
