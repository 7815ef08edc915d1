-- The steps of `byte_ok`, `label_ok`, `same_label` and `label_of`, each in the form that a place of the code wants.
-- Assumes nothing.
use Prim.Native.Nat.{ℕ, zero, suc, ◌+◌, ◌-◌, ◌≤◌, ◌<◌}
use mathlib.Core.Path.{◌≡◌, refl, sym, ap, ◌∙◌}
use mathlib.Core.Bool.{Bool, true, false, not, ◌&&◌}
use mathlib.Core.List.{List, [], ◌∷◌, ◌++◌}
use mathlib.Core.Logic.{◌⊎◌, inl, inr}
use native.Mathlib.Omega.{arith}
use lib.Dec.{eqb, lit≤}
use lib.ListN.{length, get_or, take, set, replicate, length-take}
use lib.Seq.{length-take-le, sets}
use borrow.Author.Tests.{lt-leb, le-leb, eq-eqb, ne_eqb}
use Rattle.std.specs.List.{list_all}
use Rattle.base.specs.Pick.{pick}
use Rattle.base.specs.Part.{part, same_bytes}
use Rattle.base.specs.Wrote.{Wrote}
use Rattle.farm.specs.declared.Label.{Label}
use Rattle.farm.specs.Limits.{label_most}
use Rattle.farm.specs.Labels.{byte_ok, all_ok, text, label_ok, same_label, label_of}
use Rattle.farm.proofs.Left.{taken-last}

-- ---- a byte

module _ (b : ℕ) where
  pub byte_in : 32 ≤ b → b ≤ 126 → not (eqb b 34) ≡ byte_ok b
  unfolding byte_ok
  byte_in low high = simp (le-leb 32 b low, le-leb b 126 high)

  pub byte_out : (32 ≤ b × 126 < b) ⊎ (b < 32) → false ≡ byte_ok b
  unfolding byte_ok
  byte_out (inl h) = simp (le-leb 32 b h.0, lt-leb b 126 h.1)
  byte_out (inr h) = simp (lt-leb 32 b h)

-- ---- a label

all_bytes : (s : List ℕ) → list_all byte_ok s ≡ all_ok s
all_bytes [] = refl
all_bytes (b ∷ s) = ap (λ (t : Bool). byte_ok b && t) (all_bytes s)

module _ (l : Label) where
  pub label_in : 1 ≤ l.len → l.len ≤ label_most → {r : Bool} → r ≡ list_all byte_ok (text l) → r ≡ label_ok l
  unfolding label_ok
  label_in some room e = simp (le-leb 1 l.len some, le-leb l.len label_most room) (e ∙ all_bytes (text l))

  pub label_out : (1 ≤ l.len × label_most < l.len) ⊎ (l.len < 1) → false ≡ label_ok l
  unfolding label_ok
  label_out (inl h) = simp (le-leb 1 l.len h.0, lt-leb l.len label_most h.1)
  label_out (inr h) = simp (lt-leb 1 l.len h)

-- ---- two labels

-- texts of one length are the same exactly where the last bytes are and what stands before them is
same-last : (a b : List ℕ) (x y : ℕ) → length a ≡ length b
    → same_bytes (a ++ (x ∷ [])) (b ++ (y ∷ [])) ≡ pick (eqb x y) (same_bytes a b) false
unfolding same_bytes
same-last [] [] x y l = refl
same-last [] (v ∷ b) x y l = absurd (omega arith)
same-last (u ∷ a) [] x y l = absurd (omega arith)
same-last (u ∷ a) (v ∷ b) x y l = ap (λ (t : Bool). pick (eqb u v) t false) (same-last a b x y (omega arith))
    ∙ go (eqb u v) (eqb x y)
  where
    go : (s t : Bool) → pick s (pick t (same_bytes a b) false) false ≡ pick t (pick s (same_bytes a b) false) false
    go true t = refl
    go false true = refl
    go false false = refl

module _ (a b : Label) where
  pub same_start : a.len ≡ b.len → a.len ≤ label_most
      → same_bytes (take a.len a.bytes) (take a.len b.bytes) ≡ same_label a b
  unfolding same_label
  same_start l room = rw (eq-eqb a.len b.len l, le-leb a.len label_most room, ← l)

  pub labels_other : (a.len ≡ b.len × label_most < a.len) ⊎ (a.len ≡ b.len → ⊥) → false ≡ same_label a b
  unfolding same_label
  labels_other (inl h) = simp (eq-eqb a.len b.len h.0, lt-leb a.len label_most h.1)
  labels_other (inr n) = simp (ne_eqb a.len b.len n)

  -- all bytes from i on were the same
  module _ (i : ℕ) (inv : same_bytes (take i a.bytes) (take i b.bytes) ≡ same_label a b) where
    module _ (long : length a.bytes ≡ label_most) (long' : length b.bytes ≡ label_most) (h : 0 < i)
        (room : i ≤ label_most) where
      next-same : pick (eqb (get_or a.bytes (i - 1) 0) (get_or b.bytes (i - 1) 0))
          (same_bytes (take (i - 1) a.bytes) (take (i - 1) b.bytes)) false ≡ same_label a b
      next-same =
          let s : take i a.bytes ≡ take (i - 1) a.bytes ++ (get_or a.bytes (i - 1) 0 ∷ []) =
          taken-last a.bytes i 0 h (omega arith) in
          let t : take i b.bytes ≡ take (i - 1) b.bytes ++ (get_or b.bytes (i - 1) 0 ∷ []) =
          taken-last b.bytes i 0 h (omega arith) in
          let k = length-take-le (i - 1) a.bytes (omega arith) in
          let k' = length-take-le (i - 1) b.bytes (omega arith) in
          sym (same-last (take (i - 1) a.bytes) (take (i - 1) b.bytes) _ _ (k ∙ sym k')) ∙ (rw (s, t) at inv)

      pub byte-other : (get_or a.bytes (i - 1) 0 ≡ get_or b.bytes (i - 1) 0 → ⊥) → false ≡ same_label a b
      byte-other n = sym (rw (ne_eqb _ _ n)) ∙ next-same

      pub byte-same : get_or a.bytes (i - 1) 0 ≡ get_or b.bytes (i - 1) 0
          → same_bytes (take (i - 1) a.bytes) (take (i - 1) b.bytes) ≡ same_label a b
      byte-same e = sym (rw (eq-eqb _ _ e)) ∙ next-same

    pub bytes_same : i ≤ 0 → true ≡ same_label a b
    unfolding same_bytes
    bytes_same h = let z : i ≡ 0 = omega arith in rw z at inv

pub ruleset same_label_steps = (labels_other, same_start, byte-other, byte-same, bytes_same)

-- ---- the label that a text is: a text stored over zeros is the text with zeros behind it

sets-past : (b : ℕ) (l : List ℕ) (i : ℕ) (vs : List ℕ) → sets (b ∷ l) (suc i) vs ≡ b ∷ sets l i vs
sets-past b l i [] = refl
sets-past b l i (v ∷ vs) = sets-past b (set l i v) (suc i) vs

zeros : (n m : ℕ) → n ≤ m → replicate {A = ℕ} n 0 ≡ take n (replicate m 0)
zeros zero m h = refl
zeros (suc n) zero h = absurd (omega arith)
zeros (suc n) (suc m) h = ap (λ (l : List ℕ). 0 ∷ l) (zeros n m (omega arith))

padded : (n m : ℕ) (s : List ℕ) → n ≤ m → sets (replicate n 0) 0 (take n s) ≡ take n (s ++ replicate m 0)
padded zero m s h = refl
padded (suc n) m [] h = zeros (suc n) m h
padded (suc n) m (b ∷ s) h = sets-past b (replicate n 0) 0 (take n s)
    ∙ ap (λ (l : List ℕ). b ∷ l) (padded n m s (omega arith))

module _ (s : List ℕ) {p : List ℕ} (q : p ≡ part s 0 label_most) where
  pub label-fits : 0 + length p ≤ label_most
  unfolding part
  label-fits = omega (arith, length-take label_most s, ap length q)

  pub label-written : {b : List ℕ} {n : ℕ} → Wrote (replicate label_most 0) 0 p b n
      → record { bytes = b; len = length s } ≡ label_of s
  unfolding part label_of
  label-written w =
      let e = w.bytes ∙ ap (sets (replicate label_most 0) 0) q ∙ padded label_most label_most s (lit≤ tt) in
      cc

pub ruleset label_of_steps = (label-fits, label-written)
