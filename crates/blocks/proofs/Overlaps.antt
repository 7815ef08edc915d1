-- A text copied block by block: a block that overlaps what was written before it writes the same bytes there. Assumes
-- nothing.
use Prim.Native.Nat.{ℕ, suc, ◌+◌, ◌-◌, ◌≤◌, ◌<◌}
use mathlib.Core.Path.{◌≡◌, refl, ap, ◌∙◌}
use mathlib.Core.List.{List, [], ◌∷◌, ◌++◌}
use native.Mathlib.Omega.{arith}
use lib.ListN.{length, take, drop, set, length-append, length-drop}
use lib.Seq.{sets, set-set, set_comm, take-add, take-length, length-take-le}
use Rattle.base.specs.Part.{part}
use Rattle.base.specs.Wrote.{Wrote}
use Rattle.base.proofs.Writes.{sets_join, wrote_as}
use Rattle.blocks.specs.Blocks.{block}

set_before : (l : List ℕ) (i j v : ℕ) (a : List ℕ) → i < j → set (sets l j a) i v ≡ sets (set l i v) j a
set_before l i j v [] h = refl
set_before l i j v (x ∷ a) h =
    set_before (set l j x) i (suc j) v a (omega arith)
    ∙ ap (λ (m : List ℕ). sets m (suc j) a) (set_comm l j i x v (λ e. omega arith))

-- of two runs from one place on the second is left, where it is not the shorter
sets_over : (l : List ℕ) (i : ℕ) (a b : List ℕ) → length a ≤ length b → sets (sets l i a) i b ≡ sets l i b
sets_over l i [] b h = refl
sets_over l i (x ∷ a) [] h = absurd (omega arith)
sets_over l i (x ∷ a) (y ∷ b) h =
    ap (λ (m : List ℕ). sets m (suc i) b)
    (set_before (set l i x) i (suc i) y a (omega arith) ∙ ap (λ (m : List ℕ). sets m (suc i) a) (set-set l i x y))
    ∙ sets_over (set l i y) (suc i) a b (omega arith)

-- c over b
wrote-over : {old mid new : List ℕ} {at k p q : ℕ} (a b c : List ℕ) → Wrote old at (a ++ b) mid p
    → Wrote mid (at + k) c new q
    → length a ≡ k → length b ≤ length c → Wrote old at (a ++ c) new q
wrote-over {old} {mid} {new} {at} {k} {p} {q} a b c v w n h =
    record {
      bytes = w.bytes ∙ rw (v.bytes, ← n, ← sets_join old at a b, sets_over (sets old at a) (at + length a) b c h)
          (sets_join old at a c);
      past = omega (arith, w.past, length-append a c);
    }

-- of a text j bytes were written, and then the block from k on
block-put : (t : List ℕ) (j k : ℕ) {old mid new : List ℕ} {at p q : ℕ} → Wrote old at (take j t) mid p
    → Wrote mid (at + k) (part t k (k + block)) new q
    → k ≤ j → j ≤ k + block → k + block ≤ length t → Wrote old at (take (k + block) t) new q
unfolding part
block-put t j k {old} {mid} {new} {at} {p} {q} v w h g f =
    let i : j ≡ k + (j - k) = omega arith in
    let b : k + block - k ≡ block = omega arith in
    let n = length-take-le (j - k) (drop k t) (omega (arith, length-drop k t)) in
    let m = length-take-le block (drop k t) (omega (arith, length-drop k t)) in
    rw (take-add k block t)
    (wrote-over (take k t) (take (j - k) (drop k t)) (take block (drop k t))
    (wrote_as (ap (λ (x : ℕ). take x t) i ∙ take-add k (j - k) t) v)
    (wrote_as (ap (λ (x : ℕ). take x (drop k t)) b) w)
    (length-take-le k t (omega arith))
    (omega arith))

-- a text in two blocks and in three, of which the last ends where the text ends
module _ (t old mid : List ℕ) (at p : ℕ) (first : Wrote old at (part t 0 (0 + block)) mid p)
    (long : block ≤ length t) where
  abbrev last : ℕ
  last = length t - block

  first-put : Wrote old at (take block t) mid p
  unfolding part
  first-put = first

  last-put : (j : ℕ) {more new : List ℕ} {q r : ℕ} → Wrote old at (take j t) more q
      → Wrote more (at + last) (part t last (last + block)) new r
      → last ≤ j → j ≤ length t → Wrote old at t new r
  last-put j v w h g =
      let e : last + block ≡ length t = omega arith in
      wrote_as (ap (λ (x : ℕ). take x t) e ∙ take-length t) (block-put t j last v w h (omega arith) (omega arith))

  pub in_two : (new : List ℕ) (r : ℕ) → Wrote mid (at + last) (part t last (last + block)) new r → last ≤ block
      → Wrote old at t new r
  in_two new r w h = last-put block first-put w h long

  pub in_three : (more new : List ℕ) (q r : ℕ) → Wrote mid (at + block) (part t block (block + block)) more q
      → Wrote more (at + last) (part t last (last + block)) new r → block < last → last ≤ block + block
      → Wrote old at t new r
  in_three more new q r v w h g =
      last-put (block + block) (block-put t block block first-put v (omega arith) (omega arith) (omega arith)) w g
      (omega arith)

pub ruleset block_steps = (in_two, in_three)
