-- One step of each scan of `specs/Places.antt`, at a position of the file. Each lemma has the form that a loop's proof
-- wants: X is what is sought, a premise says that the bytes from the position on give it, and the conclusion is what
-- the code does there. `stopped` ties the place where an unquoted field's text ends to how the field ends. Assumes
-- nothing.
use Prim.Native.Nat.{ℕ, zero, suc, ◌+◌, ◌-◌, ◌<◌, ◌≤◌}
use mathlib.Core.List.{List}
use mathlib.Core.Bool.{Bool, true, false, true≢false}
use mathlib.Core.Path.{◌≡◌, refl, sym, ap, ◌∙◌}
use lib.ListN.{length, get_or, drop}
use Rattle.std.proofs.Common.{inl, inr}
use mathlib.Core.Logic.{◌⊎◌}
use lib.Dec.{eqb}
use native.Mathlib.Omega.{arith}
use borrow.Author.Tests.{ne_eqb}
use Rattle.base.specs.Pick.{pick}
use Rattle.base.proofs.Rest.{rest_at, rest_end}
use Rattle.grammar.specs.Grammar.{comma, quote, cr, lf}
use Rattle.plain_fields.specs.declared.Place.{Place}
use Rattle.plain_fields.specs.declared.FieldEnd.{FieldEnd}
use Rattle.plain_fields.specs.declared.FieldEnd.TheVariants.{Comma, Crlf, File, Broken}
use Rattle.plain_fields.specs.Places.{place, line_from, ends_plain, plain_stop, plain_from}

-- past a CR
module _ (s : List ℕ) (p : Place) (n j : ℕ) where
  pub line-lf : j < length s → get_or s j 0 ≡ lf → Crlf p n ≡ line_from p n (drop j s)
  unfolding line_from
  line-lf h e = simp (rest_at s j h, line_from, e)

  pub line_other : j < length s → (get_or s j 0 ≡ lf → ⊥) → Broken ≡ line_from p n (drop j s)
  unfolding line_from
  line_other h e = simp (rest_at s j h, line_from, ne_eqb _ _ e)

  pub line-none : length s ≤ j → Broken ≡ line_from p n (drop j s)
  unfolding line_from
  line-none h = simp (rest_end s j h, line_from)

pub ruleset line_steps = (line-lf, line_other, line-none)

-- whether a byte ends an unquoted field
module _ (b : ℕ) where
  ends_above : comma < b → ends_plain b ≡ false
  unfolding ends_plain
  ends_above h = simp (
    ne_eqb b comma (λ e. omega arith),
    ne_eqb b cr (λ e. omega arith),
    ne_eqb b lf (λ e. omega arith),
    ne_eqb b quote (λ e. omega arith),
  )

  pub ends-one : (b ≡ lf) ⊎ ((b ≡ cr) ⊎ ((b ≡ quote) ⊎ (b ≡ comma))) → true ≡ ends_plain b
  unfolding ends_plain
  ends-one (inl e) = rw e refl
  ends-one (inr (inl e)) = rw e refl
  ends-one (inr (inr (inl e))) = rw e refl
  ends-one (inr (inr (inr e))) = rw e refl

  pub ends-none : (b ≡ comma → ⊥) → (b ≡ cr → ⊥) → (b ≡ lf → ⊥) → (b ≡ quote → ⊥) → false ≡ ends_plain b
  unfolding ends_plain
  ends-none n1 n2 n3 n4 = simp (ne_eqb _ _ n1, ne_eqb _ _ n2, ne_eqb _ _ n3, ne_eqb _ _ n4)

  -- a byte of text is none that ends the field
  text-not : (k : ℕ) → ends_plain k ≡ true → ends_plain b ≡ false → b ≡ k → ⊥
  text-not k y n e = true≢false (sym y ∙ ap ends_plain (sym e) ∙ n)

-- where an unquoted field's text ends
module _ (s : List ℕ) (i X : ℕ) (inv : plain_stop i (drop i s) ≡ X) where
  pub stop-end : length s ≤ i → i ≡ X
  unfolding plain_stop
  stop-end h = simp (rest_end s i h, plain_stop) at inv

  module _ (h : i < length s) where
    module _ (r : Bool) (q : r ≡ ends_plain (get_or s i 0)) where
      pub stop-here : r ≡ true → i ≡ X
      unfolding plain_stop
      stop-here e = simp (rest_at s i h, plain_stop, sym q ∙ e) at inv

      pub stop-text : r ≡ false → plain_stop (i + 1) (drop (i + 1) s) ≡ X
      unfolding plain_stop
      stop-text e = simp (rest_at s i h, plain_stop, sym q ∙ e) at inv

    pub stop-above : comma < get_or s i 0 → plain_stop (i + 1) (drop (i + 1) s) ≡ X
    stop-above l = stop-text false (sym (ends_above (get_or s i 0) l)) refl

pub ruleset stop_steps = (stop-end, stop-here, stop-text, stop-above)

-- in an unquoted field
module _ (s : List ℕ) (from i : ℕ) (X : FieldEnd) (inv : plain_from from i (drop i s) ≡ X) where
  pub plain_end : length s ≤ i → File (place from i) ≡ X
  unfolding plain_from
  plain_end h = simp (rest_end s i h, plain_from) at inv

  module _ (h : i < length s) where
    pub plain-comma : get_or s i 0 ≡ comma → Comma (place from i) (i + 1) ≡ X
    unfolding plain_from
    plain-comma e = simp (rest_at s i h, plain_from, e) at inv

    pub plain-cr : get_or s i 0 ≡ cr → (r : FieldEnd) → r ≡ line_from (place from i) (i + 1 + 1) (drop (i + 1) s)
        → r ≡ X
    unfolding plain_from
    plain-cr e r q = q ∙ (simp (rest_at s i h, plain_from, e) at inv)

    pub plain-broken : ends_plain (get_or s i 0) ≡ true → (get_or s i 0 ≡ comma → ⊥) → (get_or s i 0 ≡ cr → ⊥)
        → Broken ≡ X
    unfolding plain_from ends_plain
    plain-broken y n1 n2 =
        go (eqb (get_or s i 0) lf) (eqb (get_or s i 0) quote) _ (simp (ne_eqb _ _ n1, ne_eqb _ _ n2) at y)
        ∙ (simp (rest_at s i h, plain_from, ne_eqb _ _ n1, ne_eqb _ _ n2) at inv)
      where
        go : (t u : Bool) (x : FieldEnd) → pick t true u ≡ true → Broken ≡ pick t Broken (pick u Broken x)
        go true u x e = refl
        go false u x e = rw e

    plain-text : ends_plain (get_or s i 0) ≡ false → plain_from from (i + 1) (drop (i + 1) s) ≡ X
    unfolding plain_from ends_plain
    plain-text n =
        let b = get_or s i 0 in
        simp (
          rest_at s i h,
          plain_from,
          ne_eqb b comma (text-not b comma refl n),
          ne_eqb b cr (text-not b cr refl n),
          ne_eqb b lf (text-not b lf refl n),
          ne_eqb b quote (text-not b quote refl n),
        )
        at inv

-- the field that began at `from` reads at r as at i, and a byte that stands at r ends it
record Stopped (s : List ℕ) (from r i : ℕ) : Type 0 where
  same : plain_from from r (drop r s) ≡ plain_from from i (drop i s)
  ends : r < length s → ends_plain (get_or s r 0) ≡ true

-- so it is where its text from i on ends, by what is left of the file
stopped : (s : List ℕ) (from r k i : ℕ) → length s - i ≡ k → plain_stop i (drop i s) ≡ r → Stopped s from r i
stopped s from r zero i n q =
    let h : length s ≤ i = omega arith in
    let e : i ≡ r = stop-end s i r q h in
    record { same = rw e; ends = λ l. absurd (omega arith) }
stopped s from r (suc k) i n q =
    go (ends_plain (get_or s i 0)) refl
    (λ y. stopped s from r k (i + 1) (omega arith) (stop-text s i r q h false (sym y) refl))
  where
    h : i < length s
    h = omega arith

    go : (t : Bool) → ends_plain (get_or s i 0) ≡ t → (ends_plain (get_or s i 0) ≡ false → Stopped s from r (i + 1))
        → Stopped s from r i
    go true y on = let e : i ≡ r = stop-here s i r q h true (sym y) refl in
        record { same = rw e; ends = λ _. rw e at y }
    go false y on = let x = on y in record { same = x.same ∙ plain-text s from i _ refl h y; ends = x.ends }

module _ (s : List ℕ) (at r : ℕ) (q : r ≡ plain_stop at (drop at s)) where
  pub plain-same : plain_from at r (drop r s) ≡ plain_from at at (drop at s)
  plain-same = (stopped s at r (length s - at) at refl (sym q)).same

  pub plain-ends : r < length s → ends_plain (get_or s r 0) ≡ true
  plain-ends = (stopped s at r (length s - at) at refl (sym q)).ends

pub ruleset plain_steps = (plain-same, plain-ends, plain_end, plain-comma, plain-cr, plain-broken)
