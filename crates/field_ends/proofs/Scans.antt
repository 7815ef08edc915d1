-- One step of each scan of `specs/Places.antt`, at a position of the file. Each lemma has the form that a loop's proof
-- wants: X is what is sought, a premise says that the bytes from the position on give it, and the conclusion is what
-- the code does there. Assumes nothing.
use Prim.Native.Nat.{ℕ, ◌+◌, ◌<◌, ◌≤◌}
use mathlib.Core.List.{List}
use mathlib.Core.Path.{◌≡◌, ◌∙◌}
use lib.ListN.{length, get_or, drop}
use borrow.Author.Tests.{ne_eqb}
use Rattle.base.proofs.Rest.{rest_at, rest_end}
use Rattle.grammar.specs.Grammar.{comma, quote, cr}
use Rattle.plain_fields.specs.declared.FieldEnd.{FieldEnd}
use Rattle.plain_fields.specs.declared.FieldEnd.TheVariants.{Comma, File, Broken}
use Rattle.plain_fields.specs.Places.{place, line_from, plain_from}
use Rattle.field_ends.specs.Places.{quoted_from, closed_from, field_from}

-- inside quotes, and past a quote there
module _ (s : List ℕ) (from i : ℕ) (X : FieldEnd) (inv : quoted_from from i (drop i s) ≡ X) where
  pub quoted-end : length s ≤ i → Broken ≡ X
  unfolding quoted_from
  quoted-end h = simp (rest_end s i h, quoted_from) at inv

  module _ (h : i < length s) where
    pub quoted-byte : (get_or s i 0 ≡ quote → ⊥) → quoted_from from (i + 1) (drop (i + 1) s) ≡ X
    unfolding quoted_from
    quoted-byte n = simp (rest_at s i h, quoted_from, ne_eqb _ _ n) at inv

    module _ (q : get_or s i 0 ≡ quote) where
      closed : closed_from from i (drop (i + 1) s) ≡ X
      unfolding quoted_from
      closed = simp (rest_at s i h, quoted_from, q) at inv

      pub closed-end : length s ≤ i + 1 → File (place from i) ≡ X
      unfolding closed_from
      closed-end h2 = simp (rest_end s (i + 1) h2, closed_from) at closed

      module _ (h2 : i + 1 < length s) where
        pub closed-comma : get_or s (i + 1) 0 ≡ comma → Comma (place from i) (i + 1 + 1) ≡ X
        unfolding closed_from
        closed-comma e = simp (rest_at s (i + 1) h2, closed_from, e) at closed

        pub closed-cr : get_or s (i + 1) 0 ≡ cr → (r : FieldEnd)
            → r ≡ line_from (place from i) (i + 1 + 1 + 1) (drop (i + 1 + 1) s) → r ≡ X
        unfolding closed_from
        closed-cr e r q = q ∙ (simp (rest_at s (i + 1) h2, closed_from, e) at closed)

        pub closed-quote : get_or s (i + 1) 0 ≡ quote → quoted_from from (i + 1 + 1) (drop (i + 1 + 1) s) ≡ X
        unfolding closed_from
        closed-quote e = simp (rest_at s (i + 1) h2, closed_from, e) at closed

        pub closed-other : (get_or s (i + 1) 0 ≡ comma → ⊥) → (get_or s (i + 1) 0 ≡ cr → ⊥)
            → (get_or s (i + 1) 0 ≡ quote → ⊥)
            → Broken ≡ X
        unfolding closed_from
        closed-other n1 n2 n3 =
            simp (rest_at s (i + 1) h2, closed_from, ne_eqb _ _ n1, ne_eqb _ _ n2, ne_eqb _ _ n3) at closed

pub ruleset quoted_steps = (quoted-end, quoted-byte, closed-end, closed-comma, closed-cr, closed-quote, closed-other)

-- at a field's start
module _ (s : List ℕ) (at : ℕ) (r : FieldEnd) where
  pub field-quoted : r ≡ quoted_from (at + 1) (at + 1) (drop (at + 1) s) → at < length s → get_or s at 0 ≡ quote
      → r ≡ field_from at (drop at s)
  unfolding field_from
  field-quoted q h e = q ∙ simp (rest_at s at h, field_from, e)

  pub field_plain : r ≡ plain_from at at (drop at s) → at < length s → (get_or s at 0 ≡ quote → ⊥)
      → r ≡ field_from at (drop at s)
  unfolding field_from
  field_plain q h e = q ∙ simp (rest_at s at h, field_from, ne_eqb _ _ e)

  pub field-none : r ≡ plain_from at at (drop at s) → length s ≤ at → r ≡ field_from at (drop at s)
  unfolding field_from
  field-none q h = q ∙ simp (rest_end s at h, field_from)

pub ruleset field_steps = (field-quoted, field_plain, field-none)
