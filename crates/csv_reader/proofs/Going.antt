-- A record that is being read: after the fields f, at the position `at`, what is yet to be found is X.
-- Assumes nothing.
use Prim.Native.Nat.{ℕ, zero, suc, ◌-◌, ◌<◌, ◌≤◌}
use mathlib.Core.List.{List}
use mathlib.Core.Path.{◌≡◌, sym, ap, ◌∙◌}
use lib.ListN.{length, drop}
use native.Mathlib.Omega.{arith}
use borrow.Author.Tests.{lt-leb, le-leb}
use Rattle.plain_fields.specs.declared.Place.{Place}
use Rattle.csv_reader.specs.declared.Fields.{Fields}
use Rattle.plain_fields.specs.declared.FieldEnd.{FieldEnd}
use Rattle.plain_fields.specs.declared.FieldEnd.TheVariants as ends
use Rattle.csv_reader.specs.declared.Step.{Step}
use Rattle.csv_reader.specs.declared.Step.TheVariants.{Record, Broken, End}
use Rattle.field_ends.specs.Places.{field_from}
use Rattle.csv_reader.specs.Places.{reader, no_fields, and_field, row_from, step_of}
use Rattle.csv_reader.proofs.Contents.{In, FieldAt, field_at}

-- `turns` is more than the fields that there is room for
pub record Going (s : List ℕ) (at : ℕ) (f : Fields) (X : Step) : Type 0 where
  pub turns : ℕ
  pub enough : length s - at < turns
  pub goes : row_from turns f at s ≡ X

-- there is one turn at least
record Turn (s : List ℕ) (at : ℕ) (f : Fields) (X : Step) : Type 0 where
  left : ℕ
  enough : length s - at < suc left
  goes : row_from (suc left) f at s ≡ X

a_turn : {s : List ℕ} {at : ℕ} {f : Fields} {X : Step} → Going s at f X → Turn s at f X
a_turn {s} {at} {f} {X} g = go g.turns g.enough g.goes
  where
    go : (k : ℕ) → length s - at < k → row_from k f at s ≡ X → Turn s at f X
    go zero h w = absurd (omega arith)
    go (suc m) h w = record { left = m; enough = h; goes = w }

pub going_start : {s : List ℕ} {at : ℕ} {f : Fields} → at < length s → f ≡ no_fields → Going s at f (step_of s at)
unfolding step_of
going_start {s} {at} {f} h e =
    record { turns = suc (length s - at); enough = omega arith; goes = simp (lt-leb _ _ h, e) }

-- at the end of the file there is no record
pub step_end : (s : List ℕ) (at : ℕ) → length s ≤ at → End ≡ step_of s at
unfolding step_of
step_end s at h = simp (le-leb _ _ h)

-- where a field that a comma ends lies
comma_in : (s : List ℕ) (at : ℕ) → at ≤ length s → {p : Place} {n : ℕ} → field_from at (drop at s) ≡ ends.Comma p n
    → In at (length s) p n
comma_in s at h {p} {n} e = got (rw e at (field_at s at h))
  where
    got : FieldAt s at (ends.Comma p n) → In at (length s) p n
    got (FieldAt.at-comma i _) = i

-- a field was scanned, with the outcome r
module _ {s : List ℕ} {at : ℕ} {f : Fields} {X : Step} (g : Going s at f X) (in-file : at ≤ length s) (r : FieldEnd)
    (q : r ≡ field_from at (drop at s)) where
  module _ {p : Place} {f' : Fields} (e2 : f' ≡ and_field f p) where
    pub row-comma : {n : ℕ} → r ≡ ends.Comma p n → Going s n f' X
    unfolding row_from
    row-comma e =
        let t = a_turn g in
        record {
          turns = t.left;
          enough = omega (arith, t.enough, comma_in s at in-file (sym q ∙ e));
          goes = rw e2 (rw (row_from, sym q ∙ e) at t.goes);
        }

    pub row-crlf : {n : ℕ} → r ≡ ends.Crlf p n → Record f' (reader n) ≡ X
    unfolding row_from
    row-crlf e = rw e2 (rw (row_from, sym q ∙ e) at (a_turn g).goes)

    pub row-file : r ≡ ends.File p → Record f' (reader (length s)) ≡ X
    unfolding row_from
    row-file e = rw e2 (rw (row_from, sym q ∙ e) at (a_turn g).goes)

  pub row-broken : r ≡ ends.Broken → Broken ≡ X
  unfolding row_from
  row-broken e = rw (row_from, sym q ∙ e) at (a_turn g).goes

-- the field after a comma begins past this one, and within the file; there are no more fields than bytes were passed
module _ (s : List ℕ) (at : ℕ) (r : FieldEnd) (p : Place) (n : ℕ) (q : r ≡ field_from at (drop at s))
    (h : at ≤ length s)
    (e : r ≡ ends.Comma p n) where
  pub next_fits : n ≤ length s
  next_fits = (comma_in s at h (sym q ∙ e)).fits

  pub next-less : length s - n < length s - at
  next-less = omega (arith, comma_in s at h (sym q ∙ e))

  pub next-count : (f f' : Fields) → f.count ≤ at → f' ≡ and_field f p → f'.count ≤ n
  next-count f f' k e2 = omega (arith, comma_in s at h (sym q ∙ e), ap (λ (x : Fields). x.count) e2)

pub none-count : (f : Fields) (at : ℕ) → f ≡ no_fields → f.count ≤ at
none-count f at e = omega (arith, ap (λ (x : Fields). x.count) e)

pub ruleset row_steps =
    (going_start, step_end, row-comma, row-crlf, row-file, row-broken, next_fits, next-less, next-count, none-count)
