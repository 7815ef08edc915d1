-- Where a field ends and what it says: at the place that `specs/Places.antt` gives stand the bytes that
-- `specs/Reading.antt` reads, both go on at the same byte, and the place lies in the file. Assumes nothing.
use Prim.Native.Nat.{ℕ, ◌+◌, ◌-◌, ◌<◌, ◌≤◌}
use mathlib.Core.List.{List, [], ◌∷◌, ◌++◌}
use mathlib.Core.Path.{◌≡◌, refl, sym, ap, ◌∙◌}
use lib.ListN.{length, drop, length-append, length-drop}
use lib.Seq.{drop-drop, take-append_seam}
use native.Mathlib.Omega.{arith}
use Rattle.base.specs.Part.{part}
use Rattle.grammar.specs.Grammar.{comma, quote, cr, lf}
use Rattle.grammar.specs.Reading.{Row, row, with_byte, with_field, at_start, in_plain, in_quotes, past_quote, past_cR}
use Rattle.plain_fields.specs.declared.Place.{Place}
use Rattle.plain_fields.specs.declared.FieldEnd.{FieldEnd}
use Rattle.plain_fields.specs.declared.FieldEnd.TheVariants as ends
use Rattle.plain_fields.specs.Places.{place, held, line_from, plain_from}
use Rattle.field_ends.specs.Places.{quoted_from, closed_from, field_from}
use Rattle.grammar.proofs.Cases.{by_tests}

-- the rest t of a field stands at the front of the bytes u, from `at` to before `to`
record Span (at : ℕ) (u t : List ℕ) (to : ℕ) : Type 0 where
  tail : List ℕ
  split : u ≡ t ++ tail
  stop : to ≡ at + length t

nothing : (at : ℕ) (u : List ℕ) → Span at u [] at
nothing at u = record { tail = u; split = refl; stop = omega arith }

longer : (b at : ℕ) (u : List ℕ) {t : List ℕ} {to : ℕ} → Span (at + 1) u t to → Span at (b ∷ u) (b ∷ t) to
longer b at u x = record { tail = x.tail; split = ap (λ (w : List ℕ). b ∷ w) x.split; stop = omega arith }

-- R is read from the bytes u, which stand at `at`, and the scan of a field that began at `from` ends so
data Reads (s : List ℕ) (from at : ℕ) (u : List ℕ) (R : Row) : FieldEnd → Type 0 where
  at-comma : {to n : ℕ} {t : List ℕ} → Span at u t to → to < n → n ≤ at + length u
      → R ≡ with_field t (at_start (drop n s))
      → Reads s from at u R (ends.Comma (place from to) n)
  at-crlf : {to n : ℕ} {t : List ℕ} → Span at u t to → to < n → n ≤ at + length u → R ≡ row t [] (drop n s)
      → Reads s from at u R (ends.Crlf (place from to) n)
  at-end : {to : ℕ} {t : List ℕ} → Span at u t to → R ≡ row t [] [] → Reads s from at u R (ends.File (place from to))
  broken : R ≡ Row.broken → Reads s from at u R ends.Broken

byte-field : (b : ℕ) (t : List ℕ) (R : Row) → with_byte b (with_field t R) ≡ with_field (b ∷ t) R
byte-field b t (row c cs left) = refl
byte-field b t Row.broken = refl

tail-drop : (s : List ℕ) (at b : ℕ) (u : List ℕ) → b ∷ u ≡ drop at s → u ≡ drop (at + 1) s
tail-drop s at b u e = ap (drop 1) e ∙ drop-drop 1 at s

module _ (s : List ℕ) (from : ℕ) where
  -- one byte more at the front
  grown : (b at : ℕ) (u : List ℕ) {R : Row} {r : FieldEnd} → Reads s from (at + 1) u R r
      → Reads s from at (b ∷ u) (with_byte b R) r
  grown b at u (at-comma {n = n} {t} x p f e) =
      at-comma (longer b at u x) p (omega arith) (ap (with_byte b) e ∙ byte-field b t (at_start (drop n s)))
  grown b at u (at-crlf x p f e) = at-crlf (longer b at u x) p (omega arith) (ap (with_byte b) e)
  grown b at u (at-end x e) = at-end (longer b at u x) (ap (with_byte b) e)
  grown b at u (broken e) = broken (ap (with_byte b) e)

  -- past a CR that stands before j
  line_reads : (at j : ℕ) (full u : List ℕ) → at < j → j + length u ≤ at + length full → u ≡ drop j s
      → Reads s from at full (past_cR u) (line_from (place from at) (j + 1) u)
  unfolding line_from past_cR
  line_reads at j full [] p f d = broken refl
  line_reads at j full (b ∷ u) p f d =
      by_tests (Reads s from at full) b lf _ _ _ _
      (λ _. at-crlf (nothing at full) (omega arith) (omega arith) (ap (row [] []) (tail-drop s j b u d)))
      (λ _. broken refl)

  plain-reads : (at : ℕ) (u : List ℕ) → u ≡ drop at s → Reads s from at u (in_plain u) (plain_from from at u)
  unfolding plain_from in_plain
  plain-reads at [] e = at-end (nothing at []) refl
  plain-reads at (b ∷ u) e =
      let A = Reads s from at (b ∷ u) in
      let q : u ≡ drop (at + 1) s = tail-drop s at b u e in
      by_tests A b comma _ _ _ _
      (λ _. at-comma (nothing at (b ∷ u)) (omega arith) (omega arith)
      (ap (λ (w : List ℕ). with_field [] (at_start w)) q)) (λ _.
      by_tests A b cr _ _ _ _ (λ _. line_reads at (at + 1) (b ∷ u) u (omega arith) (omega arith) q) (λ _.
      by_tests A b lf _ _ _ _ (λ _. broken refl) (λ _.
      by_tests A b quote _ _ _ _ (λ _. broken refl) (λ _.
      grown b at u (plain-reads (at + 1) u q)))))

  mutual
    unfolding quoted_from closed_from in_quotes past_quote

    quoted-reads : (at : ℕ) (u : List ℕ) → u ≡ drop at s → Reads s from at u (in_quotes u) (quoted_from from at u)
    quoted-reads at [] e = broken refl
    quoted-reads at (b ∷ u) e =
        let q : u ≡ drop (at + 1) s = tail-drop s at b u e in
        by_tests (Reads s from at (b ∷ u)) b quote _ _ _ _ (λ h. rw h (closed-reads at u q))
        (λ _. grown b at u (quoted-reads (at + 1) u q))

    closed-reads : (at : ℕ) (u : List ℕ) → u ≡ drop (at + 1) s
        → Reads s from at (quote ∷ u) (past_quote u) (closed_from from at u)
    closed-reads at [] e = at-end (nothing at (quote ∷ [])) refl
    closed-reads at (b ∷ u) e =
        let full : List ℕ = quote ∷ b ∷ u in
        let A = Reads s from at full in
        let q : u ≡ drop (at + 1 + 1) s = tail-drop s (at + 1) b u e in
        by_tests A b comma _ _ _ _
        (λ _. at-comma (nothing at full) (omega arith) (omega arith)
        (ap (λ (w : List ℕ). with_field [] (at_start w)) q)) (λ _.
        by_tests A b cr _ _ _ _ (λ _. line_reads at (at + 1 + 1) full u (omega arith) (omega arith) q) (λ _.
        by_tests A b quote _ _ _ _
        (λ h. rw h (grown quote at (quote ∷ u) (grown quote (at + 1) u (quoted-reads (at + 1 + 1) u q)))) (λ _.
        broken refl)))

  -- the bytes at a span's place
  span-held : (to : ℕ) (t u : List ℕ) → drop from s ≡ u → Span from u t to → held s (place from to) ≡ t
  unfolding part
  span-held to t u d x =
      let k : to - from ≡ length t = omega (arith, x.stop) in
      rw (k, d ∙ x.split) (take-append_seam t x.tail)

-- a field's place p lies in the file, from lo on, and reading goes on past it, at n
pub record In (lo hi : ℕ) (p : Place) (n : ℕ) : Type 0 where
  pub start : lo ≤ p.from
  pub order : p.from ≤ p.to
  pub past : p.to < n
  pub fits : n ≤ hi

-- the field at `at` of the file s, by how it ends: where it lies, and how reading goes on
pub data FieldAt (s : List ℕ) (at : ℕ) : FieldEnd → Type 0 where
  at-comma : {p : Place} {n : ℕ} → In at (length s) p n
      → at_start (drop at s) ≡ with_field (held s p) (at_start (drop n s)) → FieldAt s at (ends.Comma p n)
  at-crlf : {p : Place} {n : ℕ} → In at (length s) p n → at_start (drop at s) ≡ row (held s p) [] (drop n s)
      → FieldAt s at (ends.Crlf p n)
  at-end : {p : Place} → In at (length s + 1) p (length s + 1) → at_start (drop at s) ≡ row (held s p) [] []
      → FieldAt s at (ends.File p)
  broken : at_start (drop at s) ≡ Row.broken → FieldAt s at ends.Broken

module _ (s : List ℕ) (at : ℕ) where
  -- the field's content begins at `from`, with the bytes u
  module _ (from : ℕ) (lo : at ≤ from) (hi : from ≤ length s) (u : List ℕ) (d : drop from s ≡ u) where
    room : length u ≡ length s - from
    room = ap length (sym d) ∙ length-drop from s

    from-reads : {R : Row} {r : FieldEnd} → Reads s from from u R r → at_start (drop at s) ≡ R → FieldAt s at r
    from-reads (Reads.at-comma {to} {n} {t} x p f e) q =
        FieldAt.at-comma {p = place from to}
        (record { start = lo; order = omega (arith, x.stop); past = p; fits = omega (arith, room) })
        (q ∙ e ∙ ap (λ (c : List ℕ). with_field c (at_start (drop n s))) (sym (span-held s from to t u d x)))
    from-reads (Reads.at-crlf {to} {n} {t} x p f e) q =
        FieldAt.at-crlf {p = place from to}
        (record { start = lo; order = omega (arith, x.stop); past = p; fits = omega (arith, room) })
        (q ∙ e ∙ ap (λ (c : List ℕ). row c [] (drop n s)) (sym (span-held s from to t u d x)))
    from-reads (Reads.at-end {to} {t} x e) q =
        FieldAt.at-end {p = place from to}
        (record {
          start = lo;
          order = omega (arith, x.stop);
          past = omega (arith, x.stop, room, simp length-append at (ap length x.split));
          fits = omega arith;
        })
        (q ∙ e ∙ ap (λ (c : List ℕ). row c [] []) (sym (span-held s from to t u d x)))
    from-reads (Reads.broken e) q = FieldAt.broken (q ∙ e)

  pub field_at : at ≤ length s → FieldAt s at (field_from at (drop at s))
  unfolding field_from at_start in_plain
  field_at h = go (drop at s) refl
    where
      go : (u : List ℕ) → drop at s ≡ u → FieldAt s at (field_from at u)
      go [] e = from-reads at (omega arith) h [] e (plain-reads s at at [] (sym e)) (ap at_start e)
      go (b ∷ u) e =
          let q : u ≡ drop (at + 1) s = tail-drop s at b u (sym e) in
          by_tests (λ (R : Row) (r : FieldEnd). at_start (drop at s) ≡ R → FieldAt s at r) b quote _ _ _ _
          (λ _. from-reads (at + 1) (omega arith) (omega (arith, length-drop at s, ap length e)) u (sym q)
          (quoted-reads s (at + 1) (at + 1) u q))
          (λ _. from-reads at (omega arith) h (b ∷ u) e (plain-reads s at at (b ∷ u) (sym e)))
          (ap at_start e)
