-- What is read of some bytes is what the grammar says, and the other way round.
-- Assumes nothing.
use Prim.Native.Nat.{ℕ, ◌+◌, ◌<◌}
use mathlib.Core.List.{List, [], ◌∷◌, ◌++◌, append_assoc, append-nil}
use mathlib.Core.Path.{◌≡◌, refl, ap, ◌∙◌}
use lib.ListN.{length, length-append}
use native.Mathlib.Omega.{arith}
use borrow.Author.Tests.{ne_eqb}
use Rattle.base.proofs.Clash.{clash}
use Rattle.grammar.specs.Grammar.{comma, quote, cr, lf, Text, Plain, Inside, FieldOf, RecordOf, Front}
use Rattle.grammar.specs.Reading.{
  Row,
  row,
  with_byte,
  with_field,
  plain_byte,
  at_start,
  in_plain,
  in_quotes,
  past_quote,
  past_cR,
}
use Rattle.grammar.proofs.Cases.{by_test}

-- the grammar from within a record on: the fields to come, the bytes, and those left past the record. Past a field:
data After : List (List ℕ) → List ℕ → List ℕ → Type 0 where
  end : After [] [] []
  crlf : {v : List ℕ} → After [] (cr ∷ lf ∷ v) v
  next : {c t w v : List ℕ} {cs : List (List ℕ)} → FieldOf c t → After cs w v → After (c ∷ cs) (comma ∷ t ++ w) v

-- at a field's start; in an unquoted field; inside quotes; past a quote there; past a CR
data Begins : List (List ℕ) → List ℕ → List ℕ → Type 0 where
  field : {c t w v : List ℕ} {cs : List (List ℕ)} → FieldOf c t → After cs w v → Begins (c ∷ cs) (t ++ w) v

data InPlain : List (List ℕ) → List ℕ → List ℕ → Type 0 where
  rest : {c w v : List ℕ} {cs : List (List ℕ)} → Plain c → After cs w v → InPlain (c ∷ cs) (c ++ w) v

data InQuotes : List (List ℕ) → List ℕ → List ℕ → Type 0 where
  rest : {c w v : List ℕ} {cs : List (List ℕ)} → Inside c → After cs w v → InQuotes (c ∷ cs) (c ++ (quote ∷ w)) v

data PastQuote : List (List ℕ) → List ℕ → List ℕ → Type 0 where
  after : {w v : List ℕ} {cs : List (List ℕ)} → After cs w v → PastQuote ([] ∷ cs) w v
  pair : {c w v : List ℕ} {cs : List (List ℕ)} → InQuotes (c ∷ cs) w v
      → PastQuote ((quote ∷ quote ∷ c) ∷ cs) (quote ∷ w) v

data PastCR : List (List ℕ) → List ℕ → List ℕ → Type 0 where
  feed : {v : List ℕ} → PastCR ([] ∷ []) (lf ∷ v) v

-- what is read of the bytes u is so by the grammar, or is broken
data Sound (G : List (List ℕ) → List ℕ → List ℕ → Type 0) (u : List ℕ) : Row → Type 0 where
  reads : {c v : List ℕ} {cs : List (List ℕ)} → G (c ∷ cs) u v → Sound G u (row c cs v)
  broken : Sound G u Row.broken

text-sound : {b : ℕ} {u : List ℕ} {R : Row} → Text b → Sound InPlain u R → Sound InPlain (b ∷ u) (with_byte b R)
text-sound x (reads (InPlain.rest p a)) = reads (InPlain.rest (Plain.byte x p) a)
text-sound x broken = broken

byte-sound : {b : ℕ} {u : List ℕ} {R : Row} → (b ≡ quote → ⊥) → Sound InQuotes u R
    → Sound InQuotes (b ∷ u) (with_byte b R)
byte-sound n (reads (InQuotes.rest i a)) = reads (InQuotes.rest (Inside.byte n i) a)
byte-sound n broken = broken

pair-sound : {u : List ℕ} {R : Row} → Sound InQuotes u R
    → Sound PastQuote (quote ∷ u) (with_byte quote (with_byte quote R))
pair-sound (reads q) = reads (PastQuote.pair q)
pair-sound broken = broken

-- nothing is left of a field, and past it stands this
data Ends : List (List ℕ) → List ℕ → List ℕ → Type 0 where
  after : {w v : List ℕ} {cs : List (List ℕ)} → After cs w v → Ends ([] ∷ cs) w v

comma-sound : {u : List ℕ} {R : Row} → Sound Begins u R → Sound Ends (comma ∷ u) (with_field [] R)
comma-sound (reads (Begins.field f a)) = reads (Ends.after (After.next f a))
comma-sound broken = broken

cr-sound : {u : List ℕ} {R : Row} → Sound PastCR u R → Sound Ends (cr ∷ u) R
cr-sound (reads feed) = reads (Ends.after After.crlf)
cr-sound broken = broken

ends-plain : {u : List ℕ} {R : Row} → Sound Ends u R → Sound InPlain u R
ends-plain (reads (Ends.after a)) = reads (InPlain.rest Plain.none a)
ends-plain broken = broken

ends-quote : {u : List ℕ} {R : Row} → Sound Ends u R → Sound PastQuote u R
ends-quote (reads (Ends.after a)) = reads (PastQuote.after a)
ends-quote broken = broken

quote-quotes : {u : List ℕ} {R : Row} → Sound PastQuote u R → Sound InQuotes (quote ∷ u) R
quote-quotes (reads (PastQuote.after a)) = reads (InQuotes.rest Inside.none a)
quote-quotes (reads (PastQuote.pair (InQuotes.rest i a))) = reads (InQuotes.rest (Inside.pair i) a)
quote-quotes broken = broken

plain-begins : {u : List ℕ} {R : Row} → Sound InPlain u R → Sound Begins u R
plain-begins (reads (InPlain.rest p a)) = reads (Begins.field (FieldOf.plain p) a)
plain-begins broken = broken

quotes_begin : {u : List ℕ} {R : Row} → Sound InQuotes u R → Sound Begins (quote ∷ u) R
quotes_begin (reads (InQuotes.rest i a)) = reads (rw append_assoc at (Begins.field (FieldOf.quoted i) a))
quotes_begin broken = broken

plain-byte : (b : ℕ) {u : List ℕ} {S T Q : Row} → Sound Begins u S → Sound PastCR u T → Sound InPlain u Q
    → Sound InPlain (b ∷ u) (plain_byte b S T Q)
plain-byte b {u} x y z =
    let G = Sound InPlain (b ∷ u) in
    by_test G b comma _ _ (λ h. rw h (ends-plain (comma-sound x))) (λ n1.
    by_test G b cr _ _ (λ h. rw h (ends-plain (cr-sound y))) (λ n2.
    by_test G b lf _ _ (λ _. broken) (λ n3.
    by_test G b quote _ _ (λ _. broken) (λ n4.
    text-sound (record { no_comma = n1; no_quote = n4; no_cr = n2; no_lf = n3 }) z))))

cr-line : (u : List ℕ) → Sound PastCR u (past_cR u)
unfolding past_cR
cr-line [] = broken
cr-line (b ∷ u) = by_test (Sound PastCR (b ∷ u)) b lf _ _ (λ h. rw h (reads feed)) (λ _. broken)

mutual
  unfolding at_start in_plain in_quotes past_quote

  start-sound : (u : List ℕ) → Sound Begins u (at_start u)
  start-sound [] = plain-begins (reads (InPlain.rest Plain.none After.end))
  start-sound (b ∷ u) =
      by_test (Sound Begins (b ∷ u)) b quote _ _
      (λ h. rw h (quotes_begin (quotes-sound u)))
      (λ _. plain-begins (plain-byte b (start-sound u) (cr-line u) (plain-sound u)))

  plain-sound : (u : List ℕ) → Sound InPlain u (in_plain u)
  plain-sound [] = reads (InPlain.rest Plain.none After.end)
  plain-sound (b ∷ u) = plain-byte b (start-sound u) (cr-line u) (plain-sound u)

  quotes-sound : (u : List ℕ) → Sound InQuotes u (in_quotes u)
  quotes-sound [] = broken
  quotes-sound (b ∷ u) =
      by_test (Sound InQuotes (b ∷ u)) b quote _ _ (λ h. rw h (quote-quotes (quote-sound u)))
      (λ n. byte-sound n (quotes-sound u))

  quote-sound : (u : List ℕ) → Sound PastQuote u (past_quote u)
  quote-sound [] = reads (PastQuote.after After.end)
  quote-sound (b ∷ u) =
      let G = Sound PastQuote (b ∷ u) in
      by_test G b comma _ _ (λ h. rw h (ends-quote (comma-sound (start-sound u)))) (λ _.
      by_test G b cr _ _ (λ h. rw h (ends-quote (cr-sound (cr-line u)))) (λ _.
      by_test G b quote _ _ (λ h. rw h (pair-sound (quotes-sound u))) (λ _. broken)))

-- the other way: what the grammar allows is read so
module _ {b : ℕ} (x : Text b) (u : List ℕ) where
  plain-text : in_plain (b ∷ u) ≡ with_byte b (in_plain u)
  unfolding in_plain
  plain-text = simp (
    in_plain,
    ne_eqb b comma x.no_comma,
    ne_eqb b cr x.no_cr,
    ne_eqb b lf x.no_lf,
    ne_eqb b quote x.no_quote,
  )

  start-text : at_start (b ∷ u) ≡ with_byte b (in_plain u)
  unfolding at_start
  start-text = simp (
    at_start,
    ne_eqb b comma x.no_comma,
    ne_eqb b cr x.no_cr,
    ne_eqb b lf x.no_lf,
    ne_eqb b quote x.no_quote,
  )

module _ (w : List ℕ) {v : List ℕ} {cs : List (List ℕ)} where
  plain_complete : {c : List ℕ} → Plain c → in_plain w ≡ row [] cs v → in_plain (c ++ w) ≡ row c cs v
  plain_complete Plain.none e = e
  plain_complete (Plain.byte {b} {t} x p) e = plain-text x (t ++ w) ∙ ap (with_byte b) (plain_complete p e)

  inside_complete : {c : List ℕ} → Inside c → past_quote w ≡ row [] cs v → in_quotes (c ++ (quote ∷ w)) ≡ row c cs v
  unfolding in_quotes past_quote
  inside_complete Inside.none e = e
  inside_complete (Inside.byte {b} n i) e = rw (in_quotes, ne_eqb b quote n) (ap (with_byte b) (inside_complete i e))
  inside_complete (Inside.pair i) e = ap (λ (R : Row). with_byte quote (with_byte quote R)) (inside_complete i e)

-- past a field all that stood before it are alike
record Alike (cs : List (List ℕ)) (w v : List ℕ) : Type 0 where
  start : at_start w ≡ row [] cs v
  plain : in_plain w ≡ row [] cs v
  closed : past_quote w ≡ row [] cs v

field_complete : {c t w v : List ℕ} {cs : List (List ℕ)} → FieldOf c t → Alike cs w v → at_start (t ++ w) ≡ row c cs v
unfolding at_start
field_complete (FieldOf.plain Plain.none) a = a.start
field_complete {w = w} (FieldOf.plain (Plain.byte {b} {t} x p)) a = start-text x (t ++ w)
    ∙ ap (with_byte b) (plain_complete w p a.plain)
field_complete {w = w} (FieldOf.quoted {c} i) a =
    ap (λ (u : List ℕ). at_start (quote ∷ u)) (append_assoc c (quote ∷ []) w) ∙ inside_complete w i a.closed

after_complete : {w v : List ℕ} {cs : List (List ℕ)} → After cs w v → Alike cs w v
unfolding at_start in_plain past_quote past_cR
after_complete After.end = record { start = refl; plain = refl; closed = refl }
after_complete After.crlf = record { start = refl; plain = refl; closed = refl }
after_complete (After.next f a) =
    let e = ap (with_field []) (field_complete f (after_complete a)) in
    record { start = e; plain = e; closed = e }

-- a record of the grammar is a field and what may stand past it, and the other way round
data Whole : List (List ℕ) → List ℕ → List ℕ → Type 0 where
  ended : {cs : List (List ℕ)} {t v : List ℕ} → RecordOf cs t → Whole cs (t ++ (cr ∷ lf ∷ v)) v
  last : {cs : List (List ℕ)} {t : List ℕ} → RecordOf cs t → Whole cs t []

more-whole : {c t w v : List ℕ} {cs : List (List ℕ)} → FieldOf c t → Whole cs w v → Whole (c ∷ cs) (t ++ (comma ∷ w)) v
more-whole f (Whole.ended {v = v} r) = rw append_assoc at (Whole.ended {v = v} (RecordOf.more f r))
more-whole f (Whole.last r) = Whole.last (RecordOf.more f r)

after-whole : {c t w v : List ℕ} {cs : List (List ℕ)} → FieldOf c t → After cs w v → Whole (c ∷ cs) (t ++ w) v
after-whole f After.end = rw append-nil (Whole.last (RecordOf.last f))
after-whole f After.crlf = Whole.ended (RecordOf.last f)
after-whole f (After.next g a) = more-whole f (after-whole g a)

whole-front : {cs : List (List ℕ)} {u v : List ℕ} → Whole cs u v → (u ≡ [] → ⊥) → Front cs u v
whole-front (Whole.ended r) n = Front.ended r
whole-front (Whole.last r) n = Front.last r n

begins-front : {cs : List (List ℕ)} {u v : List ℕ} → Begins cs u v → (u ≡ [] → ⊥) → Front cs u v
begins-front (Begins.field f a) n = whole-front (after-whole f a) n

more-begins : {c t u v : List ℕ} {cs : List (List ℕ)} → FieldOf c t → Begins cs u v
    → Begins (c ∷ cs) (t ++ (comma ∷ u)) v
more-begins f (Begins.field g a) = Begins.field f (After.next g a)

record_begins : {cs : List (List ℕ)} {t w v : List ℕ} → RecordOf cs t → After [] w v → Begins cs (t ++ w) v
record_begins (RecordOf.last f) a = Begins.field f a
record_begins (RecordOf.more f r) a = rw append_assoc (more-begins f (record_begins r a))

front-begins : {cs : List (List ℕ)} {u v : List ℕ} → Front cs u v → Begins cs u v
front-begins (Front.ended r) = record_begins r After.crlf
front-begins (Front.last r n) = rw append-nil at (record_begins r After.end)

-- what is read at the front of some bytes is a record of the grammar
pub read-stands : (b : ℕ) (u : List ℕ) {c v : List ℕ} {cs : List (List ℕ)} → at_start (b ∷ u) ≡ row c cs v
    → Front (c ∷ cs) (b ∷ u) v
read-stands b u {c} {v} {cs} e = begins-front (got (rw e at (start-sound (b ∷ u)))) (λ d. clash cc)
  where
    got : Sound Begins (b ∷ u) (row c cs v) → Begins (c ∷ cs) (b ∷ u) v
    got (reads x) = x

-- a record has a field, and what is read at the front of the bytes is the record that stands there
pub data Read (u v : List ℕ) : List (List ℕ) → Type 0 where
  as_row : {c : List ℕ} {cs : List (List ℕ)} → at_start u ≡ row c cs v → Read u v (c ∷ cs)

pub stands_read : {cs : List (List ℕ)} {u v : List ℕ} → Front cs u v → Read u v cs
stands_read f = go (front-begins f)
  where
    go : {cs : List (List ℕ)} {u v : List ℕ} → Begins cs u v → Read u v cs
    go (Begins.field f a) = as_row (field_complete f (after_complete a))

-- a record that stands has a byte, and fewer bytes are left past it
pub left-shorter : {cs : List (List ℕ)} {u v : List ℕ} → Front cs u v → length v < length u
left-shorter (Front.ended {t} {u} r) = simp length-append (omega arith)
left-shorter (Front.last {t} r n) = go t n
  where
    go : (t : List ℕ) → (t ≡ [] → ⊥) → 0 < length t
    go [] n = absurd (n refl)
    go (b ∷ t) n = omega arith
