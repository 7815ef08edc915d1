-- 02, W5: no accepted file that says the farm is shorter than what is written of it, but by the last CRLF. Assumes
-- nothing.
use Prim.Native.Nat.{ℕ, zero, suc, ◌+◌, ◌≤◌, ◌<◌}
use mathlib.Core.Path.{◌≡◌, refl, sym, ap, ◌∙◌}
use mathlib.Core.List.{List, [], ◌∷◌}
use native.Mathlib.Omega.{arith}
use lib.IntN.{ℤ, pos, negsuc, ◌-ℤ◌, +ℤ_idl}
use lib.ListN.{length, get_or, length-append}
use Rattle.base.specs.Text.{bytes}
use Rattle.base.specs.Part.{lowered}
use Rattle.grammar.specs.Grammar.{Before}
use Rattle.words.proofs.Tables.{places}
use Rattle.kilogram_text.specs.Kilograms.{sign}
use Rattle.shortest_numbers.specs.Shortest.{shortest}
use Rattle.shortest_numbers.proofs.NoShorter.{no_shorter}
use Rattle.word_texts.specs.Words.{name_text}
use Rattle.inputs.specs.declared.Form.{Form}
use Rattle.inputs.specs.Inputs.{Row, rows_of, count_of, last_of, row_at, form_of}
use Rattle.farm.specs.declared.Given.{Given}
use Rattle.farm.specs.declared.Slot.{Slot}
use Rattle.farm.specs.declared.Herd.{Herd}
use Rattle.farm.specs.declared.Farm.{Farm}
use Rattle.farm.specs.Labels.{text, label_of}
use Rattle.farm.specs.Herds.{no_slot}
use Rattle.farm.proofs.Slots.{count_most}
use Rattle.limits.specs.declared.Limits.{Limits}
use Rattle.checks.specs.Checks.{herds_of}
use Rattle.checks.specs.Refusals.{given_at}
use Rattle.first_refusal.specs.Records.{Record}
use Rattle.rules_theorems.specs.Lists.{Some, here, there, Pairs}
use Rattle.rules_theorems.specs.Rules.{IsSigned, ValueIs, RecordSays, Gives, HerdOf, StandTogether, KeepsRules}
use Rattle.rules_theorems.proofs.Labels.{text_of}
use Rattle.rules_theorems.proofs.Farms.{herds-of}
use Rattle.line_parts.specs.Fields.{label_field, each}
use Rattle.line_parts.proofs.Lengths.{sum_of}
use Rattle.value_texts.specs.Values.{number_text, signed_text, value_text}
use Rattle.file_text.specs.Files.{input_text, record_text, inputs_text, herd_file, file_of}
use Rattle.file_text.proofs.Parts.{record_length}
use Rattle.written_theorems.proofs.Needed.{record_need, file-least, ended-least, need_append}

-- ---- a value

lowered-length : (s : List ℕ) → length (lowered s) ≡ length s
unfolding lowered
lowered-length [] = refl
lowered-length (b ∷ s) = ap suc (lowered-length s)

below_length : (v : ℕ) → 0 < v → length (signed_text (pos 0 -ℤ pos v)) ≡ 1 + length (shortest 0 v)
unfolding signed_text sign shortest
below_length zero h = absurd (omega arith)
below_length (suc v) h = rw (+ℤ_idl (negsuc v)) (omega arith)

signed-least : {t : List ℕ} {v : ℤ} → IsSigned t v → length (signed_text v) ≤ length t
unfolding signed_text sign shortest
signed-least (IsSigned.not_below n) = no_shorter n
signed-least (IsSigned.behind_minus {text = t} {v = v} n some) = omega (arith, below_length v some, no_shorter n)

value-least : {form : Form} {t : List ℕ} {g : Given} → ValueIs form t g → length (value_text form g) ≤ length t
unfolding value_text number_text name_text
value-least (ValueIs.number n h) = no_shorter n
value-least (ValueIs.or_standard n h) = no_shorter n
value-least (ValueIs.no_standard n h) = no_shorter n
value-least {t = t} (ValueIs.standard e) = omega (arith, ap length e, lowered-length t)
value-least (ValueIs.signed n h) = signed-least n
value-least (ValueIs.name x) = rw x.name (omega arith)

-- ---- the record of an input

-- how long what is written for the input in a slot is
abbrev slot_length : Herd → ℕ → ℕ
slot_length h i =
    length (record_text (text h.label) (row_at h.kind i) (value_text (form_of h.kind i) (given_at h i)))

input-length : (row : Row) → length (input_text row) ≡ length (bytes row.path) + 1 + length (bytes row.name)
unfolding input_text
input-length row = simp length-append (omega arith)

gives-least : {h : Herd} {cs : Record} {i : ℕ} → Gives h cs i → slot_length h i ≤ record_need cs
gives-least {h} {cs} {i} g =
    go g.says (ap text g.own) (ap (λ (s : Slot). s.given) g.has)
  where
    go : {cs : Record} {label : List ℕ} {given : Given} → RecordSays cs label h.kind i given
        → text h.label ≡ text (label_of label) → given_at h i ≡ given → slot_length h i ≤ record_need cs
    go (RecordSays.says {label} {path} {name} {value} {given = given} good names v) t e =
        let same : text h.label ≡ label = t ∙ text_of label good.most in
        let row = row_at h.kind i in
        omega (
          arith,
          record_length (text h.label) row (value_text (form_of h.kind i) (given_at h i)),
          input-length row,
          ap (λ (l : List ℕ). length (label_field l)) same,
          ap (λ (x : Given). length (value_text (form_of h.kind i) x)) e,
          value-least v,
          ap length names.path,
          ap length names.name,
        )

pairs-least : {h : Herd} {rs : List Record} {is : List ℕ} → Pairs (Gives h) rs is
    → sum_of (slot_length h) is ≤ sum_of record_need rs
pairs-least Pairs.none = omega arith
pairs-least (Pairs.more g p) = omega (arith, gives-least g, pairs-least p)

-- ---- all the inputs of a herd, in whatever order

-- a list without one of its entries
record Without (j : ℕ) (l : List ℕ) : Type 0 where
  rest : List ℕ
  adds : (f : ℕ → ℕ) → sum_of f l ≡ f j + sum_of f rest
  keeps : (k : ℕ) → (k ≡ j → ⊥) → Some (λ i. i ≡ k) l → Some (λ i. i ≡ k) rest

without : {j : ℕ} {l : List ℕ} → Some (λ i. i ≡ j) l → Without j l
without {j} (here {a} {l} e) = record { rest = l; adds = λ f. rw e; keeps = past }
  where
    past : (k : ℕ) → (k ≡ j → ⊥) → Some (λ i. i ≡ k) (a ∷ l) → Some (λ i. i ≡ k) l
    past k n (here d) = absurd (n (sym d ∙ e))
    past k n (there s) = s
without {j} (there {a} {l} s) =
    let w = without s in
    record { rest = a ∷ w.rest; adds = λ f. omega (arith, w.adds f); keeps = keep w }
  where
    keep : (w : Without j l) (k : ℕ) → (k ≡ j → ⊥) → Some (λ i. i ≡ k) (a ∷ l) → Some (λ i. i ≡ k) (a ∷ w.rest)
    keep w k n (here d) = here d
    keep w k n (there x) = there (w.keeps k n x)

all_there : {A : Type 0} (f : ℕ → ℕ) (l : List A) (i : ℕ) (is : List ℕ)
    → ((j : ℕ) → j < length l → Some (λ x. x ≡ i + j) is) → sum_of f (places i l) ≤ sum_of f is
all_there f [] i is some = omega arith
all_there f (a ∷ l) i is some =
    let z : i + 0 ≡ i = omega arith in
    let w = without (rw z at (some 0 (omega arith))) in
    omega (arith, w.adds f, all_there f l (i + 1) w.rest (next w))
  where
    next : (w : Without i is) (j : ℕ) → j < length l → Some (λ x. x ≡ i + 1 + j) w.rest
    next w j b =
        let e : i + suc j ≡ i + 1 + j = omega arith in
        w.keeps (i + 1 + j) (λ (d : i + 1 + j ≡ i). omega arith) (rw e at (some (suc j) (omega arith)))

-- ---- a herd

herd-sum : (h : Herd) (i : ℕ) (rows : List Row) (l : List Slot) → length rows ≤ length l
    → ((j : ℕ) → j < length rows → slot_length h (i + j)
    ≡ length (record_text (text h.label) (get_or rows j (last_of (rows_of h.kind)))
    (value_text (get_or rows j (last_of (rows_of h.kind))).form (get_or l j no_slot).given)))
    → length (inputs_text (text h.label) rows l) ≡ sum_of (slot_length h) (places i rows)
unfolding inputs_text
herd-sum h i [] l b e = refl
herd-sum h i (row ∷ rows) [] b e = absurd (omega arith)
herd-sum h i (row ∷ rows) (s ∷ l) b e =
    let z : i + 0 ≡ i = omega arith in
    let first = rw z at (e 0 (omega arith)) in
    let record' = record_text (text h.label) row (value_text row.form s.given) in
    omega (
      arith,
      first,
      length-append record' (inputs_text (text h.label) rows l),
      herd-sum h (i + 1) rows l (omega arith) next,
    )
  where
    next : (j : ℕ) → j < length rows → slot_length h (i + 1 + j)
        ≡ length (record_text (text h.label) (get_or rows j (last_of (rows_of h.kind)))
        (value_text (get_or rows j (last_of (rows_of h.kind))).form (get_or l j no_slot).given))
    next j c = let y : i + suc j ≡ i + 1 + j = omega arith in rw y at (e (suc j) (omega arith))

herd-least : {rs : List Record} {h : Herd} → HerdOf rs h → count_of h.kind ≤ length h.slots
    → length (herd_file h) ≤ sum_of record_need rs
unfolding herd_file form_of
herd-least {rs} {h} x few =
    omega (
      arith,
      herd-sum h 0 (rows_of h.kind) h.slots few here-is,
      all_there (slot_length h) (rows_of h.kind) 0 x.part.inputs all,
      pairs-least x.part.each,
    )
  where
    zero_more : (j : ℕ) → 0 + j ≡ j
    zero_more j = omega arith

    here-is : (j : ℕ) → j < count_of h.kind → slot_length h (0 + j) ≡ slot_length h j
    here-is j b = rw (zero_more j)

    all : (j : ℕ) → j < count_of h.kind → Some (λ i. i ≡ 0 + j) x.part.inputs
    all j b = rw (zero_more j) (x.all j b)

-- ---- a farm

stand-least : {rs : List Record} {hs : List Herd} → StandTogether HerdOf rs hs
    → length (file_of hs) ≤ sum_of record_need rs
unfolding file_of
stand-least StandTogether.none = omega arith
stand-least (StandTogether.more {rs} {rest} {h} {hs} x s) =
    let few : count_of h.kind ≤ length h.slots = omega (arith, x.part.room, count_most h.kind) in
    omega (
      arith,
      herd-least x few,
      stand-least s,
      need_append rs rest,
      length-append (herd_file h) (each herd_file hs),
    )

module _ (limits : Limits) {s : List ℕ} {f : Farm} (k : KeepsRules limits s f) where
  farm-least : length (file_of (herds_of f)) ≤ sum_of record_need k.records
  farm-least =
      let its = ap (λ (x : Farm). herds_of x) k.says.is ∙ herds-of k.says.herds in
      omega (arith, ap (λ (hs : List Herd). length (file_of hs)) its, stand-least k.says.stand)

  -- What is written of a farm is at most two bytes longer than any accepted file that says it: the last CRLF.
  pub two-bytes-longer : length (file_of (herds_of f)) ≤ length s + 2
  two-bytes-longer = omega (arith, farm-least, file-least k.reads)

  -- Where the file's last record has its CRLF, it is no longer.
  pub no_longer : Before k.records s [] → length (file_of (herds_of f)) ≤ length s
  no_longer b = omega (arith, farm-least, ended-least b)

  -- So what is written passes the limit only where the file comes within a byte of it and lacks its last CRLF.
  pub too_long_when : limits.bytes < length (file_of (herds_of f))
      → (limits.bytes ≤ length s + 1) × (Before k.records s [] → ⊥)
  too_long_when h = (omega (arith, h, two-bytes-longer), λ b. omega (arith, h, no_longer b, k.short))
