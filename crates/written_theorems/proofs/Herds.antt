-- The records that are written of a herd are those of the herd that says the same and nothing else, by the words of the
-- rules; a herd that a file said is that herd itself. Assumes nothing.
use Prim.Native.Nat.{ℕ, zero, suc, ◌+◌, ◌-◌, ◌≤◌, ◌<◌}
use mathlib.Core.Path.{◌≡◌, refl, sym, ap, subst, ◌∙◌}
use mathlib.Core.Bool.{Bool, true, false}
use mathlib.Core.List.{List, [], ◌∷◌, ◌++◌}
use native.Mathlib.Omega.{arith}
use borrow.Author.Tests.{ltb-true, ltb-false}
use lib.Dec.{ltb, lit≤}
use lib.ListN.{
  length,
  get_or,
  take,
  drop,
  replicate,
  length-append,
  length-drop,
  length-replicate,
  take-append-drop,
  get_or-append,
}
use lib.Seq.{length-take-le, get_or-take, get_or-drop, get_or-append-add, ext_get_or}
use Rattle.base.specs.Each.{Each, none, more}
use Rattle.base.specs.Text.{bytes}
use Rattle.words.proofs.Tables.{places}
use Rattle.inputs.specs.declared.Kind.{Kind}
use Rattle.inputs.specs.declared.Kind.TheVariants.{Roughage, Cattle, Pigs, DairyCow}
use Rattle.inputs.specs.Inputs.{Row, rows_of, count_of, last_of, row_at, form_of}
use Rattle.farm.specs.declared.Slot.{Slot}
use Rattle.farm.specs.declared.Herd.{Herd}
use Rattle.farm.specs.Limits.{slots}
use Rattle.farm.specs.Labels.{text, label_of}
use Rattle.farm.specs.Herds.{no_slot}
use Rattle.farm.proofs.Slots.{count_most}
use Rattle.checks.specs.Accepts.{Passes, GoodHerd}
use Rattle.first_refusal.specs.Records.{Record}
use Rattle.rules_theorems.specs.Lists.{Some, here, there, Apart, Pairs}
use Rattle.rules_theorems.specs.Rules.{GoodLabel, ValueIs, RecordSays, Gives, HerdOf}
use Rattle.rules_theorems.proofs.Lists.{meet}
use Rattle.rules_theorems.proofs.Labels.{room, text_of}
use Rattle.rules_theorems.proofs.Entries.{reads}
use Rattle.rules_theorems.proofs.Farms.{part-labelled}
use Rattle.value_texts.specs.Values.{value_text}
use Rattle.file_text.specs.Files.{inputs_text, herd_file}
use Rattle.file_text.specs.Records.{fields_of, input_records, herd_records}
use Rattle.written_theorems.specs.Alike.{Alike, said, HasRoom}
use Rattle.written_theorems.proofs.Values.{value-is}
use Rattle.written_theorems.proofs.Labels.{same_text, good-text}

-- ---- the slots, counted

place-some : {A : Type 0} (l : List A) (i j : ℕ) → j < length l → Some (λ x. x ≡ i + j) (places i l)
place-some [] i j h = absurd (omega arith)
place-some (a ∷ l) i zero h = here {a = i} (omega arith)
place-some (a ∷ l) i (suc j) h =
    let e : i + 1 + j ≡ i + suc j = omega arith in
    there (rw e at (place-some l (i + 1) j (omega arith)))

places-above : {A : Type 0} (l : List A) (i j : ℕ) → i < j → Each (λ b. i ≡ b → ⊥) (places j l)
places-above [] i j h = none
places-above (a ∷ l) i j h = more (λ (e : i ≡ j). omega arith) (places-above l i (j + 1) (omega arith))

places-apart : {A : Type 0} (l : List A) (i : ℕ) → Apart (places i l)
places-apart [] i = Apart.none
places-apart (a ∷ l) i = Apart.next (places-above l i (i + 1) (omega arith)) (places-apart l (i + 1))

count-some : (k : Kind) → 1 ≤ count_of k
count-some Roughage = lit≤ tt
count-some Cattle = lit≤ tt
count-some Pigs = lit≤ tt
count-some DairyCow = lit≤ tt

-- ---- the slots of a herd that the checks accept

pub enough : {rows : List Row} {l : List Slot} → Passes rows l → length rows ≤ length l
enough Passes.none = omega arith
enough (Passes.next m f p) = omega (arith, enough p)

as_many : (label : List ℕ) {rows : List Row} {l : List Slot} → Passes rows l
    → length (input_records label rows l) ≡ length rows
as_many label Passes.none = refl
as_many label (Passes.next m f p) = ap suc (as_many label p)

nothing-there : (n j : ℕ) → get_or (replicate n no_slot) j no_slot ≡ no_slot
nothing-there zero j = refl
nothing-there (suc n) zero = refl
nothing-there (suc n) (suc j) = nothing-there n j

module _ (h : Herd) (few : count_of h.kind ≤ length h.slots) where
  count-front : length (take (count_of h.kind) h.slots) ≡ count_of h.kind
  count-front = length-take-le (count_of h.kind) h.slots few

  pub slot-said : (j : ℕ) → j < count_of h.kind → get_or (said h).slots j no_slot ≡ get_or h.slots j no_slot
  slot-said j b =
      get_or-append (take (count_of h.kind) h.slots) (replicate (slots - count_of h.kind) no_slot) no_slot j
      (omega (arith, count-front))
      ∙ get_or-take (count_of h.kind) h.slots j no_slot b

  slots-said : length (said h).slots ≡ slots
  slots-said =
      omega (
        arith,
        length-append (take (count_of h.kind) h.slots) (replicate (slots - count_of h.kind) no_slot),
        count-front,
        length-replicate {A = Slot} (slots - count_of h.kind) no_slot,
        count_most h.kind,
      )

  none-behind : (j : ℕ) → count_of h.kind ≤ j → get_or (said h).slots j no_slot ≡ no_slot
  none-behind j b =
      let n = count_of h.kind in
      let e : j ≡ length (take n h.slots) + (j - n) = omega (arith, count-front) in
      ap (λ (i : ℕ). get_or (said h).slots i no_slot) e
      ∙ get_or-append-add (take n h.slots) (replicate (slots - n) no_slot) (j - n) no_slot
      ∙ nothing-there (slots - n) (j - n)

-- ---- the records of a herd

-- the row and the slot at a place, from i on
record At (h : Herd) (i : ℕ) (row : Row) (s : Slot) : Type 0 where
  inside : i < count_of h.kind
  row_is : row_at h.kind i ≡ row
  slot_is : get_or (said h).slots i no_slot ≡ s

module _ (h : Herd) (good : GoodLabel (text h.label)) where
  gives : {i : ℕ} {row : Row} {s : Slot} → At h i row s
      → ValueIs row.form (value_text row.form s.given) s.given
      → Gives (said h) (fields_of (text h.label) row (value_text row.form s.given)) i
  unfolding form_of
  gives {i} {row} {s} a v =
      let fit : ValueIs (form_of h.kind i) (value_text row.form s.given) s.given =
      subst (λ (r : Row). ValueIs r.form (value_text row.form s.given) s.given) (sym a.row_is) v in
      record {
        label = text h.label;
        given = s.given;
        says = RecordSays.says good
            (record {
              inside = a.inside;
              path = ap (λ (r : Row). bytes r.path) (sym a.row_is);
              name = ap (λ (r : Row). bytes r.name) (sym a.row_is);
            })
            fit;
        own = refl;
        has = a.slot_is;
      }

  each-gives : (i : ℕ) {rows : List Row} {l : List Slot} → Passes rows l
      → ((j : ℕ) → j < length rows → At h (i + j) (get_or rows j (last_of (rows_of h.kind))) (get_or l j no_slot))
      → Pairs (Gives (said h)) (input_records (text h.label) rows l) (places i rows)
  each-gives i Passes.none at = Pairs.none
  each-gives i (Passes.next {row} {rows} {s} {slots = l} m f p) at =
      let z : i + 0 ≡ i = omega arith in
      let here : At h i row s = rw z at (at 0 (omega arith)) in
      Pairs.more (gives here (value-is row.form s.given m f)) (each-gives (i + 1) p next)
    where
      next : (j : ℕ) → j < length rows
          → At h (i + 1 + j) (get_or rows j (last_of (rows_of h.kind))) (get_or l j no_slot)
      next j b = let e : i + suc j ≡ i + 1 + j = omega arith in rw e at (at (suc j) (omega arith))

module _ (h : Herd) (x : HasRoom h) (g : GoodHerd h) where
  few : count_of h.kind ≤ length h.slots
  few = enough g.inputs

  there-are : (j : ℕ) → j < count_of h.kind → At h (0 + j) (row_at h.kind j) (get_or h.slots j no_slot)
  there-are j b =
      let z : 0 + j ≡ j = omega arith in
      rw z (record { inside = b; row_is = refl; slot_is = slot-said h few j b })

  nothing_else : (slot : ℕ) → Each (λ i. i ≡ slot → ⊥) (places 0 (rows_of h.kind))
      → get_or (said h).slots slot no_slot ≡ no_slot
  nothing_else slot n = go (ltb slot (count_of h.kind)) refl
    where
      go : (t : Bool) → ltb slot (count_of h.kind) ≡ t → get_or (said h).slots slot no_slot ≡ no_slot
      go true e =
          let m = meet n (place-some (rows_of h.kind) 0 slot (ltb-true slot (count_of h.kind) e)) in
          let i : m.of ≡ slot = omega (arith, m.other) in
          absurd (m.one i)
      go false e = none-behind h few slot (ltb-false slot (count_of h.kind) e)

  pub herd-written : HerdOf (herd_records h) (said h)
  herd-written =
      record {
        part =
            record {
              inputs = places 0 (rows_of h.kind);
              some = omega (arith, as_many (text h.label) g.inputs, count-some h.kind);
              each = each-gives h (good-text h.label x.label g.label) 0 g.inputs there-are;
              once = places-apart (rows_of h.kind) 0;
              room = slots-said h few;
              rest = nothing_else;
            };
        all = λ slot b. rw (zero_more slot) at (place-some (rows_of h.kind) 0 slot b);
      }
    where
      zero_more : (slot : ℕ) → 0 + slot ≡ slot
      zero_more slot = omega arith

  pub alike-said : Alike h (said h)
  alike-said =
      record {
        kind = refl;
        label = sym (same_text h.label x.label g.label);
        inputs = λ slot b. ap (λ (s : Slot). s.given) (sym (slot-said h few slot b));
      }

-- ---- a herd that a file said

module _ {rs : List Record} {h : Herd} (x : HerdOf rs h) where
  inside-count : (j : ℕ) → count_of h.kind ≤ j → Each (λ i. i ≡ j → ⊥) x.part.inputs
  inside-count j b = go x.part.each
    where
      go : {rs : List Record} {is : List ℕ} → Pairs (Gives h) rs is → Each (λ i. i ≡ j → ⊥) is
      go Pairs.none = none
      go (Pairs.more {b = i} p ps) = more (λ (e : i ≡ j). omega (arith, (reads p.says).names.inside)) (go ps)

  slots-are : (said h).slots ≡ h.slots
  slots-are =
      let n = count_of h.kind in
      ap (λ (l : List Slot). take n h.slots ++ l)
      (ext_get_or no_slot (replicate (slots - n) no_slot) (drop n h.slots)
      (omega (arith, length-replicate {A = Slot} (slots - n) no_slot, length-drop n h.slots, x.part.room))
      (λ i b. nothing-there (slots - n) i
      ∙ sym (get_or-drop n h.slots i no_slot ∙ x.part.rest (n + i) (inside-count (n + i) (omega arith)))))
      ∙ take-append-drop n h.slots

  pub herd-said : said h ≡ h
  herd-said =
      let l = part-labelled x.part in
      let t : label_of (text h.label) ≡ h.label =
      ap (λ y. label_of (text y)) l.is ∙ ap label_of (text_of l.text l.good.most) ∙ sym l.is in
      ap (λ y. record { label = y; kind = h.kind; slots = (said h).slots }) t
      ∙ ap (λ y. record { label = h.label; kind = h.kind; slots = y }) slots-are

  pub herd-roomy : HasRoom h
  herd-roomy = let l = part-labelled x.part in record { label = rw l.is (room l.text) }

-- ---- herds that are alike are written alike

slots-alike : (label : List ℕ) {rows : List Row} {l m : List Slot} → Passes rows l → Passes rows m
    → ((j : ℕ) → j < length rows → (get_or l j no_slot).given ≡ (get_or m j no_slot).given)
    → inputs_text label rows l ≡ inputs_text label rows m
unfolding inputs_text
slots-alike label Passes.none q e = refl
slots-alike label (Passes.next {row} {rows} {s} {slots = l} a b p) (Passes.next {s = t} {slots = m} c d q) e =
    let first : s.given ≡ t.given = e 0 (omega arith) in
    let rest = slots-alike label p q (λ j b. e (suc j) (omega arith)) in
    rw (inputs_text, first, rest)

pub herds-alike : {g h : Herd} → Alike g h → GoodHerd g → GoodHerd h → herd_file g ≡ herd_file h
unfolding herd_file
herds-alike {g} {h} a x y =
    let inputs : Passes (rows_of g.kind) h.slots = rw a.kind y.inputs in
    ap (λ (label : List ℕ). inputs_text label (rows_of g.kind) g.slots) a.label
    ∙ slots-alike (text h.label) x.inputs inputs a.inputs
    ∙ ap (λ (k : Kind). inputs_text (text h.label) (rows_of k) h.slots) a.kind
