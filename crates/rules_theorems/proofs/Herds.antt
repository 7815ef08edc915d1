-- A herd and the records that say it: how both grow by a record, that the records determine the herd, and what it means
-- that an input lacks. Assumes nothing.
use Prim.Native.Nat.{ℕ, zero, suc, ◌+◌, ◌<◌, ◌≤◌}
use mathlib.Core.Path.{◌≡◌, refl, sym, ap, ◌∙◌}
use mathlib.Core.Bool.{Bool, true, false, ◌||◌}
use mathlib.Core.List.{List, [], ◌∷◌, ◌++◌}
use mathlib.Core.Logic.{◌⊎◌, inl, inr}
use native.Mathlib.Omega.{arith}
use lib.Dec.{eqb}
use lib.ListN.{length, get_or, set, replicate, length-set, length-append}
use lib.Seq.{get_or-set_same, get_or-set_other, ext_get_or}
use borrow.Author.Tests.{eq-eqb, eqb-true, eqb-false, not-false}
use Rattle.base.proofs.Clash.{clash}
use Rattle.base.specs.Each.{Each, none, more}
use Rattle.inputs.specs.declared.Kind.{Kind}
use Rattle.inputs.specs.declared.Kind.TheVariants.{Roughage, Cattle, Pigs, DairyCow}
use Rattle.inputs.specs.declared.Form.{Form}
use Rattle.inputs.specs.Inputs.{Row, rows_of, kinds, number_of, same_kind, count_of}
use Rattle.farm.specs.declared.Label.{Label}
use Rattle.farm.specs.declared.Given.{Given}
use Rattle.farm.specs.declared.Slot.{Slot}
use Rattle.farm.specs.declared.Herd.{Herd}
use Rattle.herd_tests.specs.Tests.{lacks_one, lacks}
use Rattle.farm.specs.Limits.{slots}
use Rattle.farm.specs.Labels.{label_of}
use Rattle.farm.specs.Herds.{is_missing, no_slot}
use Rattle.farm.proofs.Slots.{count_most}
use Rattle.progress.specs.Herds.{with_input, new_herd, has_input}
use Rattle.rules_theorems.specs.Lists.{Some, here, there, Apart, Pairs}
use Rattle.first_refusal.specs.Records.{Record}
use Rattle.rules_theorems.specs.Rules.{ValueIs, RecordSays, Gives, PartOf, HerdOf}
use Rattle.rules_theorems.proofs.Lists.{
  neither,
  each-front,
  each_back,
  meet,
  apart-last,
  pairs-append,
  pairs-map,
  fellow,
}
use Rattle.rules_theorems.proofs.Entries.{reads, one-given}

-- ---- kinds

pub own-kind : (k : Kind) → same_kind k k ≡ true
own-kind k = eq-eqb (number_of k) (number_of k) refl

-- a kind stands in the list at its number
kind_at : (d k : Kind) → get_or kinds (number_of k) d ≡ k
kind_at d Roughage = refl
kind_at d Cattle = refl
kind_at d Pigs = refl
kind_at d DairyCow = refl

pub kind-one : (a b : Kind) → same_kind a b ≡ true → a ≡ b
kind-one a b e =
    sym (kind_at a a) ∙ ap (λ (n : ℕ). get_or kinds n a) (eqb-true (number_of a) (number_of b) e) ∙ kind_at a b

pub kind-two : (a b : Kind) → same_kind a b ≡ false → a ≡ b → ⊥
kind-two a b e d = let t : false ≡ true = sym e ∙ ap (λ (k : Kind). same_kind k b) d ∙ own-kind b in clash cc

-- ---- slots

slot-room : (k : Kind) (slot : ℕ) → slot < count_of k → slot < slots
slot-room k slot h = omega (arith, count_most k)

blank : (n j : ℕ) → get_or (replicate n no_slot) j no_slot ≡ no_slot
blank zero zero = refl
blank zero (suc j) = refl
blank (suc n) zero = refl
blank (suc n) (suc j) = blank n j

-- a slot is one of these, or none
pub some-slot : (j : ℕ) (is : List ℕ) → Some (λ i. i ≡ j) is ⊎ Each (λ i. i ≡ j → ⊥) is
some-slot j [] = inr none
some-slot j (i ∷ is) = go (eqb i j) refl (some-slot j is)
  where
    go : (t : Bool) → eqb i j ≡ t → Some (λ i. i ≡ j) is ⊎ Each (λ i. i ≡ j → ⊥) is
        → Some (λ i. i ≡ j) (i ∷ is) ⊎ Each (λ i. i ≡ j → ⊥) (i ∷ is)
    go true e r = inl (here (eqb-true i j e))
    go false e (inl s) = inl (there s)
    go false e (inr n) = inr (more (eqb-false i j e) n)

-- ---- values

-- what a record says of an input is not nothing
pub value-given : {form : Form} {s : List ℕ} {g : Given} → ValueIs form s g → is_missing g ≡ false
value-given (ValueIs.number _ _) = refl
value-given (ValueIs.or_standard _ _) = refl
value-given (ValueIs.no_standard _ _) = refl
value-given (ValueIs.standard _) = refl
value-given (ValueIs.signed _ _) = refl
value-given (ValueIs.name _) = refl

abbrev pub missing_at : Herd → ℕ → Bool
missing_at h j = is_missing (get_or h.slots j no_slot).given

pub gives-filled : {h : Herd} {cs : Record} {i : ℕ} → Gives h cs i → missing_at h i ≡ false
gives-filled x = ap (λ (s : Slot). is_missing s.given) x.has ∙ value-given (reads x.says).value

-- no input has a slot that is missing
pub unfilled : {h : Herd} {rs : List Record} {is : List ℕ} (j : ℕ) → Pairs (Gives h) rs is → missing_at h j ≡ true
    → Each (λ i. i ≡ j → ⊥) is
unfilled j Pairs.none e = none
unfilled {h} j (Pairs.more {b = i} x p) e =
    more (λ d. let f : true ≡ false = sym e ∙ ap (missing_at h) (sym d) ∙ gives-filled x in clash cc) (unfilled j p e)

-- ---- a herd grows by a record

module _ {cs : Record} {l : List ℕ} {k : Kind} {i : ℕ} {g : Given} (said : RecordSays cs l k i g) where
  inside : i < slots
  inside = slot-room k i (reads said).names.inside

  pub part-new : PartOf (cs ∷ []) (new_herd (label_of l) k i g)
  unfolding new_herd with_input
  part-new =
      record {
        inputs = i ∷ [];
        some = omega arith;
        each =
            Pairs.more
            (record {
              label = l;
              given = g;
              says = said;
              own = refl;
              has =
                  get_or-set_same (replicate slots no_slot) i (record { given = g }) no_slot inside;
            })
            Pairs.none;
        once = Apart.next none Apart.none;
        room = length-set (replicate slots no_slot) i (record { given = g });
        rest = fresh;
      }
    where
      fresh : (j : ℕ) → Each (λ i. i ≡ j → ⊥) (i ∷ [])
          → get_or (set (replicate slots no_slot) i (record { given = g })) j no_slot ≡ no_slot
      fresh j (more n none) =
          get_or-set_other (replicate slots no_slot) i j (record { given = g }) no_slot (λ e. n (sym e))
          ∙ blank slots j

  module _ (h : Herd) (own : h.label ≡ label_of l) (kind : h.kind ≡ k) where
    gives-kept : (r : Record) (j : ℕ) → Gives h r j → (j ≡ i → ⊥) → Gives (with_input h i g) r j
    unfolding with_input
    gives-kept r j x n =
        record {
          label = x.label;
          given = x.given;
          says = x.says;
          own = x.own;
          has = get_or-set_other h.slots i j (record { given = g }) no_slot n ∙ x.has;
        }

    gives-new : length h.slots ≡ slots → Gives (with_input h i g) cs i
    unfolding with_input
    gives-new room =
        record {
          label = l;
          given = g;
          says = rw kind said;
          own = own;
          has = get_or-set_same h.slots i (record { given = g }) no_slot (omega (arith, inside));
        }

    pub part-more : {rs : List Record} → PartOf rs h → has_input h i ≡ false
        → PartOf (rs ++ (cs ∷ [])) (with_input h i g)
    unfolding with_input
    part-more {rs} p e =
        let open' = unfilled i p.each (not-false (missing_at h i) e) in
        record {
          inputs = p.inputs ++ (i ∷ []);
          some = omega (arith, p.some, length-append rs (cs ∷ []));
          each = pairs-append (pairs-map gives-kept p.each open') (Pairs.more (gives-new p.room) Pairs.none);
          once = apart-last p.once open';
          room = length-set h.slots i (record { given = g }) ∙ p.room;
          rest = fresh;
        }
      where
        fresh : (j : ℕ) → Each (λ i. i ≡ j → ⊥) (p.inputs ++ (i ∷ []))
            → get_or (set h.slots i (record { given = g })) j no_slot ≡ no_slot
        fresh j n = last (each_back p.inputs (i ∷ []) n) ∙ p.rest j (each-front p.inputs (i ∷ []) n)
          where
            last : Each (λ i. i ≡ j → ⊥) (i ∷ [])
                → get_or (set h.slots i (record { given = g })) j no_slot ≡ get_or h.slots j no_slot
            last (more m none) = get_or-set_other h.slots i j (record { given = g }) no_slot (λ d. m (sym d))

-- ---- the records determine the herd

herd-eq : (a b : Herd) → a.label ≡ b.label → a.kind ≡ b.kind → a.slots ≡ b.slots → a ≡ b
herd-eq a b p q r =
    ap (λ (x : Label). record { label = x; kind = a.kind; slots = a.slots }) p
    ∙ ap (λ (x : Kind). record { label = b.label; kind = x; slots = a.slots }) q
    ∙ ap (λ (x : List Slot). record { label = b.label; kind = b.kind; slots = x }) r

pub record Agree (h h' : Herd) (is is' : List ℕ) : Type 0 where
  pub inputs : is ≡ is'
  pub slots : Each (λ i. get_or h.slots i no_slot ≡ get_or h'.slots i no_slot) is

module _ {h h' : Herd} where
  slots-agree : {cs : Record} {i j : ℕ} → Gives h cs i → Gives h' cs j
      → (i ≡ j) × (get_or h.slots i no_slot ≡ get_or h'.slots i no_slot)
  slots-agree x y =
      let o = one-given x.says y.says in
      let e = o.slot in (
        e,
        x.has ∙ ap (λ (g : Given). record { given = g }) o.given ∙ sym y.has
            ∙ ap (λ (n : ℕ). get_or h'.slots n no_slot) (sym e),
      )

  pub agree : {rs : List Record} {is is' : List ℕ} → Pairs (Gives h) rs is → Pairs (Gives h') rs is' → Agree h h' is is'
  agree Pairs.none Pairs.none = record { inputs = refl; slots = none }
  agree (Pairs.more x p) (Pairs.more y q) =
      let s = slots-agree x y in
      let r = agree p q in
      record { inputs = let a = s.0 in let b = r.inputs in cc; slots = more s.1 r.slots }

  pub heads : {rs : List Record} {is is' : List ℕ} → 1 ≤ length rs → Pairs (Gives h) rs is → Pairs (Gives h') rs is'
      → (h.label ≡ h'.label) × (h.kind ≡ h'.kind)
  heads n Pairs.none q = absurd (omega arith)
  heads n (Pairs.more x p) (Pairs.more y q) = let o = one-given x.says y.says in
      (x.own ∙ ap label_of o.label ∙ sym y.own, o.kind)

  pub one-herd : {rs : List Record} → PartOf rs h → PartOf rs h' → h ≡ h'
  one-herd p q =
      let a = agree p.each q.each in
      let e = heads p.some p.each q.each in
      herd-eq h h' e.0 e.1
      (ext_get_or no_slot h.slots h'.slots (p.room ∙ sym q.room) (λ j _. at a j (some-slot j p.inputs)))
    where
      at : Agree h h' p.inputs q.inputs → (j : ℕ)
          → Some (λ i. i ≡ j) p.inputs ⊎ Each (λ i. i ≡ j → ⊥) p.inputs
          → get_or h.slots j no_slot ≡ get_or h'.slots j no_slot
      at a j (inl s) = let m = meet a.slots s in rw m.other at m.one
      at a j (inr n) = p.rest j n ∙ sym (q.rest j (rw a.inputs at n))

-- ---- a herd that lacks an input

lacks-none : (rs : List Row) (slots : List Slot) → lacks_one rs slots ≡ false → (j : ℕ) → j < length rs
    → is_missing (get_or slots j no_slot).given ≡ false
lacks-none [] slots e j h = absurd (omega arith)
lacks-none (row ∷ rs) [] e j h = clash cc
lacks-none (row ∷ rs) (s ∷ slots) e zero h = (neither (is_missing s.given) (lacks_one rs slots) e).0
lacks-none (row ∷ rs) (s ∷ slots) e (suc j) h =
    lacks-none rs slots (neither (is_missing s.given) (lacks_one rs slots) e).1 j (omega arith)

none-lacks : (rs : List Row) (slots : List Slot) → length rs ≤ length slots
    → ((j : ℕ) → j < length rs → is_missing (get_or slots j no_slot).given ≡ false) → lacks_one rs slots ≡ false
none-lacks [] slots h f = refl
none-lacks (row ∷ rs) [] h f = absurd (omega arith)
none-lacks (row ∷ rs) (s ∷ slots) h f =
    rw (f 0 (omega arith)) (none-lacks rs slots (omega arith) (λ j b. f (suc j) (omega arith)))

-- one of the slots is missing
pub record Missed (rs : List Row) (slots : List Slot) : Type 0 where
  pub slot : ℕ
  pub inside : slot < length rs
  pub missing : is_missing (get_or slots slot no_slot).given ≡ true

lacks-one : (rs : List Row) (slots : List Slot) → length rs ≤ length slots → lacks_one rs slots ≡ true → Missed rs slots
lacks-one [] slots h e = clash cc
lacks-one (row ∷ rs) [] h e = absurd (omega arith)
lacks-one (row ∷ rs) (s ∷ slots) h e = go (is_missing s.given) refl e (lacks-one rs slots (omega arith))
  where
    go : (t : Bool) → is_missing s.given ≡ t → (t || lacks_one rs slots) ≡ true
        → (lacks_one rs slots ≡ true → Missed rs slots) → Missed (row ∷ rs) (s ∷ slots)
    go true m e later = record { slot = 0; inside = omega arith; missing = m }
    go false m e later = let r = later e in
        record { slot = suc r.slot; inside = omega (arith, r.inside); missing = r.missing }

module _ {rs : List Record} {h : Herd} (p : PartOf rs h) where
  room : count_of h.kind ≤ length h.slots
  room = omega (arith, p.room, count_most h.kind)

  -- the slot of an input that a record gives
  filled : (j : ℕ) → Some (λ i. i ≡ j) p.inputs → missing_at h j ≡ false
  filled j s = let f = fellow p.each s in rw f.has at (gives-filled f.pair)

  -- the record that fills a slot
  filling : (j : ℕ) → missing_at h j ≡ false → Some (λ i. i ≡ j) p.inputs
  filling j e = go (some-slot j p.inputs)
    where
      go : Some (λ i. i ≡ j) p.inputs ⊎ Each (λ i. i ≡ j → ⊥) p.inputs → Some (λ i. i ≡ j) p.inputs
      go (inl s) = s
      go (inr n) = let b = ap (λ (s : Slot). is_missing s.given) (p.rest j n) in clash cc

  pub part-all : lacks h ≡ false → HerdOf rs h
  unfolding lacks
  part-all e = record { part = p; all = λ j b. filling j (lacks-none (rows_of h.kind) h.slots e j (omega arith)) }

  pub all-part : ((j : ℕ) → j < count_of h.kind → Some (λ i. i ≡ j) p.inputs) → lacks h ≡ false
  unfolding lacks
  all-part all = none-lacks (rows_of h.kind) h.slots room (λ j b. filled j (all j b))

  pub part_missed : lacks h ≡ true → Missed (rows_of h.kind) h.slots
  unfolding lacks
  part_missed e = lacks-one (rows_of h.kind) h.slots room e
