-- The search in numbers is the search by texts, and the loop over a module's slots. Assumes nothing.
use Rattle.std.specs.Prelude.{None, Some}
use Prim.Native.Nat.{ℕ, suc, ◌+◌, ◌-◌, ◌<◌, ◌≤◌}
use Prim.Native.String.{String}
use mathlib.Core.Path.{◌≡◌, refl, sym, ap, ◌∙◌}
use mathlib.Core.Bool.{Bool, true, ◌&&◌, and-false}
use mathlib.Core.List.{List, [], ◌∷◌, map}
use native.Mathlib.Omega.{arith}
use lib.Dec.{eqb, ltb}
use lib.ListN.{length, get_or}
use borrow.Author.Tests.{ltb-true, eq-eqb, ne_eqb}
use Rattle.base.specs.Pick.{pick}
use Rattle.base.specs.Text.{bytes}
use Rattle.base.specs.Part.{same_bytes}
use Rattle.base.proofs.Holds.{both_true}
use Rattle.words.specs.Find.{find_text, is_at, modules, input_names, place_in, Found}
use Rattle.words.proofs.Places.{same-text-at, modules-once, input-names-once}
use Rattle.inputs.specs.declared.Kind.{Kind}
use Rattle.inputs.specs.declared.Kind.TheVariants.{Roughage, Cattle, Pigs, DairyCow}
use Rattle.inputs.specs.declared.Input.{Input}
use Rattle.inputs.specs.Inputs.{Row, rows_of, kinds, row_at}
use Rattle.inputs.specs.Numbered.{numbered}
use Rattle.finding.specs.Find.{
  is_row,
  first_row,
  find_among,
  find_input,
  is_placed,
  placed_among,
  find_placed,
  find_slots,
  find_within,
}
use Rattle.finding.specs.Find.{FoundInput, Module}

-- ---- texts and places

-- a row's module and name, as its places say them and as they are
abbrev by_places : Row → List String
by_places row =
    get_or modules (place_in modules row.path) "" ∷ get_or input_names (place_in input_names row.name) "" ∷ []

abbrev own : Row → List String
own row = row.path ∷ row.name ∷ []

abbrev inside : Row → Bool
inside row = ltb (place_in modules row.path) (length modules)
    && ltb (place_in input_names row.name) (length input_names)

-- the one computed test: every module and name of the list has its place
record Placed (rows : List Row) : Type 0 where
  texts : map by_places rows ≡ map own rows
  places : map inside rows ≡ map (λ (row : Row). true) rows

all_placed : (k : Kind) → Placed (rows_of k)
all_placed Roughage = record { texts = refl; places = refl }
all_placed Cattle = record { texts = refl; places = refl }
all_placed Pigs = record { texts = refl; places = refl }
all_placed DairyCow = record { texts = refl; places = refl }

module _ (m n : List ℕ) {x y : Found} (qx : x ≡ find_text modules m) (qy : y ≡ find_text input_names n) where
  row-placed : (row : Row) → by_places row ≡ own row → inside row ≡ true → is_row m n row ≡ is_placed x y row
  unfolding is_row is_placed
  row-placed row e h =
      let b = both_true (ltb (place_in modules row.path) (length modules))
      (ltb (place_in input_names row.name) (length input_names)) h in
      let p : get_or modules (place_in modules row.path) "" ≡ row.path = cc in
      let q : get_or input_names (place_in input_names row.name) "" ≡ row.name = cc in
      let s = same-text-at modules modules-once m qx (place_in modules row.path) (ltb-true _ _ b.0) in
      let t = same-text-at input_names input-names-once n qy (place_in input_names row.name) (ltb-true _ _ b.1) in
      ap (λ (z : String). same_bytes m (bytes z) && same_bytes n (bytes row.name)) (sym p)
      ∙ ap (λ (z : String). same_bytes m (bytes (get_or modules (place_in modules row.path) ""))
      && same_bytes n (bytes z)) (sym q)
      ∙ ap (λ (z : Bool). z && same_bytes n (bytes (get_or input_names (place_in input_names row.name) ""))) s
      ∙ ap (λ (z : Bool). is_at x (place_in modules row.path) && z) t

  rows-placed : (k : Kind) (i : ℕ) (rows : List Row) {a b : FoundInput} → Placed rows → a ≡ b
      → first_row k (is_row m n) i rows a ≡ first_row k (is_placed x y) i rows b
  unfolding first_row
  rows-placed k i [] p e = e
  rows-placed k i (row ∷ rows) p e =
      let t = p.texts in
      let c = p.places in
      let here = row-placed row (cc) (cc) in
      let rest = rows-placed k (i + 1) rows (record { texts = cc; places = cc }) e in
      cc

  kinds-placed : (ks : List Kind) → find_among ks m n ≡ placed_among ks x y
  unfolding find_among placed_among
  kinds-placed [] = refl
  kinds-placed (k ∷ ks) = rows-placed k 0 (rows_of k) (all_placed k) (kinds-placed ks)

  input-placed : find_input m n ≡ find_placed x y
  unfolding find_input find_placed
  input-placed = kinds-placed kinds

  -- ---- what `find_input` returns

  module _ {i : ℕ} (ex : x ≡ Some i) where
    pub no_name : y ≡ None → None ≡ find_input m n
    unfolding find_placed placed_among first_row is_placed
    no_name e = sym (input-placed ∙ ap (λ (z : Found). find_placed x z) e ∙ simp and-false)

    module _ {j : ℕ} (ey : y ≡ Some j) (M : Module)
        (w : (name : Found) → find_placed (Some i) name ≡ find_within M name) where
      within : find_within M (Some j) ≡ find_input m n
      within = sym (input-placed ∙ ap (λ (z : Found). find_placed z y) ex
          ∙ ap (λ (z : Found). find_placed (Some i) z) ey ∙ w (Some j))

      pub in_module : {k : Kind} {a b : ℕ} {r : FoundInput} → M ≡ Some (k, a, b)
          → r ≡ find_within (Some (k, a, b)) (Some j) → r ≡ find_input m n
      in_module e h = h ∙ ap (λ (z : Module). find_within z (Some j)) (sym e) ∙ within

      pub past-modules : M ≡ None → None ≡ find_input m n
      unfolding find_within
      past-modules e = ap (λ (z : Module). find_within z (Some j)) (sym e) ∙ within

pub no_module : (m n : List ℕ) {x : Found} → x ≡ find_text modules m → x ≡ None → None ≡ find_input m n
unfolding find_placed placed_among first_row is_placed
no_module m n q e = sym (input-placed m n q refl ∙ ap (λ (z : Found). find_placed z (find_text input_names n)) e)

pub ruleset input_steps = (no_module, no_name, in_module, past-modules)

-- ---- the slots from `slot` on are still to be looked at, X is what is found among them all

module _ (k : Kind) (slot to j : ℕ) (X : FoundInput) (inv : find_slots k (to - slot) slot (Some j) ≡ X) where
  module _ (b : slot < to) {r : Input} (e : r ≡ numbered (row_at k slot)) where
    slot_next : pick (eqb r.0 j) (Some (k, slot, r.1)) (find_slots k (to - (slot + 1)) (slot + 1) (Some j)) ≡ X
    unfolding find_slots
    slot_next = let z : to - slot ≡ suc (to - (slot + 1)) = omega arith in rw e (rw z at inv)

    pub slot-found : r.0 ≡ j → Some (k, slot, r.1) ≡ X
    slot-found h = sym (rw (eq-eqb _ _ h)) ∙ slot_next

    pub slot-other : (r.0 ≡ j → ⊥) → find_slots k (to - (slot + 1)) (slot + 1) (Some j) ≡ X
    slot-other h = sym (rw (ne_eqb _ _ h)) ∙ slot_next

  pub slot-none : to ≤ slot → None ≡ X
  unfolding find_slots
  slot-none b = let z : to - slot ≡ 0 = omega arith in rw z at inv

pub ruleset slot_steps = (slot-found, slot-other, slot-none)
