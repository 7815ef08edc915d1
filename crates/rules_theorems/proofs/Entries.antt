-- A record by itself: it says a label, an input and a value, or one of 3 to 7 is given, the first that applies. Assumes
-- nothing.
use Rattle.std.specs.Prelude.{Err, None, Ok, Some}
use Prim.Native.Nat.{ℕ}
use mathlib.Core.Path.{◌≡◌, refl, sym, ap, ◌∙◌}
use mathlib.Core.Bool.{Bool, true, false}
use mathlib.Core.List.{List, [], ◌∷◌}
use native.Mathlib.Omega.{arith}
use lib.Dec.{eqb}
use lib.ListN.{length, get_or}
use borrow.Author.Tests.{eqb-true, eqb-false}
use Rattle.base.specs.First.{first}
use Rattle.base.proofs.Clash.{clash}
use Rattle.grammar.specs.Reading.{parts_of}
use Rattle.inputs.specs.declared.Kind.{Kind}
use Rattle.inputs.specs.declared.Form.{Form}
use Rattle.inputs.specs.Inputs.{form_of}
use Rattle.finding.specs.Find.{find_input, FoundInput}
use Rattle.finding.proofs.Finds.{find_input-at, find_input-of}
use Rattle.farm.specs.declared.Given.{Given}
use Rattle.farm.specs.declared.Refusal.{Refusal}
use Rattle.farm.specs.declared.Refusal.TheVariants.{NotFourFields, BadLabel, NotInTheList, StandardForbidden, BadValue}
use Rattle.farm.specs.Labels.{label_ok, label_of}
use Rattle.farm.specs.Refusals.{number}
use Rattle.limits.specs.declared.Limits.{Limits}
use Rattle.reader.specs.declared.FileAnswer.{FileAnswer}
use Rattle.values.specs.Values.{value_of}
use Rattle.records.specs.Entries.{kind_in, slot_in, given_in, entry_tests}
use Rattle.reader.specs.Files.{refused}
use Rattle.first_refusal.specs.Records.{Record}
use Rattle.rules_theorems.specs.Rules.{GoodLabel, Names, ValueIs, RecordSays, says}
use Rattle.rules_theorems.specs.Refusals.{
  label_text,
  value_in,
  NamesInput,
  Applies,
  not_four_fields,
  bad_label,
  not_in_the_list,
  standard_forbidden,
  bad_value,
}
use Rattle.rules_theorems.proofs.Labels.{ok_good, good_ok}
use Rattle.rules_theorems.proofs.Values.{value-said, said-value, forbidden_said, said_forbidden}
use Rattle.rules_theorems.proofs.Faults.{NoneBelow, none_yet, none-next}
use Rattle.number_values.specs.Numbers.{ValueRead}
use Rattle.number_values.specs.declared.ValueFault.TheVariants.{Forbidden, Unfit}

-- ---- the input that a record names

found-named : (m n : List ℕ) {k : Kind} {i : ℕ} {form : Form} → find_input m n ≡ Some (k, i, form)
    → Names m n k i × (form ≡ form_of k i)
found-named m n e = let x = find_input-at m n e in
    (record { inside = x.0.inside; path = x.0.path; name = x.0.name }, x.1)

named-found : {m n : List ℕ} {k : Kind} {i : ℕ} → Names m n k i → find_input m n ≡ Some (k, i, form_of k i)
named-found {m} {n} {k} {i} x = find_input-of m n k i (record { inside = x.inside; path = x.path; name = x.name })

-- what is found is one input
same_found : {f g : Kind × ℕ × Form} → Some f ≡ Some g → f ≡ g
same_found e = cc

module _ {m n : List ℕ} {k k' : Kind} {i j : ℕ} (x : Names m n k i) (y : Names m n k' j) where
  one-found : ◌≡◌ {A = Kind × ℕ × Form} (k, i, form_of k i) (k', j, form_of k' j)
  one-found = same_found (sym (named-found x) ∙ named-found y)

  pub one-kind : k ≡ k'
  one-kind = ap (λ (f : Kind × ℕ × Form). f.0) one-found

  pub one-slot : i ≡ j
  one-slot = ap (λ (f : Kind × ℕ × Form). f.1) one-found

-- ---- a record that says something passes 3 to 7, and is read as what it says

pub record Reads (cs : Record) (l : List ℕ) (k : Kind) (i : ℕ) (g : Given) : Type 0 where
  pub label : label_text cs ≡ l
  pub good : GoodLabel l
  pub names : NamesInput cs k i
  pub kind : kind_in (parts_of cs) ≡ k
  pub slot : slot_in (parts_of cs) ≡ i
  pub given : given_in (parts_of cs) ≡ g
  pub value : ValueIs (form_of k i) (value_in cs) g
  pub passes : (n : ℕ) (z : FileAnswer) → first (entry_tests (refused n) (parts_of cs)) z ≡ z

pub reads : {cs : Record} {l : List ℕ} {k : Kind} {i : ℕ} {g : Given} → RecordSays cs l k i g → Reads cs l k i g
reads (says {label = l} good names value) =
    let found = named-found names in
    let said = value-said value in
    record {
      label = refl;
      good = good;
      names = names;
      kind = rw found;
      slot = rw found;
      given = rw (found, said);
      value = value;
      passes = λ n z. rw (good_ok l good, found, said);
    }

-- a record says one thing
pub record Same {A : Type 0} (l l' : A) (k k' : Kind) (i j : ℕ) (g g' : Given) : Type 0 where
  pub label : l ≡ l'
  pub kind : k ≡ k'
  pub slot : i ≡ j
  pub given : g ≡ g'

pub one-given : {cs : Record} {l l' : List ℕ} {k k' : Kind} {i j : ℕ} {g g' : Given} → RecordSays cs l k i g
    → RecordSays cs l' k' j g' → Same l l' k k' i j g g'
one-given a b =
    let r = reads a in
    let q = reads b in
    record {
      label = sym r.label ∙ q.label;
      kind = sym r.kind ∙ q.kind;
      slot = sym r.slot ∙ q.slot;
      given =
          sym r.given ∙ q.given;
    }

-- ---- the other way

four : {k : Kind} {i : ℕ} {g : Given} (cs : Record) → length cs ≡ 4 → GoodLabel (label_text cs) → NamesInput cs k i
    → ValueIs (form_of k i) (value_in cs) g → RecordSays cs (label_text cs) k i g
four [] e = absurd (omega arith)
four (a ∷ []) e = absurd (omega arith)
four (a ∷ b ∷ []) e = absurd (omega arith)
four (a ∷ b ∷ c ∷ []) e = absurd (omega arith)
four (a ∷ b ∷ c ∷ d ∷ []) e = says
four (a ∷ b ∷ c ∷ d ∷ x ∷ cs) e = absurd (omega arith)

pub data Alone (limits : Limits) (before : List Record) (cs : Record) : Type 0 where
  tells : {l : List ℕ} {k : Kind} {i : ℕ} {g : Given} → RecordSays cs l k i g → NoneBelow limits before cs 8
      → Alone limits before cs
  wrong : {refusal : Refusal} → Applies limits before cs refusal → NoneBelow limits before cs (number refusal)
      → ((n : ℕ) (z : FileAnswer) → first (entry_tests (refused n) (parts_of cs)) z ≡ refused n refusal)
      → Alone limits before cs

module _ (limits : Limits) (before : List Record) (cs : Record) where
  no_3 : length cs ≡ 4 → Applies limits before cs NotFourFields → ⊥
  no_3 e (not_four_fields n) = n e

  no_4 : GoodLabel (label_text cs) → Applies limits before cs BadLabel → ⊥
  no_4 g (bad_label n) = n g

  module _ {k : Kind} {i : ℕ} (names : NamesInput cs k i) where
    no_5 : Applies limits before cs NotInTheList → ⊥
    no_5 (not_in_the_list n) = n k i names

    -- the one input that it names has one form
    one_form : {k' : Kind} {j : ℕ} → NamesInput cs k' j → form_of k' j ≡ form_of k i
    one_form x = let q = one-kind x names in let s = one-slot x names in cc

    module _ {r : ValueRead} (e : value_of (form_of k i) (value_in cs) ≡ r) where
      no_6 : (r ≡ Err Forbidden → ⊥) → Applies limits before cs StandardForbidden → ⊥
      no_6 n (standard_forbidden x f s) =
          n (sym e ∙ ap (λ form. value_of form (value_in cs)) (sym (one_form x)) ∙ forbidden_said (value_in cs) f s)

    no_7 : {g : Given} → ValueIs (form_of k i) (value_in cs) g → Applies limits before cs BadValue → ⊥
    no_7 {g} v (bad_value x n) = n g (rw (one_form x) v)

  pub alone : Alone limits before cs
  alone = count (eqb (length cs) 4) refl
    where
      value : {k : Kind} {i : ℕ} → length cs ≡ 4 → eqb (length cs) 4 ≡ true → GoodLabel (label_text cs)
          → label_ok (label_of (label_text cs)) ≡ true → NamesInput cs k i
          → find_input (get_or cs 1 []) (get_or cs 2 []) ≡ Some (k, i, form_of k i) → NoneBelow limits before cs 6
          → (r : ValueRead)
          → value_of (form_of k i) (value_in cs) ≡ r → Alone limits before cs
      value {k} {i} h e3 good e4 names e5 below (Ok g) e =
          let v = said-value (form_of k i) (value_in cs) e in
          tells (four cs h good names v) (none-next 7 (none-next 6 below (no_6 names e (λ d. clash cc))) (no_7 names v))
      value {k} {i} h e3 good e4 names e5 below (Err Forbidden) e =
          let f = said_forbidden (form_of k i) (value_in cs) e in
          wrong (standard_forbidden names f.0 f.1) below (λ n z. rw (e3, e4, e5, e))
      value h e3 good e4 names e5 below (Err Unfit) e =
          wrong
          (bad_value names (λ g v. let s = value-said v in clash cc))
          (none-next 6 below (no_6 names e (λ d. clash cc)))
          (λ n z. rw (e3, e4, e5, e))

      input : length cs ≡ 4 → eqb (length cs) 4 ≡ true → GoodLabel (label_text cs)
          → label_ok (label_of (label_text cs)) ≡ true → NoneBelow limits before cs 5
          → (r : FoundInput) → find_input (get_or cs 1 []) (get_or cs 2 []) ≡ r → Alone limits before cs
      input h e3 good e4 below (Some (k, i, form)) e =
          let x = found-named (get_or cs 1 []) (get_or cs 2 []) e in
          value h e3 good e4 x.0 (named-found x.0) (none-next 5 below (no_5 x.0))
          (value_of (form_of k i) (value_in cs)) refl
      input h e3 good e4 below None e =
          wrong
          (not_in_the_list (λ k i names. let f = named-found names in clash cc))
          below
          (λ n z. rw (e3, e4, e))

      label : length cs ≡ 4 → eqb (length cs) 4 ≡ true → NoneBelow limits before cs 4 → (t : Bool)
          → label_ok (label_of (label_text cs)) ≡ t → Alone limits before cs
      label h e3 below true e =
          let good = ok_good (label_text cs) e in
          input h e3 good e (none-next 4 below (no_4 good)) (find_input (get_or cs 1 []) (get_or cs 2 [])) refl
      label h e3 below false e =
          wrong (bad_label (λ good. let g = good_ok (label_text cs) good in clash cc)) below (λ n z. rw (e3, e))

      count : (t : Bool) → eqb (length cs) 4 ≡ t → Alone limits before cs
      count true e = let h = eqb-true (length cs) 4 e in
          label h e (none-next 3 none_yet (no_3 h)) (label_ok (label_of (label_text cs))) refl
      count false e = wrong (not_four_fields (eqb-false (length cs) 4 e)) none_yet (λ n z. rw e)
