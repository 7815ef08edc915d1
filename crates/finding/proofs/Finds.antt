-- What a found input is: the one of the list whose module and name were looked for. Assumes nothing.
use Rattle.std.specs.Prelude.{Some}
use Prim.Native.Nat.{ℕ, suc, ◌+◌, ◌<◌}
use mathlib.Core.Path.{◌≡◌, refl, sym, ap, subst}
use mathlib.Core.Bool.{Bool, true, false}
use mathlib.Core.List.{List, [], ◌∷◌, map}
use mathlib.Core.Logic.{◌⊎◌, inl, inr, ⊎_elim}
use native.Mathlib.Omega.{arith}
use lib.ListN.{length, get_or}
use Rattle.base.specs.Pick.{pick}
use Rattle.base.specs.Text.{bytes}
use Rattle.base.specs.Part.{same_bytes}
use Rattle.base.proofs.Clash.{clash}
use Rattle.base.proofs.Holds.{both_true, same-eq}
use Rattle.words.proofs.Tables.{entry_at, places}
use Rattle.inputs.specs.declared.Kind.{Kind}
use Rattle.inputs.specs.declared.Kind.TheVariants.{Roughage, Cattle, Pigs, DairyCow}
use Rattle.inputs.specs.declared.Form.{Form}
use Rattle.inputs.specs.Inputs.{Row, rows_of, kinds, count_of, last_of, row_at, form_of}
use Rattle.finding.specs.Find.{is_row, first_row, find_among, find_input, FoundInput}

-- the module m and the name n are those of the input in this slot
pub record IsInput (m n : List ℕ) (k : Kind) (slot : ℕ) : Type 0 where
  pub inside : slot < count_of k
  pub path : m ≡ bytes (row_at k slot).path
  pub name : n ≡ bytes (row_at k slot).name

-- ---- what was found is such a one

-- it is of this kind and stands `past` places on, where the test holds
record Seen (k : Kind) (test : Row → Bool) (rows : List Row) (d : Row) (i : ℕ) (k' : Kind) (j : ℕ) (form : Form) : Type
    0 where
  kind : k' ≡ k
  past : ℕ
  is : j ≡ i + past
  inside : past < length rows
  holds : test (get_or rows past d) ≡ true
  reads : form ≡ (get_or rows past d).form

same_found : {f g : Kind × ℕ × Form} → Some f ≡ Some g → f ≡ g
same_found e = cc

module _ (k : Kind) (test : Row → Bool) (d : Row) {elsewhere : FoundInput} {k' : Kind} {j : ℕ} {form : Form} where
  seen : (rows : List Row) (i : ℕ) → first_row k test i rows elsewhere ≡ Some (k', j, form)
      → Seen k test rows d i k' j form ⊎ (elsewhere ≡ Some (k', j, form))
  unfolding first_row
  seen [] i e = inr e
  seen (row ∷ rows) i e = go (test row) refl e (seen rows (i + 1))
    where
      later : Seen k test rows d (i + 1) k' j form ⊎ (elsewhere ≡ Some (k', j, form))
          → Seen k test (row ∷ rows) d i k' j form ⊎ (elsewhere ≡ Some (k', j, form))
      later (inl r) = inl (record {
        kind = r.kind;
        past = suc r.past;
        is = omega (arith, r.is);
        inside = omega (arith, r.inside);
        holds =
            r.holds;
        reads = r.reads;
      })
      later (inr e) = inr e

      go : (t : Bool) → test row ≡ t
          → pick t (Some (k, i, row.form)) (first_row k test (i + 1) rows elsewhere) ≡ Some (k', j, form)
          → (first_row k test (i + 1) rows elsewhere ≡ Some (k', j, form)
          → Seen k test rows d (i + 1) k' j form ⊎ (elsewhere ≡ Some (k', j, form)))
          → Seen k test (row ∷ rows) d i k' j form ⊎ (elsewhere ≡ Some (k', j, form))
      go true h s more =
          let p = same_found s in
          let q : i ≡ j = ap (λ (f : Kind × ℕ × Form). f.1) p in
          inl (record {
            kind = sym (ap (λ (f : Kind × ℕ × Form). f.0) p);
            past = 0;
            is = omega arith;
            inside = omega arith;
            holds = h;
            reads = sym (ap (λ (f : Kind × ℕ × Form). f.2) p);
          })
      go false h s more = later (more s)

module _ (m n : List ℕ) {k : Kind} {slot : ℕ} {form : Form} where
  seen-input : {k' : Kind} → Seen k' (is_row m n) (rows_of k') (last_of (rows_of k')) 0 k slot form
      → IsInput m n k slot × (form ≡ form_of k slot)
  unfolding is_row form_of
  seen-input {k'} r =
      let z : r.past ≡ slot = omega (arith, r.is) in
      let h : is_row m n (row_at k slot) ≡ true =
      subst (λ (x : Kind). is_row m n (row_at x slot) ≡ true) (sym r.kind)
      (subst (λ (i : ℕ). is_row m n (row_at k' i) ≡ true) z r.holds) in
      let b = both_true (same_bytes m (bytes (row_at k slot).path)) (same_bytes n (bytes (row_at k slot).name)) h in (
        record {
          inside = subst (λ (x : Kind). slot < count_of x) (sym r.kind) (omega (arith, r.inside));
          path = same-eq m (bytes (row_at k slot).path) b.0;
          name = same-eq n (bytes (row_at k slot).name) b.1;
        },
        subst (λ (x : Kind). form ≡ (row_at x slot).form) (sym r.kind)
            (subst (λ (i : ℕ). form ≡ (row_at k' i).form) z r.reads),
      )

  found_among : (ks : List Kind) → find_among ks m n ≡ Some (k, slot, form)
      → IsInput m n k slot × (form ≡ form_of k slot)
  unfolding find_among
  found_among [] e = clash cc
  found_among (k' ∷ ks) e =
      ⊎_elim seen-input (found_among ks) (seen k' (is_row m n) (last_of (rows_of k')) (rows_of k') 0 e)

  pub find_input-at : find_input m n ≡ Some (k, slot, form) → IsInput m n k slot × (form ≡ form_of k slot)
  unfolding find_input
  find_input-at e = found_among kinds e

-- ---- and each is found where it stands

-- the one computed test: no input has the module and the name of an earlier one
all_found : (k : Kind)
    → map (λ slot. Some (k, slot, form_of k slot)) (places 0 (rows_of k))
    ≡ map (λ row. find_input (bytes row.path) (bytes row.name)) (rows_of k)
unfolding form_of find_input find_among first_row is_row same_bytes
all_found Roughage = refl
all_found Cattle = refl
all_found Pigs = refl
all_found DairyCow = refl

pub find_input-of : (m n : List ℕ) (k : Kind) (slot : ℕ) → IsInput m n k slot
    → find_input m n ≡ Some (k, slot, form_of k slot)
find_input-of m n k slot h =
    rw (h.path, h.name)
    (sym (entry_at (λ (i : ℕ). Some (k, i, form_of k i)) (λ (row : Row). find_input (bytes row.path) (bytes row.name))
    (rows_of k) (last_of (rows_of k)) (all_found k) slot h.inside))
