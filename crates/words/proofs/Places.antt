-- What a found place says: the text is the name there, and none of the others, since no list has a name twice. Assumes
-- nothing.
use Rattle.std.specs.Prelude.{None, Some}
use Prim.Native.Nat.{ℕ, zero, suc, ◌+◌, ◌<◌}
use Prim.Native.String.{String}
use mathlib.Core.Path.{◌≡◌, refl, sym, subst}
use mathlib.Core.Bool.{Bool, true, false}
use mathlib.Core.List.{List, [], ◌∷◌, map}
use native.Mathlib.Omega.{arith}
use lib.Dec.{eqb}
use lib.ListN.{length, get_or}
use borrow.Author.Tests.{eqb-true, eqb-false}
use Rattle.base.specs.Pick.{pick}
use Rattle.base.specs.Text.{bytes}
use Rattle.base.specs.Part.{same_bytes}
use Rattle.base.proofs.Clash.{clash}
use Rattle.base.proofs.Holds.{same-eq, same_self}
use Rattle.words.specs.Find.{first_from, is_name, find_text, is_at, modules, input_names, Found}
use Rattle.words.proofs.Tables.{entry_at, places}

-- ---- a search through a list

-- j is i and `past` more, and the test holds of the entry there
record Seen {A : Type 0} (test : A → Bool) (l : List A) (d : A) (i j : ℕ) : Type 0 where
  pub past : ℕ
  pub is : j ≡ i + past
  pub inside : past < length l
  pub holds : test (get_or l past d) ≡ true

seen : {A : Type 0} (test : A → Bool) (l : List A) (d : A) (i j : ℕ) → first_from test i l ≡ Some j → Seen test l d i j
unfolding first_from
seen test [] d i j e = clash cc
seen {A} test (x ∷ l) d i j e = go (test x) refl e (seen test l d (i + 1) j)
  where
    go : (t : Bool) → test x ≡ t → pick t (Some i) (first_from test (i + 1) l) ≡ Some j
        → (first_from test (i + 1) l ≡ Some j → Seen test l d (i + 1) j) → Seen test (x ∷ l) d i j
    go true h s more = let q : i ≡ j = cc in record { past = 0; is = omega arith; inside = omega arith; holds = h }
    go false h s more =
        let r = more s in
        record { past = suc r.past; is = omega (arith, r.is); inside = omega (arith, r.inside); holds = r.holds }

unseen : {A : Type 0} (test : A → Bool) (l : List A) (d : A) (i k : ℕ) → first_from test i l ≡ None → k < length l
    → test (get_or l k d) ≡ false
unfolding first_from
unseen test [] d i k e h = absurd (omega arith)
unseen test (x ∷ l) d i k e h = go (test x) refl e k h (λ n. unseen test l d (i + 1) n)
  where
    go : (t : Bool) → test x ≡ t → pick t (Some i) (first_from test (i + 1) l) ≡ None → (k : ℕ) → k < suc (length l)
        → ((n : ℕ) → first_from test (i + 1) l ≡ None → n < length l → test (get_or l n d) ≡ false)
        → test (get_or (x ∷ l) k d) ≡ false
    go true q e k h more = clash cc
    go false q e zero h more = q
    go false q e (suc n) h more = more n e (omega arith)

-- ---- a text and a list of names

module _ (names : List String) (s : List ℕ) where
  -- the text is the name at this place
  pub record IsNamed (j : ℕ) : Type 0 where
    pub inside : j < length names
    pub name : s ≡ bytes (get_or names j "")

  pub find_text-at : (j : ℕ) → find_text names s ≡ Some j → IsNamed j
  unfolding find_text is_name
  find_text-at j e =
      let r = seen (is_name s) names "" 0 j e in
      let z : r.past ≡ j = omega (arith, r.is) in
      let h = subst (λ (k : ℕ). same_bytes s (bytes (get_or names k "")) ≡ true) z r.holds in
      record { inside = omega (arith, r.inside); name = same-eq s (bytes (get_or names j "")) h }

  find_text-none : find_text names s ≡ None → (k : ℕ) → k < length names
      → same_bytes s (bytes (get_or names k "")) ≡ false
  unfolding find_text is_name
  find_text-none e k h = unseen (is_name s) names "" 0 k e h

-- no name stands twice: each is found where it stands
abbrev pub Once : List String → Type 0
Once names = map Some (places 0 names) ≡ map (λ name. find_text names (bytes name)) names

module _ (names : List String) (once : Once names) (s : List ℕ) where
  pub find_text-of : (j : ℕ) → IsNamed names s j → find_text names s ≡ Some j
  find_text-of j h = rw h.name
      (sym (entry_at Some (λ (name : String). find_text names (bytes name)) names "" once j h.inside))

  -- so the text is the name at k exactly where k is the place that is found
  pub same-text-at : {x : Found} → x ≡ find_text names s → (k : ℕ) → k < length names
      → same_bytes s (bytes (get_or names k "")) ≡ is_at x k
  same-text-at {x} e k h = go x e
    where
      other : (j : ℕ) → Some j ≡ find_text names s → (k ≡ j → ⊥) → (t : Bool)
          → same_bytes s (bytes (get_or names k "")) ≡ t
          → t ≡ false
      other j e n true q =
          let f = find_text-of k (record { inside = h; name = same-eq s (bytes (get_or names k "")) q }) in
          let z : j ≡ k = cc in
          absurd (n (sym z))
      other j e n false q = refl

      at : (j : ℕ) → Some j ≡ find_text names s → (t : Bool) → eqb k j ≡ t
          → same_bytes s (bytes (get_or names k "")) ≡ t
      at j e true q =
          let z : k ≡ j = eqb-true k j q in
          rw ((find_text-at names s j (sym e)).name, z) (same_self (bytes (get_or names j "")))
      at j e false q = other j e (eqb-false k j q) (same_bytes s (bytes (get_or names k ""))) refl

      go : (x : Found) → x ≡ find_text names s → same_bytes s (bytes (get_or names k "")) ≡ is_at x k
      go (Some j) e = at j e (eqb k j) refl
      go None e = find_text-none names s (sym e) k h

-- ---- the lists have no name twice

pub modules-once : Once modules
unfolding find_text first_from is_name same_bytes
modules-once = refl

pub input-names-once : Once input_names
unfolding find_text first_from is_name same_bytes
input-names-once = refl
