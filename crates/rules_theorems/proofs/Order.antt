-- 01, The farm file: "A herd's records stand together, in any order inside the herd." The records of a herd in another
-- order are all the records of the same herd; and in a file two neighbours of one label may change places. Assumes
-- nothing.
use Prim.Native.Nat.{ℕ, ◌≤◌}
use mathlib.Core.Path.{◌≡◌, refl, sym, ap, subst, ◌∙◌}
use mathlib.Core.List.{List, [], ◌∷◌, ◌++◌, append_assoc}
use native.Mathlib.Omega.{arith}
use lib.ListN.{length, length-append}
use Rattle.base.proofs.Clash.{clash}
use Rattle.base.specs.Each.{Each, more}
use Rattle.base.specs.Reordered.{Reordered, next, swap, chain}
use Rattle.base.proofs.Reordered.{reordered_back, reordered_length, each_reordered}
use Rattle.grammar.specs.Grammar.{FileOf}
use Rattle.csv_reader.proofs.Promises.{one-reading}
use Rattle.inputs.specs.declared.Kind.{Kind}
use Rattle.farm.specs.declared.Given.{Given}
use Rattle.farm.specs.declared.Herd.{Herd}
use Rattle.farm.specs.declared.Farm.{Farm}
use Rattle.farm.specs.Labels.{label_of}
use Rattle.limits.specs.declared.Limits.{Limits}
use Rattle.herd_tests.specs.Tests.{labels_of}
use Rattle.rules_theorems.specs.Lists.{Some, here, there, Apart, Pairs}
use Rattle.first_refusal.specs.Records.{Record}
use Rattle.rules_theorems.specs.Rules.{RecordSays, Gives, HerdOf, StandTogether, KeepsRules}
use Rattle.rules_theorems.specs.Refusals.{label_text, SameLabel}
use Rattle.rules_theorems.proofs.Lists.{some-none, each_back}
use Rattle.rules_theorems.proofs.Herds.{one-herd}

-- ---- lists in another order

module _ {A : Type 0} where
  some_reordered : {P : A → Type 0} {l m : List A} → Reordered l m → Some P l → Some P m
  some_reordered Reordered.none s = some-none s
  some_reordered (next o) (here p) = here p
  some_reordered (next o) (there s) = there (some_reordered o s)
  some_reordered swap (here p) = there (here p)
  some_reordered swap (there (here p)) = here p
  some_reordered swap (there (there s)) = there (there s)
  some_reordered (chain o q) s = some_reordered q (some_reordered o s)

  apart_reordered : {l m : List A} → Reordered l m → Apart l → Apart m
  apart_reordered Reordered.none Apart.none = Apart.none
  apart_reordered (next o) (Apart.next n d) = Apart.next (each_reordered o n) (apart_reordered o d)
  apart_reordered swap (Apart.next (more n ns) (Apart.next ms d)) =
      Apart.next (more (λ e. n (sym e)) ms) (Apart.next ns d)
  apart_reordered (chain o q) d = apart_reordered q (apart_reordered o d)

-- the fellows of a list in another order: the same, in that order
record Fellows {A B : Type 0} (R : A → B → Type 0) (l : List A) (m : List B) : Type 0 where
  fellows : List B
  pairs : Pairs R l fellows
  order : Reordered m fellows

pairs_reordered : {A B : Type 0} {R : A → B → Type 0} {l l' : List A} {m : List B} → Reordered l l' → Pairs R l m
    → Fellows R l' m
pairs_reordered Reordered.none Pairs.none = record { fellows = []; pairs = Pairs.none; order = Reordered.none }
pairs_reordered (next o) (Pairs.more {b} r p) =
    let x = pairs_reordered o p in
    record { fellows = b ∷ x.fellows; pairs = Pairs.more r x.pairs; order = next x.order }
pairs_reordered swap (Pairs.more {b = b} r (Pairs.more {b = c} {m = m} s p)) =
    record { fellows = c ∷ b ∷ m; pairs = Pairs.more s (Pairs.more r p); order = swap }
pairs_reordered (chain o q) p =
    let x = pairs_reordered o p in
    let y = pairs_reordered q x.pairs in
    record { fellows = y.fellows; pairs = y.pairs; order = chain x.order y.order }

-- ---- a herd

pub herd_in_any-order : {rs rs' : List Record} {h : Herd} → Reordered rs rs' → HerdOf rs h → HerdOf rs' h
herd_in_any-order o x =
    let p = x.part in
    let f = pairs_reordered o p.each in
    record {
      part =
          record {
            inputs = f.fellows;
            some = omega (arith, p.some, reordered_length o);
            each = f.pairs;
            once = apart_reordered f.order p.once;
            room = p.room;
            rest = λ slot n. p.rest slot (each_reordered (reordered_back f.order) n);
          };
      all = λ slot b. some_reordered f.order (x.all slot b);
    }

-- so two herds of the same records, whatever their order, are one
pub one-herd_in_any-order : {rs rs' : List Record} {h h' : Herd} → Reordered rs rs' → HerdOf rs h → HerdOf rs' h'
    → h ≡ h'
one-herd_in_any-order o x y = one-herd (herd_in_any-order o x).part y.part

-- ---- two neighbours x and y, with a before them and b behind: in the records of one herd, rs, in two herds, or in the
-- rest

data Stands (rs rest a : List Record) (x y : Record) (b : List Record) : Type 0 where
  inside : (c : List Record) → rs ≡ a ++ (x ∷ y ∷ c) → b ≡ c ++ rest → Stands rs rest a x y b
  between : rs ≡ a ++ (x ∷ []) → rest ≡ y ∷ b → Stands rs rest a x y b
  behind : (c : List Record) → a ≡ rs ++ c → rest ≡ c ++ (x ∷ y ∷ b) → Stands rs rest a x y b

module _ (rest : List Record) (x y : Record) (b : List Record) where
  at_front : (rs : List Record) (r : Record) → r ∷ (rs ++ rest) ≡ x ∷ y ∷ b → Stands (r ∷ rs) rest [] x y b
  at_front [] r e =
      let p : r ∷ [] ≡ x ∷ [] = cc in
      let q : rest ≡ y ∷ b = cc in
      between p q
  at_front (s ∷ rs) r e =
      let p : r ∷ s ∷ rs ≡ x ∷ y ∷ rs = cc in
      let q : b ≡ rs ++ rest = cc in
      inside rs p q

  one-before : {rs a : List Record} (r : Record) → Stands rs rest a x y b → Stands (r ∷ rs) rest (r ∷ a) x y b
  one-before r (inside c p q) = inside c (ap (λ (l : List Record). r ∷ l) p) q
  one-before r (between p q) = between (ap (λ (l : List Record). r ∷ l) p) q
  one-before r (behind c p q) = behind c (ap (λ (l : List Record). r ∷ l) p) q

  stands : (rs a : List Record) → rs ++ rest ≡ a ++ (x ∷ y ∷ b) → Stands rs rest a x y b
  stands [] a e = behind a refl e
  stands (r ∷ rs) [] e = at_front rs r e
  stands (r ∷ rs) (s ∷ a) e =
      let q : r ≡ s = cc in
      let d : rs ++ rest ≡ a ++ (x ∷ y ∷ b) = cc in
      subst (λ (t : Record). Stands (r ∷ rs) rest (t ∷ a) x y b) q (one-before r (stands rs a d))

neighbours : (x y : Record) (a c : List Record) → Reordered (a ++ (x ∷ y ∷ c)) (a ++ (y ∷ x ∷ c))
neighbours x y [] c = swap
neighbours x y (r ∷ a) c = next (neighbours x y a c)

-- ---- a record of a herd has its label

abbrev Labels : Herd → Record → Type 0
Labels h cs = h.label ≡ label_of (label_text cs)

says-label : {cs : Record} {l : List ℕ} {k : Kind} {i : ℕ} {g : Given} → RecordSays cs l k i g → l ≡ label_text cs
says-label (RecordSays.says _ _ _) = refl

each_label : {h : Herd} {rs : List Record} {is : List ℕ} → Pairs (Gives h) rs is → Each (Labels h) rs
each_label Pairs.none = Each.none
each_label (Pairs.more g p) = more (g.own ∙ ap label_of (says-label g.says)) (each_label p)

first-label : (h : Herd) (rs rest : List Record) (y : Record) (b : List Record) → 1 ≤ length rs → Each (Labels h) rs
    → rs ++ rest ≡ y ∷ b → Labels h y
first-label h [] rest y b n p e = absurd (omega arith)
first-label h (r ∷ rs) rest y b n (more p ps) e = let q : r ≡ y = cc in subst (Labels h) q p

last-label : (h : Herd) (a : List Record) (x : Record) → Each (Labels h) (a ++ (x ∷ [])) → Labels h x
last-label h a x e = only (each_back a (x ∷ []) e)
  where
    only : Each (Labels h) (x ∷ []) → Labels h x
    only (more p ps) = p

-- ---- a farm and a file

module _ (x y : Record) (same : SameLabel x y) where
  -- neighbours of one label are not in two herds
  not-between : (h : Herd) (rs rest a b : List Record) (hs : List Herd) → HerdOf rs h
      → Each (λ l. h.label ≡ l → ⊥) (labels_of hs) → StandTogether HerdOf rest hs
      → rs ≡ a ++ (x ∷ []) → rest ≡ y ∷ b → ⊥
  not-between h rs rest a b [] r n StandTogether.none p q = clash cc
  not-between h rs rest a b (k ∷ hs) r (more n ns) (StandTogether.more {rs = rs'} {rest = rest'} r' s) p q =
      let mine : Labels h x = last-label h a x (subst (Each (Labels h)) p (each_label r.part.each)) in
      let other : Labels k y = first-label k rs' rest' y b r'.part.some (each_label r'.part.each) q in
      n (mine ∙ ap label_of same ∙ sym other)

  swapped : (a b : List Record) {l : List Record} {hs : List Herd} → StandTogether HerdOf l hs → Apart (labels_of hs)
      → l ≡ a ++ (x ∷ y ∷ b)
      → StandTogether HerdOf (a ++ (y ∷ x ∷ b)) hs
  swapped a b StandTogether.none d e = absurd (omega (arith, ap length e, length-append a (x ∷ y ∷ b)))
  swapped a b (StandTogether.more {rs} {rest} {h} {hs} r s) (Apart.next n d) e =
      go (stands rest x y b rs a e) (λ c q. swapped c b s d q)
    where
      go : Stands rs rest a x y b
          → ((c : List Record) → rest ≡ c ++ (x ∷ y ∷ b) → StandTogether HerdOf (c ++ (y ∷ x ∷ b)) hs)
          → StandTogether HerdOf (a ++ (y ∷ x ∷ b)) (h ∷ hs)
      go (inside c p q) later =
          let mine : HerdOf (a ++ (x ∷ y ∷ c)) h = subst (λ (l : List Record). HerdOf l h) p r in
          let all : StandTogether HerdOf ((a ++ (y ∷ x ∷ c)) ++ rest) (h ∷ hs) =
          StandTogether.more (herd_in_any-order (neighbours x y a c) mine) s in
          rw q (subst (λ (l : List Record). StandTogether HerdOf l (h ∷ hs)) (append_assoc a (y ∷ x ∷ c) rest) all)
      go (between p q) later = absurd (not-between h rs rest a b hs r n s p q)
      go (behind c p q) later =
          let all : StandTogether HerdOf (rs ++ (c ++ (y ∷ x ∷ b))) (h ∷ hs) = StandTogether.more r (later c q) in
          rw p (subst (λ (l : List Record). StandTogether HerdOf l (h ∷ hs)) (sym (append_assoc rs c (y ∷ x ∷ b))) all)

-- two neighbours of one label change places in a file: it keeps the rules as before, and says the same farm
pub file-swapped : (limits : Limits) (s s' : List ℕ) (f : Farm) (a : List Record) (x y : Record) (b : List Record)
    → FileOf (a ++ (x ∷ y ∷ b)) s → FileOf (a ++ (y ∷ x ∷ b)) s'
    → SameLabel x y → length s' ≤ limits.bytes → KeepsRules limits s f → KeepsRules limits s' f
file-swapped limits s s' f a x y b reads reads' same short k =
    let farm = k.says in
    record {
      short = short;
      records = a ++ (y ∷ x ∷ b);
      reads = reads';
      says =
          record {
            herds = farm.herds;
            stand =
                swapped x y same a b farm.stand farm.apart
                (one-reading s k.records (a ++ (x ∷ y ∷ b)) k.reads reads);
            most = farm.most;
            apart = farm.apart;
            is = farm.is;
          };
    }
