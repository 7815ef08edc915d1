-- Laws of lists whose entries have a property. Assumes nothing.
use Prim.Native.Nat.{◌≤◌}
use mathlib.Core.Path.{◌≡◌, refl}
use mathlib.Core.Bool.{Bool, true, false, ◌&&◌, ◌||◌}
use mathlib.Core.List.{List, [], ◌∷◌, ◌++◌}
use mathlib.Core.Logic.{◌⊎◌, inl, inr, ⊎_elim}
use native.Mathlib.Omega.{arith}
use lib.ListN.{length}
use Rattle.base.specs.Each.{Each, none, more}
use Rattle.first_refusal.specs.Records.{Record}
use Rattle.first_refusal.proofs.Readings.{Split}
use Rattle.rules_theorems.specs.Lists.{Some, here, there, Last, only, past, Apart, Pairs}

-- ---- flags

pub both : (a b : Bool) → (a && b) ≡ true → (a ≡ true) × (b ≡ true)
both true b e = (refl, e)
both false b e = (cc, cc)

pub neither : (a b : Bool) → (a || b) ≡ false → (a ≡ false) × (b ≡ false)
neither true b e = (cc, cc)
neither false b e = (refl, e)

-- ---- each

module _ {A : Type 0} {P : A → Type 0} where
  pub each_append : {a b : List A} → Each P a → Each P b → Each P (a ++ b)
  each_append none e = e
  each_append (more p d) e = more p (each_append d e)

  pub each-front : (a b : List A) → Each P (a ++ b) → Each P a
  each-front [] b e = none
  each-front (x ∷ a) b (more p e) = more p (each-front a b e)

  pub each_back : (a b : List A) → Each P (a ++ b) → Each P b
  each_back [] b e = e
  each_back (x ∷ a) b (more p e) = each_back a b e

-- ---- some

-- one of the list has both properties
pub record Met {A : Type 0} (P Q : A → Type 0) : Type 0 where
  pub of : A
  pub one : P of
  pub other : Q of

module _ {A : Type 0} {P : A → Type 0} where
  pub meet : {Q : A → Type 0} {l : List A} → Each P l → Some Q l → Met P Q
  meet none s = elim s [ ]
  meet (more p ps) (here q) = record { of = _; one = p; other = q }
  meet (more p ps) (there s) = meet ps s

  pub some-front : {a : List A} (b : List A) → Some P a → Some P (a ++ b)
  some-front b (here p) = here p
  some-front b (there s) = there (some-front b s)

  pub some_back : (a : List A) {b : List A} → Some P b → Some P (a ++ b)
  some_back [] s = s
  some_back (x ∷ a) s = there (some_back a s)

  pub some-map : {Q : A → Type 0} {l : List A} → ((a : A) → P a → Q a) → Some P l → Some Q l
  some-map f (here p) = here (f _ p)
  some-map f (there s) = there (some-map f s)

  pub some-split : (a : List A) {b : List A} → Some P (a ++ b) → Some P a ⊎ Some P b
  some-split [] s = inr s
  some-split (x ∷ a) (here p) = inl (here p)
  some-split (x ∷ a) (there s) = ⊎_elim (λ t. inl (there t)) inr (some-split a s)

  pub some-none : {R : Type 0} → Some P [] → R
  some-none s = elim s [ ]

-- ---- the last

pub record HasLast {A : Type 0} (l : List A) : Type 0 where
  pub of : A
  pub is : Last l of

pub has_last : {A : Type 0} (l : List A) → 1 ≤ length l → HasLast l
has_last [] n = absurd (omega arith)
has_last (a ∷ []) n = record { of = a; is = only }
has_last (a ∷ b ∷ l) n = let r = has_last (b ∷ l) (omega arith) in record { of = r.of; is = past r.is }

module _ {A : Type 0} where
  pub last-append : (a : List A) {b : List A} {x : A} → Last b x → Last (a ++ b) x
  last-append [] l = l
  last-append (y ∷ a) l = past (last-append a l)

  pub last_none : {R : Type 0} {x : A} → Last [] x → R
  last_none l = elim l [ ]

  pub last_one : {l : List A} {x y : A} → Last l x → Last l y → x ≡ y
  last_one only only = refl
  last_one only (past m) = last_none m
  last_one (past l) only = last_none l
  last_one (past l) (past m) = last_one l m

  pub last_some : {P : A → Type 0} {l : List A} {x : A} → Last l x → P x → Some P l
  last_some only p = here p
  last_some (past l) p = there (last_some l p)

  pub last-each : {P : A → Type 0} {l : List A} {x : A} → Last l x → Each P l → P x
  last-each only (more p none) = p
  last-each (past l) (more p ps) = last-each l ps

-- ---- no two are one

pub apart-last : {A : Type 0} {l : List A} {a : A} → Apart l → Each (λ b. b ≡ a → ⊥) l → Apart (l ++ (a ∷ []))
apart-last Apart.none none = Apart.next none Apart.none
apart-last (Apart.next n d) (more p e) = Apart.next (each_append n (more p none)) (apart-last d e)

-- ---- two lists

module _ {A B : Type 0} {R : A → B → Type 0} where
  pub pairs-append : {l l' : List A} {m m' : List B} → Pairs R l m → Pairs R l' m' → Pairs R (l ++ l') (m ++ m')
  pairs-append Pairs.none q = q
  pairs-append (Pairs.more r p) q = Pairs.more r (pairs-append p q)

pub pairs-map : {A B : Type 0} {R S : A → B → Type 0} {P : B → Type 0} {l : List A} {m : List B}
    → ((a : A) (b : B) → R a b → P b → S a b) → Pairs R l m → Each P m → Pairs S l m
pairs-map f Pairs.none none = Pairs.none
pairs-map f (Pairs.more r p) (more q e) = Pairs.more (f _ _ r q) (pairs-map f p e)

module _ {A B : Type 0} {R : A → B → Type 0} {P : A → Type 0} {Q : B → Type 0} where
  pub some_left : {l : List A} {m : List B} → ((a : A) (b : B) → R a b → Q b → P a) → Pairs R l m → Some Q m → Some P l
  some_left f Pairs.none s = elim s [ ]
  some_left f (Pairs.more r p) (here q) = here (f _ _ r q)
  some_left f (Pairs.more r p) (there s) = there (some_left f p s)

  pub some_right : {l : List A} {m : List B} → ((a : A) (b : B) → R a b → P a → Q b) → Pairs R l m → Some P l → Some Q m
  some_right f Pairs.none s = elim s [ ]
  some_right f (Pairs.more r p) (here q) = here (f _ _ r q)
  some_right f (Pairs.more r p) (there s) = there (some_right f p s)

pub each_left : {A B : Type 0} {R : A → B → Type 0} {P : A → Type 0} {l : List A} {m : List B}
    → ((a : A) (b : B) → R a b → P a) → Pairs R l m → Each P l
each_left f Pairs.none = none
each_left f (Pairs.more r p) = more (f _ _ r) (each_left f p)

-- one that has a fellow of a property
pub record Fellow {A B : Type 0} (R : A → B → Type 0) (Q : B → Type 0) : Type 0 where
  pub one : A
  pub of : B
  pub pair : R one of
  pub has : Q of

pub fellow : {A B : Type 0} {R : A → B → Type 0} {Q : B → Type 0} {l : List A} {m : List B} → Pairs R l m → Some Q m
    → Fellow R Q
fellow Pairs.none s = elim s [ ]
fellow (Pairs.more r p) (here q) = record { one = _; of = _; pair = r; has = q }
fellow (Pairs.more r p) (there s) = fellow p s

-- ---- records

-- what holds of each holds of one that stands there
pub at_split : {P : Record → Type 0} {rs a : List Record} {c : Record} → Split rs a c → Each P rs → P c
at_split {P} {rs} {a} {c} s e = go (each_back a (c ∷ s.after) (rw s.is at e))
  where
    go : {l : List Record} → Each P (c ∷ l) → P c
    go (more p _) = p
