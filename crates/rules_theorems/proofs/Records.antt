-- The records read so far and the herds that they said: labels and inputs of the ones are those of the others. Assumes
-- nothing.
use Prim.Native.Nat.{ℕ, suc, ◌≤◌}
use mathlib.Core.Path.{◌≡◌, refl, sym, ap, ◌∙◌}
use mathlib.Core.Logic.{⊎_elim}
use mathlib.Core.List.{List, [], ◌∷◌, map}
use native.Mathlib.Omega.{arith}
use lib.ListN.{length, length-map}
use Rattle.base.specs.Each.{Each, none, more}
use Rattle.base.proofs.Each.{each_map}
use Rattle.herd_tests.specs.Tests.{labels_of}
use Rattle.farm.specs.declared.Herd.{Herd}
use Rattle.farm.specs.Labels.{text, label_of}
use Rattle.limits.specs.declared.Limits.{Limits}
use Rattle.rules_theorems.specs.Lists.{Some, here, there, Apart}
use Rattle.first_refusal.specs.Records.{Record}
use Rattle.rules_theorems.specs.Rules.{GoodLabel, Gives, PartOf, StandTogether}
use Rattle.rules_theorems.specs.Refusals.{label_text, NamesInput, ManyLabels}
use Rattle.rules_theorems.proofs.Lists.{meet, some-front, some_back, some-split, each_left}
use Rattle.rules_theorems.proofs.Labels.{text_of, one-text}
use Rattle.rules_theorems.proofs.Entries.{reads}
use Rattle.rules_theorems.proofs.Farms.{Labelled}

-- ---- a record of a herd

pub record OfHerd (h : Herd) (r : Record) : Type 0 where
  pub is : h.label ≡ label_of (label_text r)
  pub good : GoodLabel (label_text r)
  pub slot : ℕ
  pub names : NamesInput r h.kind slot

pub of_herd : {h : Herd} (r : Record) (i : ℕ) → Gives h r i → OfHerd h r
of_herd r i x =
    let q = reads x.says in
    record { is = x.own ∙ ap label_of (sym q.label); good = rw q.label q.good; slot = i; names = q.names }

pub part-records : {b : List Record} {h : Herd} → PartOf b h → Each (OfHerd h) b
part-records p = each_left of_herd p.each

first_record : {P : Record → Type 0} (b : List Record) → 1 ≤ length b → Each P b → Some P b
first_record [] n e = absurd (omega arith)
first_record (r ∷ b) n (more p _) = here p

-- ---- labels

module _ {l : List ℕ} (good : GoodLabel l) where
  pub record_label : (h : Herd) (r : Record) → OfHerd h r → h.label ≡ label_of l → label_text r ≡ l
  record_label h r x e = one-text x.good good (sym x.is ∙ e)

  pub label_record : (h : Herd) (r : Record) → OfHerd h r → label_text r ≡ l → h.label ≡ label_of l
  label_record h r x e = x.is ∙ ap label_of e

  pub herd-seen : {b : List Record} {h : Herd} → PartOf b h → h.label ≡ label_of l → Some (λ r. label_text r ≡ l) b
  herd-seen {b} {h} p e = first_record b p.some (each_map (λ r x. record_label h r x e) (part-records p))

  pub seen-herd : {b : List Record} {h : Herd} → PartOf b h → Some (λ r. label_text r ≡ l) b → h.label ≡ label_of l
  seen-herd {h = h} p s = let m = meet (part-records p) s in label_record h m.of m.one m.other

  pub herds-seen : {a : List Record} {hs : List Herd} → StandTogether PartOf a hs → Some (λ h. h.label ≡ label_of l) hs
      → Some (λ r. label_text r ≡ l) a
  herds-seen StandTogether.none s = elim s [ ]
  herds-seen (StandTogether.more {rest = rest} p s) (here e) = some-front rest (herd-seen p e)
  herds-seen (StandTogether.more {rs = rs} p s) (there m) = some_back rs (herds-seen s m)

  pub seen-herds : {a : List Record} {hs : List Herd} → StandTogether PartOf a hs → Some (λ r. label_text r ≡ l) a
      → Some (λ h. h.label ≡ label_of l) hs
  seen-herds StandTogether.none s = elim s [ ]
  seen-herds (StandTogether.more {rs = rs} p s) m =
      ⊎_elim (λ x. here (seen-herd p x)) (λ x. there (seen-herds s x)) (some-split rs m)

-- ---- how many labels

-- the texts of the herds' labels
abbrev texts : List Herd → List (List ℕ)
texts hs = map (λ h. text h.label) hs

text-is : {h : Herd} (x : Labelled h) → text h.label ≡ x.text
text-is x = ap text x.is ∙ text_of x.text x.good.most

-- labels that are two have two texts
other-texts : {h : Herd} {hs : List Herd} → Labelled h → Each Labelled hs → Each (λ b. h.label ≡ b → ⊥) (labels_of hs)
    → Each (λ b. text h.label ≡ b → ⊥) (texts hs)
other-texts x none none = none
other-texts x (more y ys) (more n ns) =
    more (λ e. n (x.is ∙ ap label_of (sym (text-is x) ∙ e ∙ text-is y) ∙ sym y.is)) (other-texts x ys ns)

apart-texts : {hs : List Herd} → Each Labelled hs → Apart (labels_of hs) → Apart (texts hs)
apart-texts none Apart.none = Apart.none
apart-texts (more x xs) (Apart.next n d) = Apart.next (other-texts x xs n) (apart-texts xs d)

seen-text : {b : List Record} {h : Herd} (p : PartOf b h) → Labelled h → Some (λ r. label_text r ≡ text h.label) b
seen-text p x = rw (text-is x) (herd-seen x.good p x.is)

seen-texts : {a : List Record} {hs : List Herd} → StandTogether PartOf a hs → Each Labelled hs
    → Each (λ l. Some (λ r. label_text r ≡ l) a) (texts hs)
seen-texts StandTogether.none none = none
seen-texts (StandTogether.more {rs = rs} {rest = rest} p s) (more x xs) =
    more (some-front rest (seen-text p x)) (each_map (λ l m. some_back rs m) (seen-texts s xs))

pub many-labels : {limits : Limits} {a : List Record} {hs : List Herd} → StandTogether PartOf a hs → Each Labelled hs
    → Apart (labels_of hs) → length hs ≡ limits.herds → ManyLabels limits a
many-labels {hs = hs} s xs d n =
    record {
      labels = texts hs;
      many = length-map hs (λ h. text h.label) ∙ n;
      apart = apart-texts xs d;
      each =
          seen-texts s xs;
    }

-- the labels that records have are the texts of their herds' labels
text-seen : {a : List Record} {hs : List Herd} (l : List ℕ) → StandTogether PartOf a hs → Some (λ r. label_text r ≡ l) a
    → Some (λ t. l ≡ t) (texts hs)
text-seen l StandTogether.none s = elim s [ ]
text-seen l (StandTogether.more {rs = rs} {h = h} p s) m =
    ⊎_elim (λ x. here (own x)) (λ x. there (text-seen l s x)) (some-split rs m)
  where
    own : Some (λ r. label_text r ≡ l) rs → l ≡ text h.label
    own x =
        let q = meet (part-records p) x in
        sym q.other ∙ sym (ap text q.one.is ∙ text_of (label_text q.of) q.one.good.most)

-- a list without one of its entries
data Without {A : Type 0} (a : A) : List A → List A → Type 0 where
  front : {l : List A} → Without a (a ∷ l) l
  behind : {b : A} {l m : List A} → Without a l m → Without a (b ∷ l) (b ∷ m)

record Taken {A : Type 0} (a : A) (l : List A) : Type 0 where
  left : List A
  is : Without a l left

module _ {A : Type 0} where
  take_out : {a : A} {l : List A} → Some (λ b. a ≡ b) l → Taken a l
  take_out {a} (here {l = l} e) = record { left = l; is = rw e (Without.front {l = l}) }
  take_out (there {a = b} s) = let r = take_out s in record { left = b ∷ r.left; is = Without.behind r.is }

  one_less : {a : A} {l m : List A} → Without a l m → length l ≡ suc (length m)
  one_less Without.front = refl
  one_less (Without.behind w) = ap suc (one_less w)

  still : {a b : A} {l m : List A} → Without a l m → (a ≡ b → ⊥) → Some (λ x. b ≡ x) l → Some (λ x. b ≡ x) m
  still Without.front n (here e) = absurd (n (sym e))
  still Without.front n (there s) = s
  still (Without.behind w) n (here e) = here e
  still (Without.behind w) n (there s) = there (still w n s)

  all-still : {a : A} {l m : List A} {ks : List A} → Without a l m → Each (λ b. a ≡ b → ⊥) ks
      → Each (λ b. Some (λ x. b ≡ x) l) ks → Each (λ b. Some (λ x. b ≡ x) m) ks
  all-still w none none = none
  all-still w (more n ns) (more s ss) = more (still w n s) (all-still w ns ss)

  -- a list of different entries of another is no longer than it
  no_longer : {ks : List A} (l : List A) → Apart ks → Each (λ b. Some (λ x. b ≡ x) l) ks → length ks ≤ length l
  no_longer l Apart.none none = omega arith
  no_longer l (Apart.next n d) (more s ss) =
      let t = take_out s in
      let r = no_longer t.left d (all-still t.is n ss) in
      omega (arith, one_less t.is)

pub few-labels : {limits : Limits} {a : List Record} {hs : List Herd} → StandTogether PartOf a hs → ManyLabels limits a
    → limits.herds ≤ length hs
few-labels {hs = hs} s m =
    omega (
      arith,
      no_longer (texts hs) m.apart (each_map (λ l x. text-seen l s x) m.each),
      m.many,
      length-map hs (λ h. text h.label),
    )
