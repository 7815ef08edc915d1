-- How far a file is read, as the herds before the one being read, that one, and numbers of records. Assumes nothing.
use Prim.Native.Nat.{ℕ, suc, ◌+◌, ◌-◌, ◌<◌, ◌≤◌}
use mathlib.Core.Path.{◌≡◌, refl, sym, ap, ◌∙◌}
use mathlib.Core.Bool.{Bool, true, false, not, ◌&&◌, ◌||◌}
use mathlib.Core.List.{List, [], ◌∷◌, ◌++◌, append_assoc, append-nil}
use native.Mathlib.Omega.{arith}
use lib.Dec.{leb}
use lib.ListN.{length, set, replicate, length-append}
use lib.Seq.{set-append_seam, take-append_seam}
use borrow.Author.Tests.{ne_eqb}
use Rattle.base.specs.Pick.{pick}
use Rattle.base.specs.First.{Test, ◌when◌, first}
use Rattle.base.proofs.Clash.{clash}
use Rattle.base.specs.Each.{Each, none, more}
use Rattle.grammar.specs.Reading.{parts_of}
use Rattle.inputs.specs.declared.Kind.{Kind}
use Rattle.inputs.specs.Inputs.{same_kind}
use Rattle.farm.specs.declared.Label.{Label}
use Rattle.farm.specs.declared.Given.{Given}
use Rattle.farm.specs.declared.Herd.{Herd}
use Rattle.farm.specs.declared.Farm.{Farm}
use Rattle.farm.specs.declared.Refusal.TheVariants.{EarlierLabel, NoRoomForHerd, OtherKind, GivenAlready}
use Rattle.farm.specs.Limits.{herds_most}
use Rattle.farm.specs.Labels.{same_label, label_of}
use Rattle.herd_tests.specs.Tests.{labels_of, earlier_label}
use Rattle.checks.specs.Checks.{herds_of}
use Rattle.farm.specs.Herds.{no_herd}
use Rattle.reader.specs.declared.FileAnswer.{FileAnswer}
use Rattle.records.specs.Entries.{kind_in, slot_in, given_in}
use Rattle.progress.specs.Herds.{with_input, new_herd, has_input}
use Rattle.next_herd.specs.Farms.{lacking_with}
use Rattle.reader.specs.Files.{Progress, refused, with_herd, closed, record_tests, taken}
use Rattle.rules_theorems.specs.Lists.{Some, here, there, Apart, Pairs}
use Rattle.first_refusal.specs.Records.{Record}
use Rattle.rules_theorems.specs.Rules.{GoodLabel, RecordSays, Gives, PartOf, StandTogether, farm_of}
use Rattle.rules_theorems.proofs.Lists.{neither, apart-last}
use Rattle.rules_theorems.proofs.Labels.{same-texts, other-label, own-label}
use Rattle.rules_theorems.proofs.Entries.{reads}

-- ---- a record that says something, with 8 to 11 before it

abbrev pub herd_tests : ℕ → ℕ → Progress → Label → Kind → ℕ → List (Test FileAnswer)
herd_tests most n p l k i =
    refused n EarlierLabel when (not (same_label p.herd.label l) && earlier_label (herds_of p.farm) l)
    ∷ refused n NoRoomForHerd when (not (same_label p.herd.label l) && leb most (closed p).farm.count)
    ∷ refused n OtherKind when (same_label p.herd.label l && not (same_kind p.herd.kind k))
    ∷ refused n GivenAlready when (same_label p.herd.label l && has_input p.herd i)
    ∷ []

abbrev pub took_to : ℕ → Progress → Label → Kind → ℕ → Given → Progress
took_to n p l k i g =
    pick (same_label p.herd.label l)
    (record { farm = p.farm; herd = with_input p.herd i g; first = p.first; lacking = p.lacking })
    (record { farm = (closed p).farm; herd = new_herd l k i g; first = n; lacking = (closed p).lacking })

module _ {cs : Record} {l : List ℕ} {k : Kind} {i : ℕ} {g : Given} (said : RecordSays cs l k i g) (n : ℕ)
    (p : Progress) where
  pub record_tests_lem : (most : ℕ) (z : FileAnswer)
      → first (record_tests most n p (parts_of cs)) z ≡ first (herd_tests most n p (label_of l) k i) z
  unfolding record_tests
  record_tests_lem most z =
      let r = reads said in
      r.passes n _
      ∙ ap (λ (t : List ℕ). first (herd_tests most n p (label_of t) (kind_in (parts_of cs)) (slot_in (parts_of cs))) z)
      r.label
      ∙ ap (λ (x : Kind). first (herd_tests most n p (label_of l) x (slot_in (parts_of cs))) z) r.kind
      ∙ ap (λ (j : ℕ). first (herd_tests most n p (label_of l) k j) z) r.slot

  pub record_took : taken n p (parts_of cs) ≡ took_to n p (label_of l) k i g
  unfolding taken
  record_took =
      let r = reads said in
      ap (λ (t : List ℕ). took_to n p (label_of t) (kind_in (parts_of cs)) (slot_in (parts_of cs))
      (given_in (parts_of cs)))
      r.label
      ∙ ap (λ (x : Kind). took_to n p (label_of l) x (slot_in (parts_of cs)) (given_in (parts_of cs))) r.kind
      ∙ ap (λ (j : ℕ). took_to n p (label_of l) k j (given_in (parts_of cs))) r.slot
      ∙ ap (λ (v : Given). took_to n p (label_of l) k i v) r.given

-- ---- farms

pub herds-of : (hs : List Herd) → herds_of (farm_of hs) ≡ hs
herds-of hs = take-append_seam hs (replicate (herds_most - length hs) no_herd)

farm-eq : (a b : Farm) → a.herds ≡ b.herds → a.count ≡ b.count → a ≡ b
farm-eq a b p q = ap (λ (x : List Herd). record { herds = x; count = a.count }) p
    ∙ ap (λ (n : ℕ). record { herds = b.herds; count = n }) q

-- one herd more
pub one_more : (hs : List Herd) (h : Herd) → length hs < herds_most
    → with_herd (farm_of hs) h ≡ farm_of (hs ++ (h ∷ []))
one_more hs h room =
    farm-eq (with_herd (farm_of hs) h) (farm_of (hs ++ (h ∷ [])))
    (ap (λ (n : ℕ). set (hs ++ replicate n no_herd) (length hs) h) front
    ∙ set-append_seam hs no_herd (replicate (herds_most - 1 - length hs) no_herd) h
    ∙ sym (append_assoc hs (h ∷ []) (replicate (herds_most - 1 - length hs) no_herd))
    ∙ ap (λ (n : ℕ). (hs ++ (h ∷ [])) ++ replicate n no_herd) back)
    (sym (length-append hs (h ∷ [])))
  where
    front : herds_most - length hs ≡ suc (herds_most - 1 - length hs)
    front = omega arith

    back : herds_most - 1 - length hs ≡ herds_most - length (hs ++ (h ∷ []))
    back = omega (arith, length-append hs (h ∷ []))

-- ---- how far a file is read

abbrev pub progress_at : List Herd → Herd → ℕ → ℕ → Progress
progress_at hs h first' lacking' = record { farm = farm_of hs; herd = h; first = first'; lacking = lacking' }

module _ (hs : List Herd) (h : Herd) (m k : ℕ) (room : length hs < herds_most) where
  pub closed-farm : (closed (progress_at hs h (m + 1) k)).farm ≡ farm_of (hs ++ (h ∷ []))
  unfolding closed
  closed-farm = rw (ne_eqb (m + 1) 0 (λ e. omega arith)) (one_more hs h room)

  pub closed-lacking : (closed (progress_at hs h (m + 1) k)).lacking ≡ lacking_with k h (m + 1)
  unfolding closed
  closed-lacking = rw (ne_eqb (m + 1) 0 (λ e. omega arith))

-- ---- the labels of herds

-- a herd has a good label
pub record Labelled (h : Herd) : Type 0 where
  pub text : List ℕ
  pub good : GoodLabel text
  pub is : h.label ≡ label_of text

pub part-labelled : {rs : List Record} {h : Herd} → PartOf rs h → Labelled h
part-labelled {rs} {h} p = go p.some p.each
  where
    go : {rs : List Record} {is : List ℕ} → 1 ≤ length rs → Pairs (Gives h) rs is → Labelled h
    go n Pairs.none = absurd (omega arith)
    go n (Pairs.more x q) = record { text = x.label; good = (reads x.says).good; is = x.own }

pub stand-labelled : {rs : List Record} {hs : List Herd} → StandTogether PartOf rs hs → Each Labelled hs
stand-labelled StandTogether.none = none
stand-labelled (StandTogether.more p s) = more (part-labelled p) (stand-labelled s)

module _ {l : List ℕ} (good : GoodLabel l) where
  module _ (h : Herd) (x : Labelled h) where
    pub own-herd : same_label h.label (label_of l) ≡ true → h.label ≡ label_of l
    own-herd e = x.is ∙ ap label_of
        (same-texts x.good good (ap (λ (y : Label). same_label y (label_of l)) (sym x.is) ∙ e))

    pub other-herd : (h.label ≡ label_of l → ⊥) → same_label h.label (label_of l) ≡ false
    other-herd n = ap (λ (y : Label). same_label y (label_of l)) x.is ∙ other-label x.good good (λ e. n (x.is ∙ e))

    pub not_own : same_label h.label (label_of l) ≡ false → h.label ≡ label_of l → ⊥
    not_own e d =
        let t : false ≡ true = sym e ∙ ap (λ (y : Label). same_label y (label_of l)) d ∙ own-label good in
        clash cc

  pub no-earlier : {hs : List Herd} → Each Labelled hs → Each (λ h. h.label ≡ label_of l → ⊥) hs
      → earlier_label hs (label_of l) ≡ false
  unfolding earlier_label
  no-earlier none none = refl
  no-earlier (more {a = h} x xs) (more n ns) = rw (other-herd h x n) (no-earlier xs ns)

  pub earlier-none : (hs : List Herd) → Each Labelled hs → earlier_label hs (label_of l) ≡ false
      → Each (λ h. h.label ≡ label_of l → ⊥) hs
  unfolding earlier_label
  earlier-none [] none e = none
  earlier-none (h ∷ hs) (more x xs) e =
      let n = neither (same_label h.label (label_of l)) (earlier_label hs (label_of l)) e in
      more (not_own h x n.0) (earlier-none hs xs n.1)

  pub earlier-some : (hs : List Herd) → Each Labelled hs → earlier_label hs (label_of l) ≡ true
      → Some (λ h. h.label ≡ label_of l) hs
  unfolding earlier_label
  earlier-some [] none e = clash cc
  earlier-some (h ∷ hs) (more x xs) e = go (same_label h.label (label_of l)) refl e (earlier-some hs xs)
    where
      go : (t : Bool) → same_label h.label (label_of l) ≡ t → (t || earlier_label hs (label_of l)) ≡ true
          → (earlier_label hs (label_of l) ≡ true → Some (λ h. h.label ≡ label_of l) hs)
          → Some (λ h. h.label ≡ label_of l) (h ∷ hs)
      go true q e later = here (own-herd h x q)
      go false q e later = there (later e)

-- ---- herds one after the other

pub stand-last : {R : List Record → Herd → Type 0} {a b : List Record} {hs : List Herd} {h : Herd}
    → StandTogether R a hs
    → R b h → StandTogether R (a ++ b) (hs ++ (h ∷ []))
stand-last {R} {b = b} {h = h} StandTogether.none r = let x : StandTogether R (b ++ []) (h ∷ []) =
    StandTogether.more r StandTogether.none in
    rw append-nil at x
stand-last (StandTogether.more q s) r = rw append_assoc (StandTogether.more q (stand-last s r))

pub labels-last : (hs : List Herd) (h : Herd) → labels_of (hs ++ (h ∷ [])) ≡ labels_of hs ++ (h.label ∷ [])
labels-last [] h = refl
labels-last (x ∷ hs) h = ap (λ (ls : List Label). x.label ∷ ls) (labels-last hs h)

each-labels : {l : Label} {hs : List Herd} → Each (λ h. h.label ≡ l → ⊥) hs → Each (λ b. b ≡ l → ⊥) (labels_of hs)
each-labels none = none
each-labels (more n ns) = more n (each-labels ns)

pub apart-herds : (hs : List Herd) (h : Herd) → Apart (labels_of hs) → Each (λ x. x.label ≡ h.label → ⊥) hs
    → Apart (labels_of (hs ++ (h ∷ [])))
apart-herds hs h d n = rw (labels-last hs h) (apart-last d (each-labels n))
