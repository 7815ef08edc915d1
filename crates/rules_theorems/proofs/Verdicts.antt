-- A file that is being read: the records before this one said herds, and which of 3 to 11 is given for this one is the
-- first that applies. Assumes nothing.
use Prim.Native.Nat.{ℕ, ◌+◌, ◌<◌, ◌≤◌}
use mathlib.Core.Path.{◌≡◌, refl, sym, ap, subst, ◌∙◌}
use mathlib.Core.Logic.{◌⊎◌, inl, inr, ⊎_elim}
use mathlib.Core.Bool.{Bool, true, false, not}
use mathlib.Core.List.{List, [], ◌∷◌, ◌++◌, append_assoc, append-nil}
use native.Mathlib.Omega.{arith}
use lib.Dec.{leb}
use lib.ListN.{length, length-append}
use borrow.Author.Tests.{ne_eqb, leb-true, leb-false, not-false}
use Rattle.base.specs.Pick.{pick}
use Rattle.base.specs.First.{first}
use Rattle.base.proofs.Clash.{clash}
use Rattle.base.specs.Each.{Each, none, more}
use Rattle.grammar.specs.Reading.{parts_of}
use Rattle.inputs.specs.declared.Kind.{Kind}
use Rattle.inputs.specs.Inputs.{same_kind}
use Rattle.farm.specs.declared.Given.{Given}
use Rattle.farm.specs.declared.Slot.{Slot}
use Rattle.farm.specs.declared.Herd.{Herd}
use Rattle.farm.specs.declared.Farm.{Farm}
use Rattle.farm.specs.declared.Refusal.{Refusal}
use Rattle.farm.specs.declared.Refusal.TheVariants.{EarlierLabel, NoRoomForHerd, OtherKind, GivenAlready}
use Rattle.farm.specs.Limits.{herds_most}
use Rattle.farm.specs.Labels.{same_label, label_of}
use Rattle.farm.specs.Refusals.{number}
use Rattle.limits.specs.declared.Limits.{Limits}
use Rattle.herd_tests.specs.Tests.{labels_of, lacks, earlier_label}
use Rattle.farm.specs.Herds.{is_missing}
use Rattle.reader.specs.declared.FileAnswer.{FileAnswer}
use Rattle.progress.specs.Herds.{new_herd, with_input, has_input}
use Rattle.next_herd.specs.Farms.{lacking_with}
use Rattle.reader.specs.Files.{Progress, refused, nothing_read, closed, record_tests, taken}
use Rattle.rules_theorems.specs.Lists.{Some, Last, Apart}
use Rattle.first_refusal.specs.Records.{Record}
use Rattle.rules_theorems.specs.Rules.{RecordSays, Gives, PartOf, StandTogether, farm_of}
use Rattle.rules_theorems.specs.Refusals.{
  label_text,
  NamesInput,
  SameLabel,
  ManyLabels,
  Applies,
  has_earlier_label,
  no_room_for_herd,
  other_kind,
  given_already,
}
use Rattle.rules_theorems.proofs.Lists.{
  each_append,
  meet,
  some-front,
  some_back,
  some-map,
  some-split,
  some-none,
  HasLast,
  has_last,
  last-append,
  last_none,
  last_one,
  last_some,
  last-each,
  some_left,
  some_right,
}
use Rattle.rules_theorems.proofs.Labels.{not_none}
use Rattle.rules_theorems.proofs.Faults.{NoneBelow, none-next}
use Rattle.rules_theorems.proofs.Entries.{one-kind, one-slot, Reads, reads, Alone, tells, wrong, alone}
use Rattle.rules_theorems.proofs.Herds.{kind-one, kind-two, some-slot, missing_at, unfilled, part-new, part-more}
use Rattle.rules_theorems.proofs.Farms.{
  herd_tests,
  took_to,
  record_tests_lem,
  record_took,
  herds-of,
  progress_at,
  closed-farm,
  closed-lacking,
  Labelled,
  part-labelled,
  stand-labelled,
  own-herd,
  not_own,
  earlier-none,
  earlier-some,
  stand-last,
  apart-herds,
}
use Rattle.rules_theorems.proofs.Records.{
  OfHerd,
  of_herd,
  part-records,
  record_label,
  label_record,
  herds-seen,
  seen-herds,
  seen-herd,
  many-labels,
  few-labels,
}

-- ---- where the first herd that lacks an input begins, 0 where none does

pub data Lack : List Record → List Herd → ℕ → Type 0 where
  nowhere : {rs : List Record} {hs : List Herd} → Each (λ h. lacks h ≡ false) hs → Lack rs hs 0
  first-at : {a b c : List Record} {hs hs' : List Herd} {h : Herd} → StandTogether PartOf a hs
      → Each (λ x. lacks x ≡ false) hs
      → PartOf b h → lacks h ≡ true → StandTogether PartOf c hs'
      → Lack (a ++ (b ++ c)) (hs ++ (h ∷ hs')) (length a + 1)

pub lack_last : {a b : List Record} {hs : List Herd} {h : Herd} {k : ℕ} → StandTogether PartOf a hs → PartOf b h
    → Lack a hs k
    → Lack (a ++ b) (hs ++ (h ∷ [])) (lacking_with k h (length a + 1))
lack_last {a} {b} {hs} {h} s p (nowhere ns) = go (lacks h) refl
  where
    go : (t : Bool) → lacks h ≡ t → Lack (a ++ b) (hs ++ (h ∷ [])) (pick t (length a + 1) 0)
    go true e = let x : Lack (a ++ (b ++ [])) (hs ++ (h ∷ [])) (length a + 1) = first-at s ns p e StandTogether.none in
        rw append-nil at x
    go false e = nowhere (each_append ns (more e none))
lack_last {b = b} {h = h} s p (first-at {a = a} {b = b'} {c = c} {hs = hs} {hs' = hs'} {h = h'} s' ns p' e s'') =
    let x : Lack (a ++ (b' ++ (c ++ b))) (hs ++ (h' ∷ (hs' ++ (h ∷ [])))) (length a + 1) =
    first-at s' ns p' e (stand-last s'' p) in
    simp (append_assoc, ne_eqb (length a + 1) 0 (λ z. omega arith)) x

-- ---- the records before this one, and how far the file is read with them

pub data Inv (limits : Limits) : List Record → Progress → Type 0 where
  start : Inv limits [] nothing_read
  going : {a b : List Record} {hs : List Herd} {h : Herd} {k : ℕ} → StandTogether PartOf a hs → PartOf b h
      → Each (λ x. x.label ≡ h.label → ⊥) hs → Apart (labels_of hs) → length hs < limits.herds
      → Lack a hs k → Inv limits (a ++ b) (progress_at hs h (length a + 1) k)

-- what is to be shown of a record: it is refused, by the first that applies, or none applies and reading goes on
pub data Verdict (limits : Limits) (before : List Record) (cs : Record) (n : ℕ) (p : Progress) : Type 0 where
  refuses : {refusal : Refusal} → Applies limits before cs refusal → NoneBelow limits before cs (number refusal)
      → ((z : FileAnswer) → first (record_tests limits.herds n p (parts_of cs)) z ≡ refused n refusal)
      → Verdict limits before cs n p
  goes_on : NoneBelow limits before cs 12
      → ((z : FileAnswer) → first (record_tests limits.herds n p (parts_of cs)) z ≡ z)
      → Inv limits (before ++ (cs ∷ [])) (taken n p (parts_of cs)) → Verdict limits before cs n p

-- ---- the first record of a file

module _ {limits : Limits} {cs : Record} {l : List ℕ} {kind : Kind} {i : ℕ} {g : Given}
    (said : RecordSays cs l kind i g) (below : NoneBelow limits [] cs 8) where
  no-labels : 0 < limits.herds → ManyLabels limits [] → ⊥
  no-labels some m = go m.labels m.many m.each
    where
      go : (ls : List (List ℕ)) → length ls ≡ limits.herds → Each (λ l. Some (λ r. label_text r ≡ l) []) ls → ⊥
      go [] e x = omega arith
      go (l ∷ ls) e (more s x) = some-none s

  not_8 : Applies limits [] cs EarlierLabel → ⊥
  not_8 (has_earlier_label s _) = some-none s

  not_9 : 0 < limits.herds → Applies limits [] cs NoRoomForHerd → ⊥
  not_9 some (no_room_for_herd _ m) = no-labels some m

  -- no herd may be read
  first_9 : limits.herds ≤ 0 → Applies limits [] cs NoRoomForHerd
  first_9 full =
      no_room_for_herd some-none (record { labels = []; many = omega arith; apart = Apart.none; each = none })

  not_10 : Applies limits [] cs OtherKind → ⊥
  not_10 (other_kind l _ _ _ _) = last_none l

  not_11 : Applies limits [] cs GivenAlready → ⊥
  not_11 (given_already _ s) = some-none s

  at-start : Verdict limits [] cs 1 nothing_read
  unfolding closed earlier_label
  at-start = go (leb limits.herds 0) refl
    where
      new : same_label nothing_read.herd.label (label_of l) ≡ false
      new = not_none (reads said).good

      took : took_to 1 nothing_read (label_of l) kind i g ≡ progress_at [] (new_herd (label_of l) kind i g) (0 + 1) 0
      took = rw new

      go : (t : Bool) → leb limits.herds 0 ≡ t → Verdict limits [] cs 1 nothing_read
      go true e =
          refuses (first_9 (leb-true limits.herds 0 e)) (none-next 8 below not_8)
          (λ z. record_tests_lem said 1 nothing_read limits.herds z ∙ rw (new, e))
      go false e =
          let some = leb-false limits.herds 0 e in
          goes_on
          (none-next 11 (none-next 10 (none-next 9 (none-next 8 below not_8) (not_9 some)) not_10) not_11)
          (λ z. record_tests_lem said 1 nothing_read limits.herds z ∙ rw (new, e))
          (subst (λ (q : Progress). Inv limits (cs ∷ []) q) (sym (record_took said 1 nothing_read ∙ took))
          (going {a = []} {b = cs ∷ []} {hs = []} {h = new_herd (label_of l) kind i g} StandTogether.none
          (part-new said)
          none
          Apart.none some (nowhere none)))

-- ---- a later one

-- of a record behind those of a, which said the herds hs, and of b, which said the herd h
abbrev Later : Limits → List Record → List Record → List Herd → Herd → ℕ → Record → Type 0
Later limits a b hs h k cs = Verdict limits (a ++ b) cs (length (a ++ b) + 1) (progress_at hs h (length a + 1) k)

module _ {limits : Limits} (fit : limits.herds ≤ herds_most) {a b : List Record} {hs : List Herd} {h : Herd} {k : ℕ}
    (st : StandTogether PartOf a hs) (pt : PartOf b h) (new : Each (λ x. x.label ≡ h.label → ⊥) hs)
    (two : Apart (labels_of hs))
    (room : length hs < limits.herds) (lk : Lack a hs k) {cs : Record} {l : List ℕ} {kind : Kind} {i : ℕ} {g : Given}
    (said : RecordSays cs l kind i g) (below : NoneBelow limits (a ++ b) cs 8) where
  rd : Reads cs l kind i g
  rd = reads said

  labelled : Each Labelled hs
  labelled = stand-labelled st

  -- 3 to 7 are passed, and the record is taken as what it says
  tests : (z : FileAnswer)
      → first (record_tests limits.herds (length (a ++ b) + 1) (progress_at hs h (length a + 1) k) (parts_of cs)) z
      ≡ first (herd_tests limits.herds (length (a ++ b) + 1) (progress_at hs h (length a + 1) k) (label_of l) kind i) z
  tests = record_tests_lem said (length (a ++ b) + 1) (progress_at hs h (length a + 1) k) limits.herds

  -- the farm's record has room for this herd
  roomy : length hs < herds_most
  roomy = omega (arith, fit)

  goes_to : (q : Progress) → took_to (length (a ++ b) + 1) (progress_at hs h (length a + 1) k) (label_of l) kind i g ≡ q
      → Inv limits ((a ++ b) ++ (cs ∷ [])) q
      → Inv limits ((a ++ b) ++ (cs ∷ []))
      (taken (length (a ++ b) + 1) (progress_at hs h (length a + 1) k) (parts_of cs))
  goes_to q e on = subst (Inv limits ((a ++ b) ++ (cs ∷ [])))
      (sym (record_took said (length (a ++ b) + 1) (progress_at hs h (length a + 1) k) ∙ e)) on

  -- the record just before, which is of the herd being read
  before_it : HasLast b
  before_it = has_last b pt.some

  just_before : Last (a ++ b) before_it.of
  just_before = last-append a before_it.is

  its_herd : OfHerd h before_it.of
  its_herd = last-each before_it.is (part-records pt)

  -- ---- it has this record's label

  module _ (own : h.label ≡ label_of l) where
    same : SameLabel before_it.of cs
    same = record_label rd.good h before_it.of its_herd own ∙ sym rd.label

    own_8 : Applies limits (a ++ b) cs EarlierLabel → ⊥
    own_8 (has_earlier_label _ n) = n before_it.of just_before same

    own_9 : Applies limits (a ++ b) cs NoRoomForHerd → ⊥
    own_9 (no_room_for_herd n _) = n (last_some just_before same)

    own_below : NoneBelow limits (a ++ b) cs 10
    own_below = none-next 9 (none-next 8 below own_8) own_9

    is_10 : (h.kind ≡ kind → ⊥) → Applies limits (a ++ b) cs OtherKind
    is_10 n = other_kind just_before same its_herd.names rd.names n

    module _ (one : h.kind ≡ kind) where
      own_10 : Applies limits (a ++ b) cs OtherKind → ⊥
      own_10 (other_kind {own = own'} {i = j} last' _ names names' n) =
          let at_last : NamesInput before_it.of own' j =
          subst (λ (x : Record). NamesInput x own' j) (last_one last' just_before) names in
          n (one-kind at_last its_herd.names ∙ one ∙ one-kind rd.names names')

      is_11 : has_input h i ≡ true → Applies limits (a ++ b) cs GivenAlready
      is_11 e = go (some-slot i pt.inputs)
        where
          of_it : (r : Record) (j : ℕ) → Gives h r j → j ≡ i → SameLabel r cs × NamesInput r kind i
          of_it r j x d = (
            record_label rd.good h r (of_herd r j x) own
                ∙ sym rd.label,
            rw (one, d) at (reads x.says).names,
          )

          go : Some (λ j. j ≡ i) pt.inputs ⊎ Each (λ j. j ≡ i → ⊥) pt.inputs
              → Applies limits (a ++ b) cs GivenAlready
          go (inl s) = given_already rd.names (some_back a (some_left of_it pt.each s))
          go (inr n) =
              let m : false ≡ true = ap (λ (s : Slot). not (is_missing s.given)) (sym (pt.rest i n)) ∙ e in
              clash cc

    own_11 : has_input h i ≡ false → Applies limits (a ++ b) cs GivenAlready → ⊥
    own_11 e (given_already {kind = kind'} {slot = slot'} names s) = ⊎_elim earlier here' (some-split a s)
      where
        earlier : Some (λ r. SameLabel r cs × NamesInput r kind' slot') a → ⊥
        earlier x =
            let m = meet new (seen-herds rd.good st (some-map (λ r y. y.0 ∙ rd.label) x)) in
            m.one (m.other ∙ sym own)

        slot_of : (r : Record) (j : ℕ) → Gives h r j → SameLabel r cs × NamesInput r kind' slot' → j ≡ i
        slot_of r j x y = one-slot (reads x.says).names y.1 ∙ one-slot names rd.names

        here' : Some (λ r. SameLabel r cs × NamesInput r kind' slot') b → ⊥
        here' x =
            let m = meet (unfilled i pt.each (not-false (missing_at h i) e)) (some_right slot_of pt.each x) in
            m.one m.other

    own-herd-on : same_label h.label (label_of l) ≡ true → Later limits a b hs h k cs
    unfolding with_input
    own-herd-on e = kinds (same_kind h.kind kind) refl
      where
        inputs : h.kind ≡ kind → same_kind h.kind kind ≡ true → (t : Bool) → has_input h i ≡ t
            → Later limits a b hs h k cs
        inputs one ek true eh =
            refuses (is_11 one eh) (none-next 10 own_below (own_10 one)) (λ z. tests z ∙ rw (e, ek, eh))
        inputs one ek false eh =
            let on : Inv limits (a ++ (b ++ (cs ∷ []))) (progress_at hs (with_input h i g) (length a + 1) k) =
            going st (part-more said h own one pt eh) new two room lk in
            goes_on (none-next 11 (none-next 10 own_below (own_10 one)) (own_11 eh)) (λ z. tests z ∙ rw (e, ek, eh))
            (goes_to (progress_at hs (with_input h i g) (length a + 1) k) (rw e) (rw append_assoc on))

        kinds : (t : Bool) → same_kind h.kind kind ≡ t → Later limits a b hs h k cs
        kinds true ek = inputs (kind-one h.kind kind ek) ek (has_input h i) refl
        kinds false ek =
            refuses (is_10 (kind-two h.kind kind ek)) own_below (λ z. tests z ∙ rw (e, ek))

  -- ---- it has another label

  module _ (other : h.label ≡ label_of l → ⊥) where
    seen : Some (λ r. SameLabel r cs) (a ++ b) → Some (λ x. x.label ≡ label_of l) hs
    seen s =
        ⊎_elim
        (λ x. seen-herds rd.good st (some-map (λ r y. y ∙ rd.label) x))
        (λ x. absurd (other (seen-herd rd.good pt (some-map (λ r y. y ∙ rd.label) x))))
        (some-split a s)

    is_8 : earlier_label hs (label_of l) ≡ true → Applies limits (a ++ b) cs EarlierLabel
    is_8 e =
        has_earlier_label (some-front b
        (some-map (λ r y. y ∙ sym rd.label) (herds-seen rd.good st (earlier-some rd.good hs labelled e))))
        (λ r last' s. other (label_record rd.good h before_it.of its_herd
        (ap label_text (last_one just_before last') ∙ s ∙ rd.label)))

    module _ (none_has : earlier_label hs (label_of l) ≡ false) where
      unseen : Some (λ r. SameLabel r cs) (a ++ b) → ⊥
      unseen s = let m = meet (earlier-none rd.good hs labelled none_has) (seen s) in m.one m.other

      new_8 : Applies limits (a ++ b) cs EarlierLabel → ⊥
      new_8 (has_earlier_label s _) = unseen s

      is_9 : limits.herds ≤ length (hs ++ (h ∷ [])) → Applies limits (a ++ b) cs NoRoomForHerd
      is_9 full =
          no_room_for_herd unseen
          (many-labels (stand-last st pt) (each_append labelled (more (part-labelled pt) none))
          (apart-herds hs h two new) (omega (arith, length-append hs (h ∷ []))))

      new_9 : length (hs ++ (h ∷ [])) < limits.herds → Applies limits (a ++ b) cs NoRoomForHerd → ⊥
      new_9 few (no_room_for_herd _ m) = omega (arith, few-labels (stand-last st pt) m)

      new_10 : Applies limits (a ++ b) cs OtherKind → ⊥
      new_10 (other_kind last' s _ _ _) = unseen (last_some last' s)

      new_11 : Applies limits (a ++ b) cs GivenAlready → ⊥
      new_11 (given_already _ s) = unseen (some-map (λ r y. y.0) s)

    -- this herd is closed, and the record begins another
    begins : Progress
    begins = progress_at (hs ++ (h ∷ [])) (new_herd (label_of l) kind i g) (length (a ++ b) + 1)
        (lacking_with k h (length a + 1))

    is-begun : same_label h.label (label_of l) ≡ false
        → took_to (length (a ++ b) + 1) (progress_at hs h (length a + 1) k) (label_of l) kind i g ≡ begins
    unfolding begins
    is-begun e =
        rw e
        (ap (λ (x : Farm). record {
          farm = x;
          herd = new_herd (label_of l) kind i g;
          first = length (a ++ b) + 1;
          lacking =
              (closed (progress_at hs h (length a + 1) k)).lacking;
        }) (closed-farm hs h (length a) k roomy)
        ∙ ap (λ (x : ℕ). record {
          farm = farm_of (hs ++ (h ∷ []));
          herd = new_herd (label_of l) kind i g;
          first =
              length (a ++ b) + 1;
          lacking = x;
        }) (closed-lacking hs h (length a) k roomy))

    is-count : (closed (progress_at hs h (length a + 1) k)).farm.count ≡ length (hs ++ (h ∷ []))
    is-count = ap (λ (x : Farm). x.count) (closed-farm hs h (length a) k roomy)

    other-herd-on : same_label h.label (label_of l) ≡ false → Later limits a b hs h k cs
    unfolding begins new_herd with_input
    other-herd-on e = known (earlier_label hs (label_of l)) refl
      where
        full : (t : Bool) → earlier_label hs (label_of l) ≡ false → leb limits.herds (length (hs ++ (h ∷ []))) ≡ t
            → Later limits a b hs h k cs
        full true el ef =
            refuses (is_9 el (leb-true limits.herds (length (hs ++ (h ∷ []))) ef)) (none-next 8 below (new_8 el))
            (λ z. tests z ∙ rw (e, herds-of hs, el, ap (leb limits.herds) is-count ∙ ef))
        full false el ef =
            let few = leb-false limits.herds (length (hs ++ (h ∷ []))) ef in
            goes_on (none-next 11 (none-next 10 (none-next 9 (none-next 8 below (new_8 el)) (new_9 el few)) (new_10 el))
            (new_11 el))
            (λ z. tests z ∙ rw (e, herds-of hs, el, ap (leb limits.herds) is-count ∙ ef))
            (goes_to begins (is-begun e)
            (going (stand-last st pt) (part-new said)
            (each_append (earlier-none rd.good hs labelled el) (more other none)) (apart-herds hs h two new) few
            (lack_last st pt lk)))

        known : (t : Bool) → earlier_label hs (label_of l) ≡ t → Later limits a b hs h k cs
        known true el = refuses (is_8 el) below (λ z. tests z ∙ rw (e, herds-of hs, el))
        known false el = full (leb limits.herds (length (hs ++ (h ∷ [])))) el refl

  later : Later limits a b hs h k cs
  later = go (same_label h.label (label_of l)) refl
    where
      go : (t : Bool) → same_label h.label (label_of l) ≡ t → Later limits a b hs h k cs
      go true e = own-herd-on (own-herd rd.good h (part-labelled pt) e) e
      go false e = other-herd-on (not_own rd.good h (part-labelled pt) e) e

-- ---- any record

pub verdict : {limits : Limits} → limits.herds ≤ herds_most → {before : List Record} {p : Progress}
    → Inv limits before p → (cs : Record) → Verdict limits before cs (length before + 1) p
unfolding record_tests
verdict {limits} fit {before} {p} inv cs = go inv (alone limits before cs)
  where
    go : {before : List Record} {p : Progress} → Inv limits before p → Alone limits before cs
        → Verdict limits before cs (length before + 1) p
    go {before} inv (wrong x below e) = refuses x below (λ z. e (length before + 1) _)
    go start (tells said below) = at-start said below
    go (going st pt new two room lk) (tells said below) = later fit st pt new two room lk said below
