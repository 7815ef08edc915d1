-- The first refusal of a record that is handed in: its checks refuse with a number exactly where that is the first
-- refusal that applies, in 01's order, and always with record 0; and they accept exactly where none applies.
-- Assumes nothing.
use Prim.Native.Nat.{ℕ, ◌+◌, ◌<◌, ◌≤◌}
use mathlib.Core.Path.{◌≡◌, refl, sym, ap, subst, ◌∙◌}
use mathlib.Core.Logic.{◌↔◌}
use mathlib.Core.Bool.{Bool, true, false, not}
use mathlib.Core.List.{List, [], ◌∷◌, ◌++◌, map-append}
use native.Mathlib.Numerals.{add-one}
use native.Mathlib.Omega.{arith}
use lib.Dec.{ltb}
use lib.ListN.{length, get_or, take, drop, length-drop}
use lib.Seq.{take-suc}
use borrow.Author.Tests.{ltb-true, ltb-false}
use Rattle.base.proofs.SameRefused.{same-refusal, same-record}
use Rattle.base.specs.Pick.{pick}
use Rattle.base.specs.First.{first}
use Rattle.base.proofs.Clash.{clash}
use Rattle.base.specs.Refused.{refuse}
use Rattle.inputs.specs.Inputs.{Row, rows_of, last_of, form_of}
use Rattle.farm.specs.declared.Label.{Label}
use Rattle.farm.specs.declared.Herd.{Herd}
use Rattle.farm.specs.declared.Farm.{Farm}
use Rattle.farm.specs.declared.Refusal.{Refusal}
use Rattle.farm.specs.declared.Refusal.TheVariants.{BadLabel, BadValue, EarlierLabel, NoRoomForHerd, InputMissing}
use Rattle.farm.specs.Limits.{herds_most}
use Rattle.farm.specs.Labels.{label_ok}
use Rattle.farm.specs.Herds.{no_herd}
use Rattle.farm.proofs.Left.{left_at}
use Rattle.farm.specs.Answers.{Accepted, Checked}
use Rattle.herd_tests.specs.Tests.{lacks, has_label, labels_of}
use Rattle.fits.specs.Fits.{unfit}
use Rattle.first_refusal.proofs.Order.{Order, by_turn, one-of-first}
use Rattle.checks.specs.Checks.{herd_tests, herds_tests, check_herd, herds_of, check_farm}
use Rattle.checks.specs.Refusals.{
  Applies,
  Handed,
  herd,
  farm,
  herds_in,
  check_of,
  AppliesAt,
  no_room,
  of_herd,
  Turn,
}
use Rattle.checks.specs.Refusals.{
  Sooner,
  herd_by_herd,
  in_that_order,
  FirstOfRecord,
  RecordGets,
  fine,
  gets_refusal,
}
use Rattle.checks.proofs.Places.{
  missing-found,
  none-missing,
  unfit-found,
  none-unfit,
  label-found,
  none-labelled,
}

-- ---- turns

one-turn : {refusal : Refusal} {s t : ℕ} → Turn refusal s → Turn refusal t → s ≡ t
one-turn Turn.room Turn.room = refl
one-turn Turn.label Turn.label = refl
one-turn Turn.earlier Turn.earlier = refl
one-turn Turn.missing Turn.missing = refl
one-turn Turn.value Turn.value = refl

-- the refusal of a turn
abbrev refusal_at : ℕ → Refusal
refusal_at n = get_or (NoRoomForHerd ∷ BadLabel ∷ EarlierLabel ∷ InputMissing ∷ []) n BadValue

of-turn : {refusal : Refusal} {t : ℕ} → Turn refusal t → refusal_at t ≡ refusal
of-turn Turn.room = refl
of-turn Turn.label = refl
of-turn Turn.earlier = refl
of-turn Turn.missing = refl
of-turn Turn.value = refl

record Turned (refusal : Refusal) : Type 0 where
  turn : ℕ
  last : turn ≤ 4
  has : Turn refusal turn

turned : {before : List Herd} {h : Herd} {refusal : Refusal} → Applies before h refusal → Turned refusal
turned (Applies.bad_label _) = record { turn = 1; last = omega arith; has = Turn.label }
turned (Applies.has_earlier_label _ _) = record { turn = 2; last = omega arith; has = Turn.earlier }
turned (Applies.input_missing _ _) = record { turn = 3; last = omega arith; has = Turn.missing }
turned (Applies.bad_value _ _) = record { turn = 4; last = omega arith; has = Turn.value }

turned-at : {x : Handed} {n : ℕ} {refusal : Refusal} → AppliesAt x n refusal → Turned refusal
turned-at (no_room _) = record { turn = 0; last = omega arith; has = Turn.room }
turned-at (of_herd _ a) = turned a

-- ---- one herd, behind others

-- none of the refusals with an earlier turn applies
abbrev NoneBelow : List Herd → Herd → ℕ → Type 0
NoneBelow before h n = (other : Refusal) (t : ℕ) → Applies before h other → Turn other t → t < n → ⊥

late : {A : Type 0} {m n : ℕ} → n ≤ m → m < n → A
late h l = absurd (omega arith)

-- what its tests give, before the answer z that stands behind them
data Result (before : List Herd) (h : Herd) (z : Checked) : Checked → Type 0 where
  quiet : ((refusal : Refusal) → Applies before h refusal → ⊥) → Result before h z z
  gives : {refusal : Refusal} {t : ℕ} → Turn refusal t → Applies before h refusal → NoneBelow before h t
      → Result before h z (refuse refusal 0)

module _ (before : List Herd) (h : Herd) where
  abbrev rows : List Row
  rows = rows_of h.kind

  -- one that applies is none of those whose tests failed
  none_below : (n : ℕ) → (1 < n → label_ok h.label ≡ true) → (2 < n → has_label (labels_of before) h.label ≡ false)
      → (3 < n → lacks h ≡ false) → (4 < n → unfit h ≡ false) → NoneBelow before h n
  unfolding lacks unfit form_of
  none_below n a b c d other t (Applies.bad_label e) Turn.label l = let ok = a l in clash cc
  none_below n a b c d other t (Applies.has_earlier_label {i = i} k e) Turn.earlier l =
      none-labelled before h.label (b l) i k e
  none_below n a b c d other t (Applies.input_missing {slot = i} k e) Turn.missing l =
      none-missing rows h.slots (c l) i k e
  none_below n a b c d other t (Applies.bad_value {slot = i} k o) Turn.value l =
      none-unfit (last_of rows) rows h.slots (d l) i k o

  result : (z : Checked) → Result before h z (first (herd_tests (labels_of before) h) z)
  unfolding lacks unfit form_of
  result z = go (label_ok h.label) (has_label (labels_of before) h.label) (lacks h) (unfit h) refl refl refl refl
    where
      go : (a b c d : Bool) → label_ok h.label ≡ a → has_label (labels_of before) h.label ≡ b → lacks h ≡ c
          → unfit h ≡ d
          → Result before h z (pick (not a) (refuse BadLabel 0) (pick b (refuse EarlierLabel 0)
          (pick c (refuse InputMissing 0) (pick d (refuse BadValue 0) z))))
      go false b c d ea eb ec ed =
          gives Turn.label (Applies.bad_label ea)
          (none_below 1 (late (omega arith)) (late (omega arith)) (late (omega arith)) (late (omega arith)))
      go true true c d ea eb ec ed =
          let p = label-found before h.label eb in
          gives Turn.earlier (Applies.has_earlier_label p.inside p.there)
          (none_below 2 (λ l. ea) (late (omega arith)) (late (omega arith)) (late (omega arith)))
      go true false true d ea eb ec ed =
          let p = missing-found rows h.slots ec in
          gives Turn.missing (Applies.input_missing p.inside p.there)
          (none_below 3 (λ l. ea) (λ l. eb) (late (omega arith)) (late (omega arith)))
      go true false false true ea eb ec ed =
          let p = unfit-found (last_of rows) rows h.slots ed in
          gives Turn.value (Applies.bad_value p.inside p.there)
          (none_below 4 (λ l. ea) (λ l. eb) (λ l. ec) (late (omega arith)))
      go true false false false ea eb ec ed =
          let none = none_below 5 (λ l. ea) (λ l. eb) (λ l. ec) (λ l. ed) in
          quiet (λ f a. let t = turned a in none f t.turn a t.has (omega (arith, t.last)))

-- ---- herd by herd

-- a refusal applies to the herd at i
abbrev At : List Herd → ℕ → Refusal → Type 0
At all i refusal = Applies (take i all) (get_or all i no_herd) refusal

-- nothing applies to the first k
abbrev Clean : List Herd → ℕ → Type 0
Clean all k = (i : ℕ) (refusal : Refusal) → i < k → i < length all → At all i refusal → ⊥

data Results (all : List Herd) : Checked → Type 0 where
  all_quiet : Clean all (length all) → Results all Accepted
  given : {refusal : Refusal} {i t : ℕ} → i < length all → Turn refusal t → At all i refusal → Clean all i
      → NoneBelow (take i all) (get_or all i no_herd) t → Results all (refuse refusal 0)

module _ (all : List Herd) where
  module _ (k : ℕ) (clean : Clean all k) where
    one_more : ((refusal : Refusal) → At all k refusal → ⊥) → Clean all (k + 1)
    one_more none i refusal b c a = go (ltb i k) refl
      where
        go : (t : Bool) → ltb i k ≡ t → ⊥
        go true e = clean i refusal (ltb-true i k e) c a
        go false e =
            let l = ltb-false i k e in
            let s : i ≡ k = omega arith in
            none refusal (subst (λ (j : ℕ). At all j refusal) s a)

    next : {z c : Checked} → k < length all → Result (take k all) (get_or all k no_herd) z c
        → (Clean all (k + 1) → Results all z) → Results all c
    next b (quiet none) rest = rest (one_more none)
    next b (gives t a below) rest = given b t a clean below

  -- the tests of these herds behind those
  abbrev testing : List Label → List Herd → Checked
  testing earlier hs = first (herds_tests earlier hs) Accepted

  results-from : (k : ℕ) (hs : List Herd) → drop k all ≡ hs → Clean all k
      → Results all (testing (labels_of (take k all)) hs)
  results-from k [] e clean = all_quiet (λ i f b c a. clean i f (omega (arith, length-drop k all, ap length e)) c a)
  results-from k (h ∷ hs) e clean =
      let b : k < length all = omega (arith, length-drop k all, ap length e) in
      let p : h ∷ hs ≡ get_or all k no_herd ∷ drop (k + 1) all = sym e ∙ left_at all k no_herd b in
      let here : h ≡ get_or all k no_herd = cc in
      let behind : drop (k + 1) all ≡ hs = cc in
      let earlier = labels_of (take k all) in
      let z = testing (earlier ++ (h.label ∷ [])) hs in
      let own = result (take k all) h z in
      let labels : labels_of (take (k + 1) all) ≡ earlier ++ (h.label ∷ [])
      = rw (add-one, take-suc all k no_herd b, map-append, here) in
      next k clean b (subst (λ (x : Herd). Result (take k all) x z (first (herd_tests earlier h) z)) here own)
      (λ more. subst (λ (ls : List Label). Results all (testing ls hs)) labels (results-from (k + 1) hs behind more))

  results : Results all (testing [] all)
  results = results-from 0 all refl (λ i f b c a. absurd (omega arith))

-- ---- a record

-- a refusal applies to one of the herds
abbrev OfHerd : List Herd → ℕ → Refusal → Type 0
OfHerd hs n refusal = (n < length hs) × At hs n refusal

-- where 9 does not apply, what its herds give
module _ (x : Handed) (only : (n : ℕ) (refusal : Refusal) → AppliesAt x n refusal → OfHerd (herds_in x) n refusal) where
  none_sooner : {m n s : ℕ} {other refusal : Refusal} → AppliesAt x m other → Sooner m other n refusal → Turn refusal s
      → Clean (herds_in x) n → NoneBelow (take n (herds_in x)) (get_or (herds_in x) n no_herd) s → ⊥
  none_sooner {m} {other = g} o (herd_by_herd l) u clean below = let h = only m g o in clean m g l h.0 h.1
  none_sooner {m} {other = g} o (in_that_order {s = s} p q l) u clean below =
      let h = only m g o in
      let e = one-turn q u in
      below g s h.1 p (omega arith)

  by-herds : {c : Checked} → Results (herds_in x) c → RecordGets x c
  by-herds (all_quiet clean) = fine (λ n f a. let h = only n f a in clean n f h.0 h.0 h.1)
  by-herds (given {i = i} b turn a clean below) =
      gets_refusal
      (record {
        place = i;
        is_first = record { applies = of_herd b a; none_sooner = λ m g o s. none_sooner o s turn clean below };
      })

only-herds : {h : Herd} (n : ℕ) (refusal : Refusal) → AppliesAt (herd h) n refusal → OfHerd (h ∷ []) n refusal
only-herds n refusal (of_herd b a) = (b, a)

only_farms : {f : Farm} → f.count ≤ herds_most → (n : ℕ) (refusal : Refusal) → AppliesAt (farm f) n refusal
    → OfHerd (herds_of f) n refusal
only_farms r n refusal (no_room h) = absurd (omega arith)
only_farms r n refusal (of_herd b a) = (b, a)

none-before_9 : {x : Handed} {m : ℕ} {other : Refusal} → AppliesAt x m other → Sooner m other 0 NoRoomForHerd → ⊥
none-before_9 a (herd_by_herd l) = omega arith
none-before_9 a (in_that_order p q l) = let e = one-turn q Turn.room in omega arith

pub record_gets : (x : Handed) → RecordGets x (check_of x)
unfolding check_herd check_farm
record_gets (herd h) = by-herds (herd h) only-herds (results (h ∷ []))
record_gets (farm f) = go (ltb herds_most f.count) refl
  where
    go : (t : Bool) → ltb herds_most f.count ≡ t
        → RecordGets (farm f) (pick t (refuse NoRoomForHerd 0) (first (herds_tests [] (herds_of f)) Accepted))
    go true e =
        let many = ltb-true herds_most f.count e in
        gets_refusal (record {
          place = 0;
          is_first = record { applies = no_room many; none_sooner = λ m other a s. none-before_9 a s };
        })
    go false e = by-herds (farm f) (only_farms (ltb-false herds_most f.count e)) (results (herds_of f))

-- ---- there is one first refusal

in_order : (m n : ℕ) {f g : Refusal} → Turned f → Turned g → Order Sooner m f n g
in_order m n {f} {g} a b =
    by_turn Sooner m n f g a.turn b.turn (λ l. herd_by_herd l) (λ l. herd_by_herd l)
    (λ l. in_that_order a.has b.has l) (λ l. in_that_order b.has a.has l)
    (λ e. sym (of-turn a.has) ∙ ap refusal_at e ∙ of-turn b.has)

pub one-first : {x : Handed} {f g : Refusal} → FirstOfRecord x f → FirstOfRecord x g → f ≡ g
one-first a b =
    (one-of-first (λ p q. in_order a.place b.place (turned-at p) (turned-at q)) a.is_first b.is_first
    ).refusal

-- ---- the theorems

pub record_refused : (x : Handed) (n : ℕ) (refusal : Refusal)
    → (check_of x ≡ refuse refusal n) ↔ (FirstOfRecord x refusal × (n ≡ 0))
record_refused x n refusal = (told (record_gets x), found (record_gets x))
  where
    told : {c : Checked} → RecordGets x c → c ≡ refuse refusal n → FirstOfRecord x refusal × (n ≡ 0)
    told (fine none) e = clash cc
    told (gets_refusal {refusal = f} first) e = (rw (same-refusal e) at first, sym (same-record e))

    found : {c : Checked} → RecordGets x c → FirstOfRecord x refusal × (n ≡ 0) → c ≡ refuse refusal n
    found (fine none) w = absurd (none w.0.place refusal w.0.is_first.applies)
    found (gets_refusal {refusal = f} y) w = let p = one-first y w.0 in rw (p, w.1)

pub record_accepted : (x : Handed) → (check_of x ≡ Accepted) ↔ ((n : ℕ) (refusal : Refusal) → AppliesAt x n refusal → ⊥)
record_accepted x = (told (record_gets x), found (record_gets x))
  where
    told : {c : Checked} → RecordGets x c → c ≡ Accepted → (n : ℕ) (refusal : Refusal) → AppliesAt x n refusal → ⊥
    told (fine none) e = none
    told (gets_refusal _) e = clash cc

    found : {c : Checked} → RecordGets x c → ((n : ℕ) (refusal : Refusal) → AppliesAt x n refusal → ⊥) → c ≡ Accepted
    found (fine _) none = refl
    found (gets_refusal {refusal = f} y) none = absurd (none y.place f y.is_first.applies)
