-- A file whose records say a farm is read as that farm: herd by herd, and in each record by record, none of 2 to 12 is
-- given. Assumes nothing.
use Prim.Native.Nat.{ℕ, ◌+◌, ◌<◌, ◌≤◌}
use mathlib.Core.Path.{◌≡◌, refl, sym, ap, ◌∙◌}
use mathlib.Core.Bool.{false}
use mathlib.Core.List.{List, [], ◌∷◌, ◌++◌, append_assoc, append-nil}
use native.Mathlib.Omega.{arith}
use lib.ListN.{length, length-append}
use lib.Dec.{leb}
use borrow.Author.Tests.{lt-leb}
use Rattle.base.specs.First.{first}
use Rattle.base.specs.Each.{Each, none, more}
use Rattle.base.proofs.Each.{each_map}
use Rattle.grammar.specs.Reading.{Reading, ◌then◌, end, whole, parts_of}
use Rattle.inputs.specs.declared.Kind.{Kind}
use Rattle.inputs.specs.Inputs.{same_kind}
use Rattle.farm.specs.declared.Label.{Label}
use Rattle.farm.specs.declared.Given.{Given}
use Rattle.farm.specs.declared.Herd.{Herd}
use Rattle.farm.specs.declared.Farm.{Farm}
use Rattle.farm.specs.Limits.{herds_most}
use Rattle.farm.specs.Labels.{same_label, label_of}
use Rattle.limits.specs.declared.Limits.{Limits}
use Rattle.herd_tests.specs.Tests.{labels_of, lacks, earlier_label}
use Rattle.checks.specs.Checks.{herds_of}
use Rattle.reader.specs.declared.FileAnswer.{FileAnswer}
use Rattle.progress.specs.Herds.{with_input, new_herd, has_input}
use Rattle.reader.specs.Files.{Progress, accepted, nothing_read, closed, taken, finished, read_from}
use Rattle.rules_theorems.specs.Lists.{Apart, Pairs}
use Rattle.first_refusal.specs.Records.{Record}
use Rattle.rules_theorems.specs.Rules.{
  GoodLabel,
  RecordSays,
  Gives,
  PartOf,
  HerdOf,
  StandTogether,
  farm_of,
  FarmOf,
}
use Rattle.rules_theorems.proofs.Lists.{each_append, each-front, each_back, pairs-append}
use Rattle.rules_theorems.proofs.Labels.{own-label, not_none}
use Rattle.rules_theorems.proofs.Entries.{reads}
use Rattle.first_refusal.proofs.Readings.{thens, thens-append, whole-thens}
use Rattle.rules_theorems.proofs.Herds.{own-kind, part-new, part-more, one-herd, all-part, agree, heads}
use Rattle.rules_theorems.proofs.Farms.{
  herd_tests,
  took_to,
  record_tests_lem,
  record_took,
  progress_at,
  closed-farm,
  closed-lacking,
  herds-of,
  Labelled,
  part-labelled,
  other-herd,
  no-earlier,
}

-- ---- one record: what is read of the rest of the file does not depend on how it came

module _ (most : ℕ) {cs : Record} {l : List ℕ} {k : Kind} {i : ℕ} {g : Given} (said : RecordSays cs l k i g) (n : ℕ)
    (p : Progress) (r : Reading) where
  -- a record that none of 8 to 11 is given for is taken
  pub steps : (q : Progress) → took_to n p (label_of l) k i g ≡ q
      → ((z : FileAnswer) → first (herd_tests most n p (label_of l) k i) z ≡ z)
      → read_from most n p (cs then r) ≡ read_from most (n + 1) q r
  unfolding read_from
  steps q e quiet =
      record_tests_lem said n p most (read_from most (n + 1) (taken n p (parts_of cs)) r)
      ∙ quiet (read_from most (n + 1) (taken n p (parts_of cs)) r)
      ∙ ap (λ (x : Progress). read_from most (n + 1) x r) (record_took said n p ∙ e)

-- ---- through the records of a herd H, of which b were read, which said the herd h

-- an input that stands behind others is none of them
apart-behind : (a : List ℕ) (i : ℕ) (c : List ℕ) → Apart (a ++ (i ∷ c)) → Each (λ x. x ≡ i → ⊥) a
apart-behind [] i c d = none
apart-behind (x ∷ a) i c (Apart.next n d) = more (front (each_back a (i ∷ c) n)) (apart-behind a i c d)
  where
    front : Each (λ b. x ≡ b → ⊥) (i ∷ c) → x ≡ i → ⊥
    front (more q _) = q

fresh-input : {b : List Record} {h : Herd} (p : PartOf b h) (i : ℕ) → Each (λ x. x ≡ i → ⊥) p.inputs
    → has_input h i ≡ false
fresh-input p i n = rw (p.rest i n)

module _ (most : ℕ) (H : Herd) (rs : List Record) (whole' : PartOf rs H) (hs : List Herd) (m k : ℕ)
    (rest : Reading) where
  through : (b c : List Record) {is js : List ℕ} → rs ≡ b ++ c → Pairs (Gives H) b is → Pairs (Gives H) c js
      → Apart (is ++ js) → (h : Herd) → PartOf b h → (n : ℕ)
      → read_from most n (progress_at hs h m k) (thens c rest)
      ≡ read_from most (n + length c) (progress_at hs H m k) rest
  through b [] e ps Pairs.none d h p n =
      let q : PartOf b H = rw (e ∙ append-nil b) at whole' in
      ap (λ (x : Herd). read_from most n (progress_at hs x m k) rest) (one-herd p q)
      ∙ ap (λ (x : ℕ). read_from most x (progress_at hs H m k) rest) (omega arith)
  through b (cs ∷ c) {is} e ps (Pairs.more {b = i} {m = js} x qs) d h p n =
      let a = agree p.each ps in
      let f = heads p.some p.each ps in
      let own = f.0 ∙ x.own in
      let kind = f.1 in
      let new = fresh-input p i (rw (sym a.inputs) at (apart-behind is i js d)) in
      let same = ap (λ (y : Label). same_label y (label_of x.label)) own ∙ own-label (reads x.says).good in
      let ks = ap (λ (y : Kind). same_kind y H.kind) kind ∙ own-kind H.kind in
      steps most x.says n (progress_at hs h m k) (thens c rest) (progress_at hs (with_input h i x.given) m k)
      (rw same)
      (λ z. rw (same, ks, new))
      ∙ through (b ++ (cs ∷ [])) c
      (e ∙ sym (append_assoc b (cs ∷ []) c))
      (pairs-append ps (Pairs.more x Pairs.none))
      qs
      (rw append_assoc d)
      (with_input h i x.given)
      (part-more x.says h own kind p new)
      (n + 1)
      ∙ ap (λ (y : ℕ). read_from most y (progress_at hs H m k) rest) (omega arith)

-- ---- through the herds, of which some are read

-- these herds are read, each with all its records
record Ready (hs : List Herd) (p : Progress) : Type 0 where
  farm : (closed p).farm ≡ farm_of hs
  lacking : (closed p).lacking ≡ 0
  new : (l : List ℕ) → GoodLabel l → Each (λ h. h.label ≡ label_of l → ⊥) hs
      → (same_label p.herd.label (label_of l) ≡ false) × (earlier_label (herds_of p.farm) (label_of l) ≡ false)

ready_start : Ready [] nothing_read
unfolding closed earlier_label
ready_start = record { farm = refl; lacking = refl; new = λ l good n. (not_none good, refl) }

ready_next : (hs : List Herd) (h : Herd) (m : ℕ) → length hs < herds_most → Each Labelled hs → Labelled h
    → lacks h ≡ false → Ready (hs ++ (h ∷ [])) (progress_at hs h (m + 1) 0)
ready_next hs h m room ls x whole' =
    record {
      farm = closed-farm hs h m 0 room;
      lacking = closed-lacking hs h m 0 room ∙ rw whole';
      new = λ l good n. (
        other-herd good h x (only (each_back hs (h ∷ []) n)),
        ap (λ (y : List Herd). earlier_label y (label_of l)) (herds-of hs)
            ∙ no-earlier good ls (each-front hs (h ∷ []) n),
      );
    }
  where
    only : {P : Herd → Type 0} → Each P (h ∷ []) → P h
    only (more p none) = p

-- the first record of a herd
module _ {most : ℕ} {hs : List Herd} {p : Progress} (r : Ready hs p) (room : length hs < most) {cs : Record}
    {l : List ℕ} {k : Kind} {i : ℕ} {g : Given} (said : RecordSays cs l k i g)
    (new : Each (λ h. h.label ≡ label_of l → ⊥) hs) (n : ℕ) (rest : Reading) where
  begins : read_from most n p (cs then rest)
      ≡ read_from most (n + 1) (progress_at hs (new_herd (label_of l) k i g) n 0) rest
  begins =
      let f = r.new l (reads said).good new in
      let full : leb most (closed p).farm.count ≡ false = ap (λ (x : Farm). leb most x.count) r.farm
      ∙ lt-leb most (length hs) room in
      steps most said n p rest (progress_at hs (new_herd (label_of l) k i g) n 0)
      (rw f.0 (ap (λ (x : Farm). record
      { farm = x; herd = new_herd (label_of l) k i g; first = n; lacking = (closed p).lacking }) r.farm
      ∙ ap (λ (x : ℕ). record { farm = farm_of hs; herd = new_herd (label_of l) k i g; first = n; lacking = x })
      r.lacking))
      (λ z. rw (f.0, f.1, full))

-- a herd's records
herd-through : {most : ℕ} (H : Herd) (rs : List Record) {hs : List Herd} {p : Progress} → PartOf rs H → Ready hs p
    → length hs < most → Each (λ h. h.label ≡ H.label → ⊥) hs → (n : ℕ) (rest : Reading)
    → read_from most n p (thens rs rest) ≡ read_from most (n + length rs) (progress_at hs H n 0) rest
herd-through {most} H rs {hs} {p} whole' r room new n rest = go rs whole' whole'.some whole'.each whole'.once
  where
    go : (rs : List Record) {is : List ℕ} → PartOf rs H → 1 ≤ length rs → Pairs (Gives H) rs is → Apart is
        → read_from most n p (thens rs rest) ≡ read_from most (n + length rs) (progress_at hs H n 0) rest
    go [] w some ps d = absurd (omega arith)
    go (cs ∷ c) w some (Pairs.more {b = i} x ps) d =
        begins r room x.says (each_map (λ h n' e. n' (e ∙ sym x.own)) new) n (thens c rest)
        ∙ through most H (cs ∷ c) w hs n 0 rest (cs ∷ []) c refl (Pairs.more x Pairs.none) ps d
        (new_herd (label_of x.label) H.kind i x.given) (part-new x.says) (n + 1)
        ∙ ap (λ (y : ℕ). read_from most y (progress_at hs H n 0) rest) (omega arith)

finish : {hs : List Herd} {p : Progress} → Ready hs p → finished p ≡ accepted (farm_of hs)
unfolding finished
finish r = rw (finished, r.lacking) (ap accepted r.farm)

-- each of the herds to come has a label that none of those read has
abbrev New : List Herd → List Herd → Type 0
New done coming = Each (λ t. Each (λ d. d.label ≡ t.label → ⊥) done) coming

new-next : (done : List Herd) (h : Herd) (coming : List Herd) → New done coming
    → Each (λ b. h.label ≡ b → ⊥) (labels_of coming) → New (done ++ (h ∷ [])) coming
new-next done h [] none none = none
new-next done h (t ∷ coming) (more n ns) (more m ms) = more (each_append n (more m none)) (new-next done h coming ns ms)

herds-through : {most : ℕ} → most ≤ herds_most
    → (done : List Herd) {p : Progress} {rs : List Record} {coming : List Herd} → Ready done p
    → Each Labelled done → StandTogether HerdOf rs coming → length done + length coming ≤ most
    → Apart (labels_of coming) → New done coming → (m : ℕ)
    → read_from most (m + 1) p (thens rs end) ≡ accepted (farm_of (done ++ coming))
unfolding read_from
herds-through fit done r ls StandTogether.none room d new m = finish r
    ∙ ap (λ (x : List Herd). accepted (farm_of x)) (sym (append-nil done))
herds-through {most} fit done {p} r ls (StandTogether.more {rs = rs} {rest = rest} {h = h} {hs = hs} x s) room
    (Apart.next a d)
    (more n ns)
    m =
    let lab = part-labelled x.part in
    ap (read_from most (m + 1) p) (thens-append rs rest end)
    ∙ herd-through h rs x.part r (omega arith) n (m + 1) (thens rest end)
    ∙ ap (λ (y : ℕ). read_from most y (progress_at done h (m + 1) 0) (thens rest end)) (omega arith)
    ∙ herds-through fit (done ++ (h ∷ []))
    (ready_next done h m (omega (arith, fit)) ls lab (all-part x.part x.all))
    (each_append ls (more lab none))
    s
    (omega (arith, length-append done (h ∷ [])))
    d
    (new-next done h hs ns a)
    (m + length rs)
    ∙ ap (λ (y : List Herd). accepted (farm_of y)) (append_assoc done (h ∷ []) hs)

new-all : (hs : List Herd) → New [] hs
new-all [] = none
new-all (h ∷ hs) = more none (new-all hs)

-- records that say a farm are read as that farm
pub says-read : {limits : Limits} → limits.herds ≤ herds_most → {rs : List Record} {f : Farm} → FarmOf limits rs f
    → read_from limits.herds 1 nothing_read (whole rs) ≡ accepted f
says-read {limits} fit {rs} x =
    ap (read_from limits.herds 1 nothing_read) (whole-thens rs)
    ∙ herds-through fit [] ready_start none x.stand (omega (arith, x.most)) x.apart (new-all x.herds) 0
    ∙ ap accepted (sym x.is)
