-- What a step that is done tells of the array, the book and the herd, and what such a step makes of the array: a farm
-- that the checks accept. Assumes nothing.
use Rattle.std.specs.Prelude.{Err}
use Prim.Native.Nat.{ℕ, ◌<◌, ◌≤◌, min}
use mathlib.Core.Path.{◌≡◌, refl, sym, subst, ◌∙◌}
use mathlib.Core.Bool.{true, false}
use mathlib.Core.List.{List, [], ◌∷◌}
use native.Mathlib.Omega.{arith}
use lib.ListN.{length, take, length-take, length-append}
use borrow.Author.Tests.{leb-false, not-false}
use Rattle.base.specs.Each.{Each}
use Rattle.base.specs.First.{first}
use Rattle.base.proofs.Clash.{clash}
use Rattle.farm.specs.declared.Herd.{Herd}
use Rattle.farm.specs.declared.Farm.{Farm}
use Rattle.farm.specs.Limits.{herds_most}
use Rattle.farm.specs.Labels.{label_ok}
use Rattle.farm.specs.Answers.{Accepted, Checked}
use Rattle.herd_tests.specs.Tests.{lacks, earlier_label}
use Rattle.fits.specs.Fits.{unfit}
use Rattle.checks.specs.Checks.{check_herd, check_farm, herds_of}
use Rattle.checks.specs.Accepts.{GoodHerd, Distinct}
use Rattle.checks.proofs.Accepts.{accepted-herd, accepted-farm, good-farm}
use Rattle.lent.specs.Laid.{laid, farm_in}
use Rattle.lent.proofs.Entries.{length-laid, take-laid}
use Rattle.lent.proofs.Loaded.{loaded_count, loaded_herds}
use Rattle.farm_calls.proofs.Refusals.{accepted-within}
use Rattle.books.specs.declared.Book.{Book}
use Rattle.books.specs.declared.Step.{Step}
use Rattle.books.specs.declared.Step.TheVariants.{Add, Replace, Remove}
use Rattle.books.specs.Steps.{herds_after}
use Rattle.books.specs.Rules.{beyond, Rule, rules, is_of, tests, decided_after, decided_of, Done}
use Rattle.books.specs.Answers.{decided_in}
use Rattle.step_theorems.specs.Refusals.{NamesOne, BringsOne, AddsOne}
use Rattle.step_theorems.proofs.Rules.{every, every-step, of-names, of-brings, of-adds, right-false}
use Rattle.step_theorems.proofs.Rules.{QuietTo, done-quiet}
use Rattle.step_theorems.proofs.Herds.{each-added, each-replaced, each-removed}
use Rattle.step_theorems.proofs.Herds.{distinct-added, distinct-replaced, distinct-removed}
use Rattle.step_theorems.proofs.Herds.{length-replaced, length_removed}

-- ---- what a step that is done tells

pub record Allowed (array : List Herd) (book : Book) (step : Step) (h : Herd) : Type 0 where
  pub accepted : check_farm (farm_in array book.count) ≡ Accepted
  pub within-most : beyond book.totals ≡ false
  pub label : label_ok h.label ≡ true
  pub found : NamesOne step → earlier_label (take book.count array) h.label ≡ true
  pub new : AddsOne step → earlier_label (take book.count array) h.label ≡ false
  pub room : AddsOne step → book.count < min (length array) herds_most
  pub good : BringsOne step → check_herd h ≡ Accepted

herd-accepted : (h : Herd) → label_ok h.label ≡ true → lacks h ≡ false → unfit h ≡ false
    → check_herd h ≡ Accepted
unfolding check_herd
herd-accepted h a b c = rw (a, b, c)

module _ (array : List Herd) (book : Book) (step : Step) (h : Herd) where
  abbrev f : Farm
  f = farm_in array book.count

  abbrev hs : List Herd
  hs = take book.count array

  abbrev rs : List Rule
  rs = rules (length array) h hs book.totals

  by-quiet : check_farm f ≡ Accepted → length hs ≡ book.count → QuietTo step rs (length rs)
      → Allowed array book step h
  by-quiet accepted many q =
      let every_one = every-step step in
      let ok = not-false (label_ok h.label) (right-false (is_of every step) _ every_one (q 1 (omega arith))) in
      record {
        accepted = accepted;
        within-most = right-false (is_of every step) _ every_one (q 0 (omega arith));
        label = ok;
        found = λ s. not-false (earlier_label hs h.label)
            (right-false (is_of (Replace ∷ Remove ∷ []) step) _ (of-names s) (q 2 (omega arith)));
        new = λ s. right-false (is_of (Add ∷ []) step) _ (of-adds s) (q 3 (omega arith));
        room = λ s. let full = leb-false (min (length array) herds_most) (length hs)
            (right-false (is_of (Add ∷ []) step) _ (of-adds s) (q 4 (omega arith))) in omega (arith, many);
        good = λ s.
            let brings = of-brings s in
            herd-accepted h ok (right-false (is_of (Add ∷ Replace ∷ []) step) _ brings (q 5 (omega arith)))
            (right-false (is_of (Add ∷ Replace ∷ []) step) _ brings (q 6 (omega arith)));
      }

  pub allowed : decided_in array book step h ≡ Done → Allowed array book step h
  unfolding decided_in decided_of
  allowed = go (check_farm f) refl
    where
      go : (c : Checked) → check_farm f ≡ c
          → decided_after c (first (tests step (rules (length array) h (herds_of f) book.totals)) Done) ≡ Done
          → Allowed array book step h
      go Accepted e d =
          let w = accepted-within array book.count e in
          let same = loaded_herds array book.count w.0 w.1 in
          let done : first (tests step rs) Done ≡ Done =
          subst (λ (l : List Herd). first (tests step (rules (length array) h l book.totals)) Done ≡ Done) same d in
          by-quiet e (omega (arith, length-take book.count array)) (done-quiet step rs done)
      go (Err refused) e d = clash cc

-- ---- the herds after such a step

-- so many good herds, no two with one label
pub record GoodHerds (hs : List Herd) (most : ℕ) : Type 0 where
  pub few : length hs ≤ most
  pub herds : Each GoodHerd hs
  pub labels : Distinct hs

-- in an array that has room for them they are a farm that the checks accept
pub good-array : (hs old : List Herd) → GoodHerds hs (min (length old) herds_most)
    → check_farm (farm_in (laid hs old) (length hs)) ≡ Accepted
good-array hs old g =
    let new = laid hs old in
    let n : length hs ≤ length old = omega (arith, g.few) in
    let m : length hs ≤ herds_most = omega (arith, g.few) in
    let r : length hs ≤ length new = omega (arith, length-laid hs old) in
    let e : herds_of (farm_in new (length hs)) ≡ hs = loaded_herds new (length hs) r m ∙ take-laid hs old n in
    good-farm (farm_in new (length hs))
    (record {
      room = omega (arith, loaded_count new (length hs) r);
      herds = subst (λ (l : List Herd). Each GoodHerd l) (sym e) g.herds;
      labels = subst (λ (l : List Herd). Distinct l) (sym e) g.labels;
    })

-- of a farm that the checks accept
pub good-herds : (array : List Herd) (count : ℕ) → check_farm (farm_in array count) ≡ Accepted
    → GoodHerds (take count array) (min (length array) herds_most)
good-herds array count e =
    let w = accepted-within array count e in
    let g = accepted-farm (farm_in array count) e in
    let same = loaded_herds array count w.0 w.1 in
    record {
      few = omega (arith, length-take count array);
      herds = subst (λ (l : List Herd). Each GoodHerd l) same g.herds;
      labels = subst (λ (l : List Herd). Distinct l) same g.labels;
    }

module _ (array : List Herd) (book : Book) (h : Herd) where
  abbrev these : List Herd
  these = take book.count array

  abbrev most : ℕ
  most = min (length array) herds_most

  before : {step : Step} → Allowed array book step h → GoodHerds these most
  before a = good-herds array book.count a.accepted

  pub good-after : (step : Step) → Allowed array book step h → GoodHerds (herds_after step h these) most
  good-after Add a =
      let g = before a in
      record {
        few = omega (arith, length-append these (h ∷ []), length-take book.count array, a.room AddsOne.adding);
        herds = each-added g.herds (accepted-herd h (a.good BringsOne.adding));
        labels = distinct-added h g.labels (a.new AddsOne.adding);
      }
  good-after Replace a =
      let g = before a in
      record {
        few = omega (arith, g.few, length-replaced h these);
        herds = each-replaced h (accepted-herd h (a.good BringsOne.replacing)) g.herds;
        labels = distinct-replaced h g.labels;
      }
  good-after Remove a =
      let g = before a in
      record {
        few = omega (arith, g.few, length_removed h.label these (a.found NamesOne.removing));
        herds = each-removed h.label g.herds;
        labels = distinct-removed h.label g.labels;
      }
