-- 02, W8, what is promised: there is exactly one answer; it equals comparing the full total; a total equal to the line
-- is a no; and a yes depends on the shortest beginning alone, so that no later herd is needed. Assumes nothing.
use Prim.Native.Nat.{ℕ, zero, suc, ◌+◌, ◌≤◌, ◌<◌}
use mathlib.Core.Path.{◌≡◌, refl, sym, ap, ◌∙◌}
use mathlib.Core.Bool.{Bool, true, false}
use mathlib.Core.List.{List}
use native.Mathlib.Omega.{arith}
use borrow.Author.Tests.{ltb-true, ltb-false, lt-ltb, le-ltb}
use lib.Dec.{ltb}
use lib.ListN.{length, take}
use lib.Seq.{take_all, take-length}
use lib.IntN.{pos, nat_abs}
use lib.Signed.{lt_z}
use Rattle.cut_division.specs.Total as sums
use Rattle.farm.specs.declared.Herd.{Herd}
use Rattle.farm.specs.declared.Farm.{Farm}
use Rattle.farm.specs.Answers.{Accepted}
use Rattle.checks.specs.Checks.{check_farm, herds_of}
use Rattle.outputs.specs.Grams.{total}
use Rattle.model.specs.Answers.{farm_answer}
use Rattle.above_line.specs.declared.Above.{Above}
use Rattle.above_line.specs.declared.Above.TheVariants.{Yes, No}
use Rattle.above_line.specs.Line.{livestock, Passes, Shortest, Says, yes, no, is_yes}
use Rattle.above_line.proofs.Ammonia.{ammonia_of, livestock-is, passes_if, above_if}
use Rattle.above_line.proofs.Beginnings.{beginning-le, take-take, shared-length}

-- ---- exactly one

module _ {line : ℕ} {hs : List Herd} where
  same-shortest : {m n : ℕ} → Shortest line hs m → Shortest line hs n → m ≡ n
  same-shortest {m} {n} a b = go (ltb m n) refl (ltb n m) refl
    where
      go : (x : Bool) → ltb m n ≡ x → (y : Bool) → ltb n m ≡ y → m ≡ n
      go true e y f = absurd (b.no_shorter m (ltb-true m n e) a.passes)
      go false e true f = absurd (a.no_shorter n (ltb-true n m f) b.passes)
      go false e false f = omega (arith, ltb-false m n e, ltb-false n m f)

  pub one_answer : {a b : Above} → Says line hs a → Says line hs b → a ≡ b
  one_answer (yes s) (yes t) = ap Yes (same-shortest s t)
  one_answer (yes {n} s) (no none) = absurd (none n s.passes)
  one_answer (no none) (yes {n} s) = absurd (none n s.passes)
  one_answer (no none) (no other) = refl

-- the answer that there is
pub record Said (line : ℕ) (hs : List Herd) : Type 0 where
  pub answer : Above
  pub says : Says line hs answer

module _ (line : ℕ) (hs : List Herd) where
  abbrev sum_of : ℕ → ℕ
  sum_of m = sums.total ammonia_of (take m hs)

  -- no beginning of fewer than m herds passes
  abbrev pub NoneBelow : ℕ → Type 0
  NoneBelow m = (j : ℕ) → j < m → Passes line (take j hs) → ⊥

  pub none-next : (m : ℕ) → sum_of m ≤ line → NoneBelow m → NoneBelow (m + 1)
  none-next m low none j h p = go (ltb j m) refl
    where
      go : (b : Bool) → ltb j m ≡ b → ⊥
      go true e = none j (ltb-true j m e) p
      go false e =
          let same : j ≡ m = omega (arith, ltb-false j m e) in
          let over = above_if line (take m hs) (rw same at p) in
          omega arith

  pub none_at_all : (m : ℕ) → length hs < m → NoneBelow m → (j : ℕ) → Passes line (take j hs) → ⊥
  none_at_all m past none j p = go (ltb j m) refl
    where
      go : (b : Bool) → ltb j m ≡ b → ⊥
      go true e = none j (ltb-true j m e) p
      go false e =
          let whole : take j hs ≡ hs = take_all j hs (omega (arith, ltb-false j m e)) in
          none (length hs) past (rw (take-length hs) (rw whole at p))

  -- the first m herds pass, or what is said where they do not
  stop_or : (m : ℕ) → m ≤ length hs → NoneBelow m → (sum_of m ≤ line → Said line hs) → Said line hs
  stop_or m among none further = go (ltb line (sum_of m)) refl
    where
      go : (b : Bool) → ltb line (sum_of m) ≡ b → Said line hs
      go true t =
          record {
            answer = Yes m;
            says = yes (record {
              among = among;
              passes = passes_if line (take m hs) (ltb-true line (sum_of m) t);
              no_shorter = none;
            });
          }
      go false t = further (ltb-false line (sum_of m) t)

  -- among m herds and k more
  among-more : (k m : ℕ) → m + k ≡ length hs → NoneBelow m → Said line hs
  among-more zero m e none =
      stop_or m (omega arith) none
      (λ low.
      record {
        answer = No (length hs);
        says = no (none_at_all (m + 1) (omega arith) (none-next m low none));
      })
  among-more (suc k) m e none =
      stop_or m (omega arith) none (λ low. among-more k (m + 1) (omega arith) (none-next m low none))

  pub an_answer : Said line hs
  an_answer = among-more (length hs) 0 (omega arith) (λ j h. absurd (omega arith))

-- ---- the full total

module _ (line : ℕ) (hs : List Herd) where
  -- herds that come behind a beginning do not lower its total: no ammonia figure is below zero
  -- (`ammonia-not-below-zero` of proofs/Ammonia.antt), and so `livestock-is` makes a sum of whole grams of it
  pub stays-above : (n : ℕ) → Passes line (take n hs) → Passes line hs
  stays-above n p = passes_if line hs (omega (arith, above_if line (take n hs) p, beginning-le ammonia_of n hs))

  compared : (b : Bool) → ltb line (sums.total ammonia_of hs) ≡ b → lt_z (pos line) (livestock hs) ≡ b
  compared b e = rw (livestock-is hs) e

  not-above : (Passes line hs → ⊥) → sums.total ammonia_of hs ≤ line
  not-above none = go (ltb line (sums.total ammonia_of hs)) refl
    where
      go : (b : Bool) → ltb line (sums.total ammonia_of hs) ≡ b → sums.total ammonia_of hs ≤ line
      go true e = absurd (none (passes_if line hs (ltb-true line (sums.total ammonia_of hs) e)))
      go false e = ltb-false line (sums.total ammonia_of hs) e

  pub full-total : {a : Above} → Says line hs a → is_yes a ≡ lt_z (pos line) (livestock hs)
  full-total (yes {n} s) = sym (compared true (lt-ltb line _ (above_if line hs (stays-above n s.passes))))
  full-total (no none) =
      sym (compared false (le-ltb line _ (not-above (λ p. none (length hs) (rw (take-length hs) p)))))

-- of a farm: the total that is listed
pub farm-total : (line : ℕ) (f : Farm) {a : Above} → check_farm f ≡ Accepted → Says line (herds_of f) a
    → is_yes a ≡ lt_z (pos line) (total "nh3_nlivestock" (farm_answer f).totals)
unfolding farm_answer livestock
farm-total line f e s = rw e (full-total line (herds_of f) s)

-- ---- equal

pub equal_is-no : {line : ℕ} {hs : List Herd} {a : Above} → livestock hs ≡ pos line → Says line hs a
    → a ≡ No (length hs)
equal_is-no {line} {hs} e (yes {n} s) =
    let over = above_if line hs (stays-above line hs n s.passes) in
    let same : pos (sums.total ammonia_of hs) ≡ pos line = sym (livestock-is hs) ∙ e in
    absurd (omega (arith, ap nat_abs same))
equal_is-no e (no none) = refl

-- ---- the beginning decides

pub beginning_decides : {line : ℕ} {hs gs : List Herd} {n : ℕ} → Says line hs (Yes n) → take n gs ≡ take n hs
    → Says line gs (Yes n)
beginning_decides {line} {hs} {gs} {n} (yes s) same =
    yes (record {
      among = shared-length n hs gs same s.among;
      passes = rw same s.passes;
      no_shorter = λ m h p. s.no_shorter m h (rw (shorter m h) at p);
    })
  where
    shorter : (m : ℕ) → m < n → take m gs ≡ take m hs
    shorter m h =
        sym (take-take m n gs (omega arith)) ∙ ap (take m) same ∙ take-take m n hs (omega arith)

-- two farms that agree on that beginning get the same answer and count
pub same-beginning : {line : ℕ} {hs gs : List Herd} {n : ℕ} {b : Above} → Says line hs (Yes n)
    → take n gs ≡ take n hs → Says line gs b → b ≡ Yes n
same-beginning s same t = one_answer t (beginning_decides s same)
