-- The rules of a step, one after the other: the first that holds gives the refusal, and none before it holds.
-- Assumes nothing.
use Rattle.std.specs.Prelude.{Err}
use Prim.Native.Nat.{ℕ, zero, suc, ◌<◌}
use mathlib.Core.Path.{◌≡◌, refl}
use mathlib.Core.Bool.{Bool, true, false, ◌&&◌}
use mathlib.Core.List.{List, [], ◌∷◌}
use native.Mathlib.Omega.{arith}
use lib.ListN.{length, get_or}
use Rattle.base.specs.Pick.{pick}
use Rattle.base.specs.First.{first}
use Rattle.base.proofs.Clash.{clash}
use Rattle.books.specs.declared.Step.{Step}
use Rattle.books.specs.declared.Step.TheVariants.{Add, Replace, Remove}
use Rattle.books.specs.declared.StepRefusal.TheVariants.{TotalTooLarge}
use Rattle.books.specs.Rules.{Rule, is_of, tests, Decided, Done}
use Rattle.step_theorems.specs.Refusals.{NamesOne, BringsOne, AddsOne}

-- ---- the steps that a rule is of

abbrev pub every : List Step
every = Add ∷ Replace ∷ Remove ∷ []

pub every-step : (s : Step) → is_of every s ≡ true
every-step Add = refl
every-step Replace = refl
every-step Remove = refl

pub names-one : (s : Step) → is_of (Replace ∷ Remove ∷ []) s ≡ true → NamesOne s
names-one Add e = clash cc
names-one Replace e = NamesOne.replacing
names-one Remove e = NamesOne.removing

pub of-names : {s : Step} → NamesOne s → is_of (Replace ∷ Remove ∷ []) s ≡ true
of-names NamesOne.replacing = refl
of-names NamesOne.removing = refl

pub brings-one : (s : Step) → is_of (Add ∷ Replace ∷ []) s ≡ true → BringsOne s
brings-one Add e = BringsOne.adding
brings-one Replace e = BringsOne.replacing
brings-one Remove e = clash cc

pub of-brings : {s : Step} → BringsOne s → is_of (Add ∷ Replace ∷ []) s ≡ true
of-brings BringsOne.adding = refl
of-brings BringsOne.replacing = refl

pub adds_one : (s : Step) → is_of (Add ∷ []) s ≡ true → AddsOne s
adds_one Add e = AddsOne.adding
adds_one Replace e = clash cc
adds_one Remove e = clash cc

pub of-adds : {s : Step} → AddsOne s → is_of (Add ∷ []) s ≡ true
of-adds AddsOne.adding = refl

pub right-false : (a b : Bool) → a ≡ true → (a && b) ≡ false → b ≡ false
right-false true b p e = e
right-false false b p e = clash cc

-- ---- one rule after the other

-- past the last
abbrev pub past : Rule
past = record { refusal = TotalTooLarge; steps = []; holds = false }

-- a rule says so of a step
abbrev pub applies : Step → Rule → Bool
applies step r = is_of r.steps step && r.holds

-- the rule at a place
abbrev pub rule_at : List Rule → ℕ → Rule
rule_at rs i = get_or rs i past

-- none of those before a place applies
abbrev pub QuietTo : Step → List Rule → ℕ → Type 0
QuietTo step rs n = (i : ℕ) → i < n → applies step (rule_at rs i) ≡ false

pub data Verdict (step : Step) (rs : List Rule) : Decided → Type 0 where
  quiet : QuietTo step rs (length rs) → Verdict step rs Done
  gives : {n : ℕ} → n < length rs → applies step (rule_at rs n) ≡ true → QuietTo step rs n
      → Verdict step rs (Err (rule_at rs n).refusal)

module _ (step : Step) where
  quiet_cons : (r : Rule) (rs : List Rule) (n : ℕ) → applies step r ≡ false → QuietTo step rs n
      → QuietTo step (r ∷ rs) (suc n)
  quiet_cons r rs n e q zero h = e
  quiet_cons r rs n e q (suc i) h = q i (omega arith)

  pub verdict : (rs : List Rule) → Verdict step rs (first (tests step rs) Done)
  verdict [] = quiet (λ i h. absurd (omega arith))
  verdict (r ∷ rs) = go (applies step r) refl (verdict rs)
    where
      behind : {c : Decided} → applies step r ≡ false → Verdict step rs c → Verdict step (r ∷ rs) c
      behind e (quiet q) = quiet (quiet_cons r rs (length rs) e q)
      behind e (gives {n = n} h a q) = gives {n = suc n} (omega arith) a (quiet_cons r rs n e q)

      go : (t : Bool) → applies step r ≡ t → Verdict step rs (first (tests step rs) Done)
          → Verdict step (r ∷ rs) (pick t (Err r.refusal) (first (tests step rs) Done))
      go true e v = gives {n = 0} (omega arith) e (λ i h. absurd (omega arith))
      go false e v = behind e v

  -- what is done, none of the rules refuses
  pub done-quiet : (rs : List Rule) → first (tests step rs) Done ≡ Done → QuietTo step rs (length rs)
  done-quiet rs e = go (verdict rs) e
    where
      go : {c : Decided} → Verdict step rs c → c ≡ Done → QuietTo step rs (length rs)
      go (quiet q) e = q
      go (gives h a q) e = clash cc
