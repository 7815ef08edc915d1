-- What the definitions give at each place of the code. The functions prove without them. Assumes nothing.
use Rattle.std.specs.Prelude.{Some, None}
use Rattle.std.specs.declared.io.Error.{Error}
use Prim.Native.Nat.{ℕ, ◌+◌, ◌-◌, ◌<◌, ◌≤◌}
use mathlib.Core.Path.{◌≡◌}
use native.Mathlib.Omega.{arith}
use borrow.Author.Tests.{eq-eqb, ne_eqb, lt-ltb, le-ltb}
use Rattle.stream_steps.specs.declared.Moved.{Moved}
use Rattle.stream_steps.specs.declared.Moved.TheVariants.{Bytes, Nothing, Failed}
use Rattle.stream_steps.specs.declared.Step.{Step}
use Rattle.stream_steps.specs.declared.Step.TheVariants.{On, Done, Broken}
use Rattle.stream_steps.specs.Steps.{onward_of, after_call}

module _ (done size n : ℕ) where
  pub past_it : size < done → Broken None ≡ onward_of done size n
  past_it h = simp (lt-ltb size (done + n) (omega arith))

  pub too_many : done ≤ size → size - done < n → Broken None ≡ onward_of done size n
  too_many h k = simp (lt-ltb size (done + n) (omega arith))

  pub just_full : done + n ≡ size → Done size ≡ onward_of done size n
  just_full e = simp (le-ltb size (done + n) (omega arith), eq-eqb (done + n) size e)

  pub not_full : done ≤ size → n ≤ size - done → (done + n ≡ size → ⊥) → On (done + n) ≡ onward_of done size n
  not_full h k e = simp (le-ltb size (done + n) (omega arith), ne_eqb (done + n) size e)

pub ruleset onward_steps = (past_it, too_many, just_full, not_full)

module _ (done size : ℕ) (none : Step) {m : Moved} where
  pub came : {n : ℕ} {r : Step} → m ≡ Bytes n → r ≡ onward_of done size n → r ≡ after_call done size none m
  came e q = rw e q

  pub none_came : m ≡ Nothing → none ≡ after_call done size none m
  none_came e = rw e

  pub failed : {error : Error} → m ≡ Failed error → Broken (Some error) ≡ after_call done size none m
  failed e = rw e

pub ruleset after_steps = (came, none_came, failed)
