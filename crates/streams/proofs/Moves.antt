-- What is read or written is no more than there is room or text, and each step that goes on goes further.
-- Assumes nothing.
use Rattle.std.proofs.Common.{◌≡◌, refl, ℕ, ◌+◌, ◌-◌, ◌*◌, ◌<◌, ◌≤◌, Bool, true, false, List, length, arith, Result}
use Rattle.std.proofs.Common.{Ok, Err, Option, None, Some, IfOk}
use borrow.Author.Tests.{eqb-false, le-ltb}
use lib.Dec.{eqb}
use Rattle.base.specs.Pick.{pick}
use Rattle.std.specs.Counts.{IsPrefixLen}
use Rattle.std.specs.IoError.{error_kind}
use Rattle.std.specs.declared.io.Error.{Error}
use Rattle.std.specs.declared.io.ErrorKind.{ErrorKind}
use Rattle.std.specs.declared.io.ErrorKind.TheVariants.{Interrupted, WouldBlock}
use Rattle.stream_steps.specs.declared.Moved.{Moved}
use Rattle.stream_steps.specs.declared.Moved.TheVariants.{Bytes, Nothing, Again, Failed}
use Rattle.stream_steps.specs.declared.Step.{Step}
use Rattle.stream_steps.specs.declared.Step.TheVariants as steps
use Rattle.stream_steps.specs.Steps.{fault_by, fault_of, moved_of, onward_of, after_call, after_read, after_write}
use Rattle.streams.specs.Within.{Counted, Within, All, Going}

-- ---- one call

-- each kind of fault is one of two
fault_counted : (size : ℕ) (k : ErrorKind) (e : Error) → Counted size (fault_by k e)
fault_counted size Interrupted e = Counted.again
fault_counted size WouldBlock e = Counted.again
fault_counted size k e = Counted.failed

-- an answer that moved no more than there is
pub answer_counted : (size : ℕ) (answer : Result ℕ Error) {r : Moved} → IfOk answer (λ n. n ≤ size)
    → r ≡ moved_of answer → Counted size r
answer_counted size (Ok n) h q = rw q (go (eqb n 0) refl)
  where
    go : (t : Bool) → eqb n 0 ≡ t → Counted size (pick t Nothing (Bytes n))
    go true e = Counted.nothing
    go false e = let k = eqb-false n 0 e in Counted.bytes {n = n} (omega arith) h
answer_counted size (Err e) h q = rw q (fault_counted size (error_kind e) e)

pub read_counted : (size : ℕ) (buf : List ℕ) (answer : Result ℕ Error) {r : Moved} → length buf ≡ size
    → IfOk answer (λ n. IsPrefixLen n buf) → r ≡ moved_of answer → Counted size r
read_counted size buf (Ok n) same h q = answer_counted size (Ok n) (omega (arith, h.0)) q
read_counted size buf (Err e) same h q = answer_counted size (Err e) tt q

-- ---- a step

module _ (Ends : Result ℕ (Option Error) → Type 0) (done size : ℕ) (inside : done ≤ size) (full : Ends (Ok size))
    (broken : (e : Option Error) → Ends (Err e)) where
  onward_going : (n : ℕ) → 0 < n → n ≤ size - done → Going Ends done size (onward_of done size n)
  onward_going n h k = rw (le-ltb size (done + n) (omega arith)) (go (eqb (done + n) size))
    where
      go : (t : Bool) → Going Ends done size (pick t (steps.Done size) (steps.On (done + n)))
      go true = Going.done full
      go false = Going.on {n = done + n} (omega arith) (omega arith)

  call_going : {none : Step} {m : Moved} → Going Ends done size none → Counted (size - done) m
      → Going Ends done size (after_call done size none m)
  call_going w (Counted.bytes {n} h k) = onward_going n h k
  call_going w Counted.nothing = w
  call_going w Counted.again = Going.wait
  call_going w (Counted.failed {e}) = Going.broken (broken (Some e))

-- of the rest of the slice
module _ {done size rest : ℕ} {m : Moved} {r : Step} (inside : done ≤ size) (given : Counted rest m)
    (e : rest ≡ size - done) where
  pub read_goes : r ≡ after_read done size m → Going (Within size) done size r
  read_goes q =
      rw q (call_going (Within size) done size inside (omega arith) (λ e. tt)
      (Going.done inside)
      (rw e at given))

  pub write_goes : 0 < size → r ≡ after_write done size m → Going (All size) done size r
  write_goes some q =
      let broken : (e : Option Error) → All size (Err e) = λ e. some in
      rw q (call_going (All size) done size inside refl broken (Going.broken (broken None)) (rw e at given))

-- ---- a loop's turn, after which the slice is as long as before

-- what falls with each turn: a byte more counts for all the patience that it gives back
abbrev pub left : ℕ → ℕ → ℕ → ℕ
left size done patience = (size - done) * 20000001 + patience

module _ {Ends : Result ℕ (Option Error) → Type 0} {done size : ℕ} where
  further : {n : ℕ} → Going Ends done size (steps.On n) → (done < n) × (n ≤ size)
  further (Going.on h k) = (h, k)

  ended : {n : ℕ} → Going Ends done size (steps.Done n) → Ends (Ok n)
  ended (Going.done w) = w

  module _ {r : Step} (going : Going Ends done size r) where
    module _ {n : ℕ} (e : r ≡ steps.On n) {now : ℕ} (same : now ≡ size) where
      pub on-less : (patience : ℕ) → left now n 20000000 < left size done patience
      on-less patience = let f = further (rw e at going) in omega arith

      pub on-inside : n ≤ now
      on-inside = let f = further (rw e at going) in omega arith

module _ {done size : ℕ} {r : Step} {n : ℕ} (e : r ≡ steps.Done n) where
  pub read-ends : {now : ℕ} → now ≡ size → Going (Within size) done size r → Within now (Ok n)
  read-ends same going = rw same (ended (rw e at going))

  pub write_ends : Going (All size) done size r → All size (Ok n)
  write_ends going = ended (rw e at going)

pub ruleset turn_steps = (on-less, on-inside, read-ends, write_ends)
