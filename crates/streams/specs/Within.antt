-- What a read or a write can have given of a slice, and how a reading or a writing can go on and end.
use Rattle.std.specs.Prelude.{◌≡◌, ℕ, ◌<◌, ◌≤◌, Option, Result, Ok, Err, IfOk, MatchResult}
use Rattle.std.specs.declared.io.Error.{Error}
use Rattle.stream_steps.specs.declared.Moved.{Moved}
use Rattle.stream_steps.specs.declared.Moved.TheVariants.{Bytes, Nothing, Again, Failed}
use Rattle.stream_steps.specs.declared.Step.{Step}
use Rattle.stream_steps.specs.declared.Step.TheVariants as steps

-- no more than the slice has
pub data Counted (size : ℕ) : Moved → Type 0 where
  bytes : {n : ℕ} → 0 < n → n ≤ size → Counted size (Bytes n)
  nothing : Counted size Nothing
  again : {e : Error} → Counted size (Again e)
  failed : {e : Error} → Counted size (Failed e)

-- an input is read: no more of it than the buffer has room for
abbrev pub Within : ℕ → Result ℕ (Option Error) → Type 0
Within size r = IfOk r (λ n. n ≤ size)

-- a text is written: all of it; where there is nothing to write, that cannot break off
abbrev pub All : ℕ → Result ℕ (Option Error) → Type 0
All size r = MatchResult r (λ n. n ≡ size) (λ e. 0 < size)

-- a step that goes on goes further, and not past the end; one that stops does so with an outcome that may be
pub data Going (Ends : Result ℕ (Option Error) → Type 0) (from size : ℕ) : Step → Type 0 where
  on : {n : ℕ} → from < n → n ≤ size → Going Ends from size (steps.On n)
  wait : {e : Error} → Going Ends from size (steps.Wait e)
  done : {n : ℕ} → Ends (Ok n) → Going Ends from size (steps.Done n)
  broken : {e : Option Error} → Ends (Err e) → Going Ends from size (steps.Broken e)
