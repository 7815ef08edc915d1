-- What a read or a write gave, and what to do after it.
use Rattle.std.specs.Prelude.{ℕ, ◌+◌, ltb, Result, Ok, Err, None, Some}
use Rattle.std.specs.IoError.{error_kind}
use Rattle.std.specs.declared.io.Error.{Error}
use Rattle.std.specs.declared.io.ErrorKind.{ErrorKind}
use Rattle.std.specs.declared.io.ErrorKind.TheVariants.{Interrupted, WouldBlock}
use Rattle.base.specs.Pick.{pick, if◌is◌then◌else◌}
use Rattle.stream_steps.specs.declared.Moved.{Moved}
use Rattle.stream_steps.specs.declared.Moved.TheVariants.{Bytes, Nothing, Again, Failed}
use Rattle.stream_steps.specs.declared.Step.{Step}
use Rattle.stream_steps.specs.declared.Step.TheVariants.{On, Wait, Done, Broken}

-- Interrupted, a signal came first; WouldBlock, a stream that does not wait was not ready. After these the call is made
-- again. They are the kinds of the system's errors 4, EINTR, and 11, EAGAIN, and of no other.
abbrev pub fault_by : ErrorKind → Error → Moved
fault_by Interrupted error = Again error
fault_by WouldBlock error = Again error
fault_by kind error = Failed error

abbrev pub fault_of : Error → Moved
fault_of error = fault_by (error_kind error) error

abbrev pub moved_of : Result ℕ Error → Moved
moved_of (Ok n) = if n is 0 then Nothing else Bytes n
moved_of (Err error) = fault_of error

-- n bytes more than `done`, of `size`
abbrev pub onward_of : ℕ → ℕ → ℕ → Step
onward_of done size n =
    pick (ltb size (done + n)) (Broken None) (if done + n is size then Done size else On (done + n))

-- after a call that was to move the bytes from `done` on, of `size`; `none` is what it means that it moved none
abbrev pub after_call : ℕ → ℕ → Step → Moved → Step
after_call done size none (Bytes n) = onward_of done size n
after_call done size none Nothing = none
after_call done size none (Again error) = Wait error
after_call done size none (Failed error) = Broken (Some error)

-- an input that gives nothing has ended
abbrev pub after_read : ℕ → ℕ → Moved → Step
after_read done size m = after_call done size (Done done) m

-- an output that takes nothing has failed
abbrev pub after_write : ℕ → ℕ → Moved → Step
after_write done size m = after_call done size (Broken None) m
