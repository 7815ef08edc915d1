-- A file read: 1 before all, then its records, within its limits. Each law in the form that a place of src/lib.rt
-- wants. Assumes nothing.
use Prim.Native.Nat.{ℕ, ◌≤◌, ◌<◌}
use mathlib.Core.Path.{◌≡◌, ap, ◌∙◌}
use mathlib.Core.List.{List}
use lib.ListN.{length}
use borrow.Author.Tests.{lt-ltb, le-ltb}
use Rattle.grammar.specs.Reading.{reading_of}
use Rattle.farm.specs.declared.Refusal.TheVariants.{FileTooLong}
use Rattle.limits.specs.declared.Limits.{Limits}
use Rattle.limits.specs.declared.Source.{Source}
use Rattle.limits.specs.Limits.{limits_of}
use Rattle.reader.specs.declared.FileAnswer.{FileAnswer}
use Rattle.reader.specs.Files.{refused, nothing_read, read_from, herds_within, read_of}

module _ (limits : Limits) (s : List ℕ) (r : FileAnswer) where
  pub too_long : limits.bytes < length s → r ≡ refused 0 FileTooLong → r ≡ read_of limits s
  unfolding read_of
  too_long h e = rw (lt-ltb limits.bytes (length s) h) e

  pub within : length s ≤ limits.bytes → (k : ℕ) → k ≡ herds_within limits
      → r ≡ read_from k 1 nothing_read (reading_of s) → r ≡ read_of limits s
  unfolding read_of
  within h k q e =
      rw (le-ltb limits.bytes (length s) h) (e ∙ ap (λ (m : ℕ). read_from m 1 nothing_read (reading_of s)) q)

  pub from : (source : Source) → limits ≡ limits_of source → r ≡ read_of limits s → r ≡ read_of (limits_of source) s
  from source q e = e ∙ ap (λ (l : Limits). read_of l s) q

pub ruleset read_steps = (too_long, within, from)
