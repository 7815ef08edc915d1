-- 02, W5, of a file from standard input: a farm of its herds is never too long to be written, so every accepted file is
-- written, and read again as the same farm. Assumes nothing.
use Prim.Native.Nat.{ℕ, ◌≤◌}
use mathlib.Core.Path.{◌≡◌}
use mathlib.Core.List.{List}
use lib.ListN.{length}
use Rattle.farm.specs.declared.Farm.{Farm}
use Rattle.limits.specs.declared.Source.TheVariants.{StandardInput}
use Rattle.limits.specs.Limits.{limits_of}
use Rattle.checks.specs.Checks.{herds_of}
use Rattle.reader.specs.Files.{accepted, read_of}
use Rattle.rules_theorems.specs.Rules.{allowed}
use Rattle.rules_theorems.proofs.Allowed.{as-allowed, allowed-fit}
use Rattle.rules_theorems.proofs.Accepts.{accepts-within}
use Rattle.rules_theorems.proofs.Passing.{passes-within}
use Rattle.file_text.specs.Files.{file_of}
use Rattle.file_room.proofs.Lengths.{herds_64}
use Rattle.written_theorems.proofs.Farms.{its_count, read-written}

module _ (s : List ℕ) (f : Farm) (e : read_of (allowed StandardInput) s ≡ accepted f) where
  short : length (file_of (herds_of f)) ≤ (allowed StandardInput).bytes
  unfolding allowed
  short =
      let fit = allowed-fit StandardInput in
      herds_64 f (passes-within (allowed StandardInput) fit s f e)
      (its_count (allowed StandardInput) ((accepts-within (allowed StandardInput) fit s f).0 e))

  within : read_of (allowed StandardInput) (file_of (herds_of f)) ≡ accepted f
  within = read-written (allowed StandardInput) (allowed-fit StandardInput) s f e short

pub input-written : (s : List ℕ) (f : Farm) → read_of (limits_of StandardInput) s ≡ accepted f
    → read_of (limits_of StandardInput) (file_of (herds_of f)) ≡ accepted f
input-written s f e = rw (as-allowed StandardInput) (within s f (rw (as-allowed StandardInput) at e))
