-- 02, W12, a file read into a lent array: what it is read as and within which limits, what is answered, and what the
-- array holds then. It mirrors the code for its contracts; what it means is said of a file's records in
-- `lent_theorems`, and proved there.
use Rattle.std.specs.Prelude.{ℕ, min, ◌≡◌, List, length}
use Rattle.farm.specs.declared.Herd.{Herd}
use Rattle.limits.specs.declared.Limits.{Limits}
use Rattle.limits.specs.Limits.{cooperative_bytes, cooperative_herds}
use Rattle.checks.specs.Checks.{herds_of}
use Rattle.reader.specs.declared.FileAnswer.{FileAnswer}
use Rattle.reader.specs.Files.{read_of}
use Rattle.lent.specs.Laid.{laid}
use Rattle.lent_file.specs.declared.LentAnswer.{LentAnswer}

-- a cooperative's limits, and no more herds than an array of so many entries takes: 9 "when the array or the 512 is
-- full"
abbrev pub limits_for : ℕ → Limits
limits_for len = record { bytes = cooperative_bytes; herds = min len cooperative_herds }

unfoldable pub read_for : ℕ → List ℕ → FileAnswer
read_for len s = read_of (limits_for len) s

-- how many herds, or the refusal and 0
abbrev pub told_of : FileAnswer → LentAnswer
told_of a = record { checked = a.checked; count = a.farm.count }

-- a file s read into an array that held `old` gives r, and the array holds `new`
pub record ReadInto (s : List ℕ) (old : List Herd) (r : LentAnswer) (new : List Herd) : Type 0 where
  pub answer : r ≡ told_of (read_for (length old) s)
  pub array : new ≡ laid (herds_of (read_for (length old) s).farm) old
