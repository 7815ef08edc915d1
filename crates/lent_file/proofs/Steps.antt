-- A file read within the limits for an array, as src/lib.rt reads it. Assumes nothing.
use Prim.Native.Nat.{ℕ}
use mathlib.Core.Path.{◌≡◌, ap, ◌∙◌}
use mathlib.Core.List.{List}
use Rattle.limits.specs.declared.Limits.{Limits}
use Rattle.reader.specs.declared.FileAnswer.{FileAnswer}
use Rattle.reader.specs.Files.{read_of}
use Rattle.lent_file.specs.Reading.{limits_for, read_for}

pub read_so : (len : ℕ) (s : List ℕ) (l : Limits) (r : FileAnswer) → l ≡ limits_for len → r ≡ read_of l s
    → r ≡ read_for len s
unfolding read_for
read_so len s l r q e = e ∙ ap (λ (k : Limits). read_of k s) q
