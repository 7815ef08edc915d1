-- The lines of a kind stand in their table, from the start of the number of its list to the next. Assumes nothing.
use Prim.Native.Nat.{ℕ, ◌+◌, ◌<◌}
use mathlib.Core.Path.{◌≡◌, refl, ap, ◌∙◌}
use mathlib.Core.List.{[], map}
use lib.ListN.{length, get_or}
use Rattle.base.specs.Runs.{joined, starts}
use Rattle.base.proofs.Runs.{Run}
use Rattle.inputs.specs.declared.Kind.{Kind}
use Rattle.inputs.specs.declared.Kind.TheVariants.{Roughage, Cattle, Pigs, DairyCow}
use Rattle.outputs.specs.Names.{number}
use Rattle.line_parts.proofs.Paths.{run_of}
use Rattle.listing.specs.HerdLines.{lines_of}
use Rattle.listing.specs.Numbered.{listed, list_number}

lines_at : (k : Kind) → get_or listed (list_number k) [] ≡ map number (lines_of k)
lines_at Roughage = refl
lines_at Cattle = refl
lines_at Pigs = refl
lines_at DairyCow = refl

pub lines-run : (k : Kind) {n : ℕ} → n ≡ list_number k → n < length listed
    → Run (joined listed) (map number (lines_of k)) (get_or (starts 0 listed) n 0) (get_or (starts 0 listed) (n + 1) 0)
lines-run k {n} e h = run_of listed n h (ap (λ (m : ℕ). get_or listed m []) e ∙ lines_at k)
