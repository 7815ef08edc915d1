-- What stands in a table of lists, from the start of its number to the next; how long the path of a kind is, and what a
-- line begins with. Assumes nothing.
use Prim.Native.Nat.{ℕ, ◌+◌, ◌≤◌, ◌<◌}
use mathlib.Core.Path.{◌≡◌, subst}
use mathlib.Core.List.{List, [], ◌∷◌, ◌++◌}
use native.Mathlib.Omega.{arith}
use lib.ListN.{length, get_or}
use Rattle.base.specs.Runs.{joined, starts}
use Rattle.base.specs.Text.{bytes}
use Rattle.base.proofs.Runs.{Run, run_at}
use Rattle.inputs.specs.declared.Kind.{Kind}
use Rattle.inputs.specs.declared.Kind.TheVariants.{Roughage, Cattle, Pigs, DairyCow}
use Rattle.line_parts.specs.Bounds.{longest_path}
use Rattle.line_parts.specs.Fields.{label_field}
use Rattle.line_parts.specs.Paths.{path_of}
use Rattle.line_parts.specs.Owners.{owner_of}

-- l is the list of the number n among ls
pub run_of : (ls : List (List ℕ)) (n : ℕ) → n < length ls → {l : List ℕ} → get_or ls n [] ≡ l
    → Run (joined ls) l (get_or (starts 0 ls) n 0) (get_or (starts 0 ls) (n + 1) 0)
run_of ls n h e =
    subst (λ (l : List ℕ). Run (joined ls) l (get_or (starts 0 ls) n 0) (get_or (starts 0 ls) (n + 1) 0)) e
    (run_at ls n h)

pub path-short : (k : Kind) → length (bytes (path_of k)) ≤ longest_path
path-short Roughage = omega arith
path-short Cattle = omega arith
path-short Pigs = omega arith
path-short DairyCow = omega arith

pub owner_is : {q : List ℕ} (label path : List ℕ) → q ≡ path → label_field label ++ (44 ∷ []) ++ q ≡ owner_of label path
unfolding owner_of
owner_is label path e = cc
