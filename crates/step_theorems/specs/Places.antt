-- 02, W11: "only the named herd's record changes, the others keep their order, an added herd goes last, a replaced one
-- stays in its place", and 02, W12: "What a caller's array holds beyond the last herd stays as it was", entry by entry
-- of the array. After a removal the herds behind move up by one, and the entry that is freed keeps what stood there. To
-- be believed.
use Rattle.std.specs.Prelude.{ℕ, ◌+◌, ◌<◌, ◌≤◌, ◌≡◌, List, get_or}
use Rattle.farm.specs.declared.Herd.{Herd}
use Rattle.farm.specs.Herds.{no_herd}
use Rattle.books.specs.declared.Step.{Step}
use Rattle.books.specs.declared.Step.TheVariants.{Add, Replace, Remove}
use Rattle.step_theorems.specs.Refusals.{NamedAt}

abbrev pub entry : List Herd → ℕ → Herd
entry array i = get_or array i no_herd

-- an array that held `old`, of which the first `count` entries are herds, holds `new` after a step with h, and the
-- first `count'` are
pub data Changes (h : Herd) (old : List Herd) (count : ℕ) (new : List Herd) : Step → ℕ → Type 0 where
  adds : entry new count ≡ h → ((i : ℕ) → (i ≡ count → ⊥) → entry new i ≡ entry old i)
      → Changes h old count new Add (count + 1)
  replaces : {place : ℕ} → NamedAt old count h place → entry new place ≡ h
      → ((i : ℕ) → (i ≡ place → ⊥) → entry new i ≡ entry old i) → Changes h old count new Replace count
  removes : {place left : ℕ} → NamedAt old count h place → count ≡ left + 1
      → ((i : ℕ) → i < place → entry new i ≡ entry old i)
      → ((i : ℕ) → place ≤ i → i < left → entry new i ≡ entry old (i + 1))
      → ((i : ℕ) → left ≤ i → entry new i ≡ entry old i) → Changes h old count new Remove left
