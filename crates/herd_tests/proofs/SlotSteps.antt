-- A slot for each input: what stands at a place among the inputs and among the slots; and `any` of the slots says
-- nothing exactly where the herd lacks an input. Assumes nothing.
use Prim.Native.Nat.{ℕ, ◌+◌, ◌≤◌, ◌<◌}
use mathlib.Core.Path.{◌≡◌, refl, ap, ◌∙◌}
use mathlib.Core.Bool.{Bool, ◌||◌}
use mathlib.Core.List.{List, [], ◌∷◌}
use native.Mathlib.Omega.{arith}
use lib.ListN.{length, get_or, take, drop}
use Rattle.std.specs.List.{list_any}
use Rattle.inputs.specs.Inputs.{Row, rows_of, count_of, last_of, row_at}
use Rattle.farm.specs.Limits.{slots}
use Rattle.farm.specs.declared.Slot.{Slot}
use Rattle.farm.specs.declared.Herd.{Herd}
use Rattle.farm.specs.Herds.{is_missing, no_slot}
use Rattle.farm.proofs.Slots.{count_most}
use Rattle.farm.proofs.Left.{left_at}
use Rattle.herd_tests.specs.Tests.{lacks_one, lacks}

module _ (h : Herd) (i : ℕ) {count : ℕ} (q : count ≡ count_of h.kind) (long : length h.slots ≡ slots) (b : i < count)
  where
    pub row-at : drop i (rows_of h.kind) ≡ row_at h.kind i ∷ drop (i + 1) (rows_of h.kind)
    row-at = left_at (rows_of h.kind) i (last_of (rows_of h.kind)) (omega arith)

    pub slot_at : drop i h.slots ≡ get_or h.slots i no_slot ∷ drop (i + 1) h.slots
    slot_at = left_at h.slots i no_slot (omega (arith, count_most h.kind))

-- ---- one of the inputs is missing

any-missing : (rows : List Row) (said : List Slot) → length rows ≤ length said
    → list_any (λ s. is_missing s.given) (take (length rows) said) ≡ lacks_one rows said
any-missing [] said h = refl
any-missing (row ∷ rows) [] h = absurd (omega arith)
any-missing (row ∷ rows) (s ∷ said) h =
    ap (λ (t : Bool). is_missing s.given || t) (any-missing rows said (omega arith))

pub any-lacks : (h : Herd) {count : ℕ} {r : Bool} → r ≡ list_any (λ s. is_missing s.given) (take count h.slots)
    → count ≡ count_of h.kind → length h.slots ≡ slots → r ≡ lacks h
unfolding lacks
any-lacks h e q long =
    e ∙ ap (λ (n : ℕ). list_any (λ s. is_missing s.given) (take n h.slots)) q
    ∙ any-missing (rows_of h.kind) h.slots (omega (arith, count_most h.kind))
