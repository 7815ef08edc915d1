-- Lines put one after the other, two numbers of the list each. Assumes nothing.
use Prim.Native.Nat.{ℕ, ◌+◌, ◌-◌, ◌*◌, ◌≤◌, ◌<◌}
use mathlib.Core.Path.{◌≡◌, refl, subst}
use mathlib.Core.List.{List, [], ◌∷◌, ◌++◌}
use native.Mathlib.Omega.{arith}
use lib.ListN.{length, get_or, take, drop, length-drop}
use lib.Seq.{take_all}
use Rattle.base.specs.Wrote.{Wrote}
use Rattle.base.proofs.ToCome.{ToCome, begun, gone_on, ended}
use Rattle.decimal.specs.Writing.{pair_of}
use Rattle.decimal.specs.Rooms.{pair_room}
use Rattle.mend_print.specs.Lines.{lines_of, number_room}

-- ---- of the numbers that are left

lines_at : (rest : List ℕ) → 2 ≤ length rest
    → lines_of rest ≡ pair_of (get_or rest 0 0) (get_or rest 1 0) ++ lines_of (drop 2 rest)
unfolding lines_of
lines_at [] h = absurd (omega arith)
lines_at (a ∷ []) h = absurd (omega arith)
lines_at (a ∷ b ∷ l) h = refl

lines_end : (rest : List ℕ) → length rest < 2 → lines_of rest ≡ []
unfolding lines_of
lines_end [] h = refl
lines_end (a ∷ []) h = refl
lines_end (a ∷ b ∷ l) h = absurd (omega arith)

-- what was put of the list, of which `rest` is left
pub record Putting (list old rest now : List ℕ) (at : ℕ) : Type 0 where
  pub written : ToCome old 0 (lines_of list) now (lines_of rest) at
  pub room : at + length rest * number_room ≤ length old

module _ (list old : List ℕ) where
  pub lines_start : length list * number_room ≤ length old → Putting list old list old 0
  lines_start h = record { written = begun; room = omega arith }

  module _ (rest now : List ℕ) (at : ℕ) (inv : Putting list old rest now at) where
    pub lines_same : length now ≡ length old
    lines_same = inv.written.same

    module _ (h : 2 ≤ length rest) where
      pub line-room : at + pair_room ≤ length now
      line-room = omega (arith, inv.room, inv.written.same)

      pub line-goes : (new : List ℕ) (next : ℕ) → Wrote now at (pair_of (get_or rest 0 0) (get_or rest 1 0)) new next
          → next ≤ at + pair_room
          → (k : ℕ) → k ≡ length rest - 2
          → Putting list old (take k (drop 2 rest)) new next
      line-goes new next w n k e =
          let all : take k (drop 2 rest) ≡ drop 2 rest = take_all k _ (omega (arith, e, length-drop 2 rest)) in
          rw all (record {
            written = gone_on (subst (λ (l : List ℕ). ToCome old 0 (lines_of list) now l at) (lines_at rest h)
                inv.written) w;
            room = omega (arith, inv.room, length-drop 2 rest);
          })

    pub lines-done : length rest < 2 → Wrote old 0 (lines_of list) now at
    lines-done h =
        ended (subst (λ (l : List ℕ). ToCome old 0 (lines_of list) now l at) (lines_end rest h) inv.written)

pub ruleset line_steps = (lines_start, lines_same, line-room, line-goes, lines-done)
