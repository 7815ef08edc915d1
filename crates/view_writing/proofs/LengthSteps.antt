-- The lengths of the herds' texts added up: the sum so far, and the texts of the herds from i on, are as long as all.
-- Assumes nothing.
use Prim.Native.Nat.{ℕ, ◌+◌, ◌*◌, ◌≤◌, ◌<◌}
use mathlib.Core.Path.{◌≡◌, ap}
use mathlib.Core.List.{List}
use native.Mathlib.Omega.{arith}
use lib.ListN.{length, get_or, drop, length-append, length-take}
use mir.Syntax.{w64}
use mir.Val.{Fits}
use Rattle.farm.specs.Limits.{herds_most}
use Rattle.farm.specs.declared.Herd.{Herd}
use Rattle.farm.specs.declared.Farm.{Farm}
use Rattle.farm.proofs.Left.{left_at, left_end}
use Rattle.farm.specs.Answers.{Accepted}
use Rattle.checks.specs.Checks.{check_farm, herds_of}
use Rattle.checks.proofs.Accepts.{farm-count}
use Rattle.line_parts.specs.Fields.{each}
use Rattle.views.specs.declared.View.{View}
use Rattle.views.specs.Views.{herd_text}
use Rattle.views.specs.Rooms.{herd_view_room}
use Rattle.views.proofs.FarmSteps.{passes}

pub record Measuring (v : View) (f : Farm) (i sum : ℕ) : Type 0 where
  pub few : f.count ≤ herds_most
  pub within : i ≤ f.count
  pub adds-up : sum + length (each (herd_text v) (drop i (herds_of f))) ≡ length (each (herd_text v) (herds_of f))
  pub short : sum ≤ i * herd_view_room

module _ (v : View) (f : Farm) where
  pub starts : check_farm f ≡ Accepted → Measuring v f 0 0
  starts accepted =
      record { few = farm-count f accepted; within = omega arith; adds-up = omega arith; short = omega arith }

  module _ (i sum : ℕ) (inv : Measuring v f i sum) where
    module _ (b : i < length (herds_of f)) (n : ℕ) (short : n ≤ herd_view_room) where
      inside : i < f.count
      inside = omega (arith, b, length-take f.count f.herds)

      pub sum_fits : Fits w64 (sum + n)
      sum_fits = omega (arith, short, inside, inv.short, inv.few)

      pub goes_on : (d : Herd) → n ≡ length (herd_text v (get_or (herds_of f) i d)) → Measuring v f (i + 1) (sum + n)
      goes_on d e =
          let first = left_at (herds_of f) i d b in
          let rest = each (herd_text v) (drop (i + 1) (herds_of f)) in
          record {
            few = inv.few;
            within = omega (arith, inside);
            adds-up =
                omega (
                  arith,
                  e,
                  inv.adds-up,
                  ap (λ (l : List Herd). length (each (herd_text v) l)) first,
                  length-append (herd_text v (get_or (herds_of f) i d)) rest,
                );
            short = omega (arith, inv.short);
          }

    pub all_measured : length (herds_of f) ≤ i → sum ≡ length (each (herd_text v) (herds_of f))
    all_measured b =
        let none = left_end (herds_of f) i b in
        omega (arith, inv.adds-up, ap (λ (l : List Herd). length (each (herd_text v) l)) none)

    pub all-within : sum ≤ f.count * herd_view_room
    all-within = omega (arith, inv.short, inv.within)

pub ruleset length_steps = (passes, starts, sum_fits, goes_on, all_measured, all-within)
