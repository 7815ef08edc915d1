-- The lengths of the herds' files added up: the sum so far, and the files of the herds from i on, are as long as all.
-- And whether the whole is too long. Assumes nothing.
use Prim.Native.Nat.{ℕ, ◌+◌, ◌*◌, ◌≤◌, ◌<◌}
use mathlib.Core.Path.{◌≡◌, sym, ap}
use mathlib.Core.List.{List}
use native.Mathlib.Omega.{arith}
use borrow.Author.Tests.{lt-ltb, le-ltb}
use lib.ListN.{length, get_or, drop, length-append}
use mir.Syntax.{w64}
use mir.Val.{Fits}
use Rattle.base.proofs.Each.{each-get_or}
use Rattle.base.specs.Refused.{refuse}
use Rattle.farm.specs.Limits.{herds_most}
use Rattle.farm.specs.declared.Herd.{Herd}
use Rattle.farm.specs.declared.Farm.{Farm}
use Rattle.farm.specs.declared.Refusal.TheVariants.{FileTooLong}
use Rattle.farm.proofs.Left.{left_at, left_end}
use Rattle.farm.specs.Answers.{Accepted}
use Rattle.limits.specs.Limits.{cooperative_bytes}
use Rattle.checks.specs.Checks.{check_herd, check_farm, herds_of}
use Rattle.checks.proofs.Accepts.{farm-count, farm-each}
use Rattle.line_parts.specs.Fields.{each}
use Rattle.file_text.specs.Files.{herd_file, file_of}
use Rattle.file_room.proofs.Lengths.{longest, herd-fits, farm-most}
use Rattle.file_length.specs.Limit.{file_checked}

-- ---- a herd

pub herd-room : (h : Herd) → check_herd h ≡ Accepted → (scratch : List ℕ) → length scratch ≡ longest
    → 0 + length (herd_file h) ≤ length scratch
herd-room h e scratch long = omega (arith, herd-fits h e, long)

-- ---- herd after herd

pub passes : (f : Farm) → check_farm f ≡ Accepted → (i : ℕ) → i < length (herds_of f) → (d : Herd)
    → check_herd (get_or (herds_of f) i d) ≡ Accepted
passes f accepted i b d = each-get_or (herds_of f) i d (farm-each f accepted) b

pub record Measuring (f : Farm) (i sum : ℕ) : Type 0 where
  pub few : f.count ≤ herds_most
  pub short : length (file_of (herds_of f)) ≤ f.count * longest
  pub adds-up : sum + length (file_of (drop i (herds_of f))) ≡ length (file_of (herds_of f))

module _ (f : Farm) where
  pub few_herds : check_farm f ≡ Accepted → f.count ≤ herds_most
  few_herds accepted = farm-count f accepted

  pub starts : check_farm f ≡ Accepted → Measuring f 0 0
  starts accepted =
      record { few = farm-count f accepted; short = farm-most f accepted; adds-up = omega arith }

  module _ (i sum : ℕ) (inv : Measuring f i sum) where
    module _ (b : i < length (herds_of f)) (n : ℕ) (d : Herd)
        (e : n ≡ length (herd_file (get_or (herds_of f) i d))) where
      next : sum + n + length (file_of (drop (i + 1) (herds_of f))) ≡ length (file_of (herds_of f))
      unfolding file_of
      next =
          let first = left_at (herds_of f) i d b in
          let rest = each herd_file (drop (i + 1) (herds_of f)) in
          omega (
            arith,
            e,
            inv.adds-up,
            ap (λ (l : List Herd). length (each herd_file l)) first,
            length-append (herd_file (get_or (herds_of f) i d)) rest,
          )

      pub sum_fits : Fits w64 (sum + n)
      sum_fits = omega (arith, next, inv.short, inv.few)

      pub goes_on : Measuring f (i + 1) (sum + n)
      goes_on = record { few = inv.few; short = inv.short; adds-up = next }

    pub all_measured : length (herds_of f) ≤ i → sum ≡ length (file_of (herds_of f))
    unfolding file_of
    all_measured b =
        let none = left_end (herds_of f) i b in
        omega (arith, inv.adds-up, ap (λ (l : List Herd). length (each herd_file l)) none)

pub ruleset length_steps = (few_herds, passes, starts, sum_fits, goes_on, all_measured)

-- ---- the whole

module _ (file : List ℕ) (n : ℕ) (e : n ≡ length file) where
  pub too_long : cooperative_bytes < n → refuse FileTooLong 0 ≡ file_checked file
  unfolding file_checked
  too_long h = rw (lt-ltb cooperative_bytes (length file) (omega (arith, h, e)))

  pub not_too_long : n ≤ cooperative_bytes → Accepted ≡ file_checked file
  unfolding file_checked
  not_too_long h = rw (le-ltb cooperative_bytes (length file) (omega (arith, h, e)))

pub ruleset limit_steps = (too_long, not_too_long)
