-- 02, W13, of every record that is handed in: what is promised of the kilograms beside the grams, under every name.
-- Assumes nothing.
use Rattle.std.specs.Prelude.{Err}
use Prim.Native.Nat.{ℕ, zero, suc, ◌≤◌}
use Prim.Native.String.{String}
use mathlib.Core.Path.{◌≡◌, refl}
use mathlib.Core.List.{List, []}
use native.Mathlib.Omega.{arith}
use lib.IntN.{ℤ, pos, negsuc, nat_abs}
use Rattle.farm.specs.declared.Herd.{Herd}
use Rattle.farm.specs.declared.Farm.{Farm}
use Rattle.farm.specs.declared.Refusal.{Refusal}
use Rattle.farm.specs.Answers.{Accepted, Checked}
use Rattle.checks.specs.Checks.{check_herd, check_farm}
use Rattle.typed_inputs.specs.Typed.{typed_of}
use Rattle.typed_inputs.proofs.Sound.{typed_sound}
use Rattle.outputs.specs.Names.{number, total_number}
use Rattle.outputs.specs.Grams.{grams_at, figure, total, zeros, no_figures, totals_of, GramsTo}
use Rattle.outputs.proofs.Adding.{zeros-to}
use Rattle.kilograms.specs.Kilograms.{exact_most, plus_zero, figure_in_kilograms, total_in_kilograms}
use Rattle.kilograms.specs.Promised.{Promised}
use Rattle.kilograms.proofs.Promised.{figures-promised, totals-promised, no-grams_plus_zero}
use Rattle.model.specs.Answers.{herd_figures, answer_herd, herd_answer, answer_farm, farm_answer}
use Rattle.model.proofs.Exact.{figures-exact, totals-exact, no-totals-small, no-totals-exact}
use Rattle.base.specs.Refused.{refuse}

-- grams of which none is larger than 0
none-larger : {g : List ℤ} → GramsTo 0 g → (n : ℕ) → grams_at g n ≡ pos 0
none-larger {g} to n = no_size (grams_at g n) (to.most n)
  where
    no_size : (z : ℤ) → nat_abs z ≤ 0 → z ≡ pos 0
    no_size (pos zero) h = refl
    no_size (pos (suc k)) h = absurd (omega arith)
    no_size (negsuc k) h = absurd (omega arith)

-- ---- a herd

pub herd-kilograms : (h : Herd) (t : String)
    → Promised (figure t (herd_answer h).figures) (figure_in_kilograms t (herd_answer h).kilograms)
unfolding herd_answer
herd-kilograms h t = go (check_herd h) refl
  where
    go : (c : Checked) → check_herd h ≡ c
        → Promised (figure t (answer_herd c h).figures) (figure_in_kilograms t (answer_herd c h).kilograms)
    go Accepted e = figures-promised (herd_figures h) (figures-exact (typed_of h) (typed_sound h e)) t
    go (Err refused) e = figures-promised no_figures (zeros-to exact_most) t

-- a refused herd has +0 under every name
pub refused-herd_plus_zero : (h : Herd) (refusal : Refusal) (n : ℕ) → check_herd h ≡ refuse refusal n → (t : String)
    → figure_in_kilograms t (herd_answer h).kilograms ≡ plus_zero
unfolding herd_answer
refused-herd_plus_zero h refusal n e t =
    rw e (no-grams_plus_zero zeros (number t) (none-larger (zeros-to 0) (number t)))

-- ---- a farm

pub farm-kilograms : (f : Farm) (t : String)
    → Promised (total t (farm_answer f).totals) (total_in_kilograms t (farm_answer f).kilograms)
unfolding farm_answer
farm-kilograms f t = go (check_farm f) refl
  where
    go : (c : Checked) → check_farm f ≡ c
        → Promised (total t (answer_farm c f).totals) (total_in_kilograms t (answer_farm c f).kilograms)
    go Accepted e = totals-promised (answer_farm Accepted f).totals (totals-exact f e) t
    go (Err refused) e = totals-promised (totals_of []) no-totals-exact t

-- a refused farm has +0 under every name
pub refused-farm_plus_zero : (f : Farm) (refusal : Refusal) (n : ℕ) → check_farm f ≡ refuse refusal n → (t : String)
    → total_in_kilograms t (farm_answer f).kilograms ≡ plus_zero
unfolding farm_answer
refused-farm_plus_zero f refusal n e t =
    rw e (no-grams_plus_zero (totals_of []).grams (total_number t) (none-larger no-totals-small (total_number t)))
