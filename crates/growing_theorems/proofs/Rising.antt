-- W14 has herds to speak of where N is entered: two roughage herds that are accepted and alike in everything but the N
-- a head, and the NH3 of both, computed from the definitions. It rises, so what is entered counts. Assumes nothing.
use Prim.Native.Nat.{ℕ, zero, suc, ◌<◌}
use mathlib.Core.Path.{◌≡◌, refl}
use mathlib.Core.List.{[], ◌∷◌}
use lib.Dec.{lit≤}
use lib.IntN.{pos}
use Rattle.base.specs.Text.{bytes}
use Rattle.inputs.specs.declared.Kind.TheVariants.{Roughage}
use Rattle.farm.specs.declared.Given.{Given}
use Rattle.farm.specs.declared.Given.TheVariants.{Standard, Value, Signed}
use Rattle.farm.specs.declared.Slot.{Slot}
use Rattle.farm.specs.declared.Herd.{Herd}
use Rattle.farm.specs.Labels.{label_of, byte_ok, label_ok}
use Rattle.farm.specs.Answers.{Accepted}
use Rattle.herd_tests.specs.Tests.{lacks}
use Rattle.fits.specs.Fits.{unfit}
use Rattle.checks.specs.Checks.{check_herd}
use Rattle.tables.specs.Growth.{k_of, within_day, k_at, nearest, growth_num, growth_den, exp_num, exp_den}
use Rattle.pasture.specs.Pasture.{roughage_grazing_time}
use Rattle.typed_inputs.specs.Typed.{typed_of, roughage_of, given_at}
use Rattle.outputs.specs.Grams.{figure}
use Rattle.herd.specs.Herd.{figures_of}
use Rattle.model.specs.Answers.{herd_figures}
use Rattle.growing_theorems.specs.Growing.{More, no_fewer}

-- ten red deer by the grams a head, their TAN left to the standard, on pasture for 200 days of 12 hours
abbrev pub red_deer : ℕ → Herd
red_deer grams =
    record {
      label = label_of (bytes "R");
      kind = Roughage;
      slots =
          slot (Value 1)
          ∷ slot (Value 10)
          ∷ slot (Value grams)
          ∷ slot Standard
          ∷ slot (Signed (pos 0))
          ∷ slot (Value 200)
          ∷ slot (Value 120)
          ∷ [];
    }
  where
    slot : Given → Slot
    slot g = record { given = g }

pub record Rises (h g : Herd) : Type 0 where
  pub accepted : check_herd h ≡ Accepted
  pub more-accepted : check_herd g ≡ Accepted
  pub alike : More "inp_n_excretion" Roughage h g
  pub pasture-was : figure "nh3_ngrazing" (herd_figures h) ≡ pos 3_835
  pub pasture-is : figure "nh3_ngrazing" (herd_figures g) ≡ pos 3_972
  pub housing-was : figure "nh3_nhousing" (herd_figures h) ≡ pos 27_609
  pub housing-is : figure "nh3_nhousing" (herd_figures g) ≡ pos 28_595

pub rising : Rises (red_deer 28_000) (red_deer 29_000)
unfolding check_herd lacks unfit label_ok label_of byte_ok typed_of roughage_of figures_of roughage_grazing_time k_of
    within_day
    k_at nearest growth_num growth_den exp_num exp_den
rising =
    record {
      accepted = refl;
      more-accepted = refl;
      alike = record { kind_of_first = refl; kind_of_second = refl; others = same; named = no_fewer (lit≤ tt) };
      pasture-was = refl;
      pasture-is = refl;
      housing-was = refl;
      housing-is = refl;
    }
  where
    same : (place : ℕ) → place < 7 → (place ≡ 2 → ⊥)
        → given_at (red_deer 29_000) place ≡ given_at (red_deer 28_000) place
    same zero inside other = refl
    same (suc zero) inside other = refl
    same (suc (suc zero)) inside other = absurd (other refl)
    same (suc (suc (suc place))) inside other = refl
