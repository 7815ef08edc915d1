-- What W14 leaves out: figures that fall with one more animal, of herds that are accepted and alike in all else,
-- computed from the definitions. "TAN remaining is not part of this: it can fall." Assumes nothing.
use Prim.Native.Nat.{ℕ, zero, suc, ◌<◌}
use Prim.Native.String.{String}
use mathlib.Core.Path.{◌≡◌, refl}
use mathlib.Core.List.{List, [], ◌∷◌}
use native.Mathlib.Nat.{le-suc}
use lib.IntN.{ℤ, pos, negsuc}
use lib.Signed.{◌<ℤ◌, lt_z_yes}
use Rattle.base.specs.Each.{Each, none, more}
use Rattle.base.specs.Text.{bytes}
use Rattle.inputs.specs.declared.Kind.TheVariants.{Cattle}
use Rattle.farm.specs.declared.Given.TheVariants.{Value, Signed}
use Rattle.farm.specs.declared.Slot.{Slot}
use Rattle.farm.specs.declared.Herd.{Herd}
use Rattle.farm.specs.Labels.{label_of, byte_ok, label_ok}
use Rattle.farm.specs.Answers.{Accepted}
use Rattle.herd_tests.specs.Tests.{lacks}
use Rattle.fits.specs.Fits.{unfit}
use Rattle.checks.specs.Checks.{check_herd}
use Rattle.kinds.specs.Choices.{yard_at, floor_at}
use Rattle.yard.specs.Yard.{days_with_grazing_and_yard, share_lowered, share_excretion_with_grazing, yard_time}
use Rattle.pasture.specs.Pasture.{outdoor_grazing_time}
use Rattle.typed_inputs.specs.Typed.{typed_of, cattle_of, outdoor_of, given_at}
use Rattle.outputs.specs.Grams.{figure}
use Rattle.herd.specs.Herd.{figures_of}
use Rattle.model.specs.Answers.{herd_figures}
use Rattle.growing_theorems.specs.Growing.{More, no_fewer}

-- ---- records of cattle

-- the inputs but for the animals: grams a head, ten-thousandths of TAN, yard days, the places of yard and floor in
-- their lists, free factor, grazing days and tenths of an hour
abbrev inputs : ℕ → ℕ → ℕ → ℕ → ℕ → ℕ → ℕ → ℕ → List Slot
inputs grams tan yard-days yard floor free days hours =
    slot grams ∷ slot tan ∷ slot yard-days ∷ slot yard ∷ slot floor ∷ signed free ∷ slot days ∷ slot hours ∷ []
  where
    slot : ℕ → Slot
    slot v = record { given = Value v }

    signed : ℕ → Slot
    signed v = record { given = Signed (pos v) }

abbrev cattle : ℕ → List Slot → Herd
cattle animals others =
    record { label = label_of (bytes "C"); kind = Cattle; slots = record { given = Value animals } ∷ others }

one_more : (animals : ℕ) (others : List Slot)
    → More "animals" Cattle (cattle animals others) (cattle (suc animals) others)
one_more animals others =
    record { kind_of_first = refl; kind_of_second = refl; others = same; named = no_fewer (le-suc animals) }
  where
    same : (place : ℕ) → place < 9 → (place ≡ 0 → ⊥)
        → given_at (cattle (suc animals) others) place ≡ given_at (cattle animals others) place
    same zero inside other = absurd (other refl)
    same (suc place) inside other = refl

-- ---- the herds

-- a herd, one of its figures, and the smaller one of a herd with one more animal
pub record Row : Type 0 where
  pub animals : ℕ
  pub others : List Slot
  pub name : String
  pub was : ℤ
  pub is : ℤ

abbrev pub table : List Row
table =
    -- TAN remaining: 01's row 4, where the gases from the N are more than the TAN
    record {
      animals = 10;
      others = inputs 73000 200 0 0 0 0 365 240;
      name = "tan_remain_grazing";
      was = negsuc 5225;
      is = negsuc 5747;
    }
    -- above zero, by the cuts alone: 3 grams a head, TAN 20 percent, yard and pasture all year
    ∷ record {
      animals = 18;
      others = inputs 3 2000 365 1 0 0 365 240;
      name = "tan_remain_grazing";
      was = pos 9;
      is = pos 8;
    }
    -- TAN into the housing, behind a yard: two cuts at once. 01 takes no NH3 of it
    ∷ record {
      animals = 24;
      others = inputs 1 2000 365 2 0 0 365 120;
      name = "tan_into_housing";
      was = pos 3;
      is = pos 2;
    }
    ∷ []

pub record Falls (r : Row) : Type 0 where
  pub accepted : check_herd (cattle r.animals r.others) ≡ Accepted
  pub one-more-accepted : check_herd (cattle (suc r.animals) r.others) ≡ Accepted
  pub alike : More "animals" Cattle (cattle r.animals r.others) (cattle (suc r.animals) r.others)
  pub figure-was : figure r.name (herd_figures (cattle r.animals r.others)) ≡ r.was
  pub figure-is : figure r.name (herd_figures (cattle (suc r.animals) r.others)) ≡ r.is
  pub less : r.is <ℤ r.was

pub falling : Each Falls table
unfolding check_herd lacks unfit label_ok label_of byte_ok typed_of cattle_of outdoor_of yard_at floor_at figures_of
    days_with_grazing_and_yard share_lowered share_excretion_with_grazing yard_time outdoor_grazing_time
falling =
    more
    (record {
      accepted = refl;
      one-more-accepted = refl;
      alike = one_more 10 _;
      figure-was = refl;
      figure-is = refl;
      less = lt_z_yes tt;
    })
    (more
    (record {
      accepted = refl;
      one-more-accepted = refl;
      alike = one_more 18 _;
      figure-was = refl;
      figure-is = refl;
      less = lt_z_yes tt;
    })
    (more
    (record {
      accepted = refl;
      one-more-accepted = refl;
      alike = one_more 24 _;
      figure-was = refl;
      figure-is = refl;
      less = lt_z_yes tt;
    })
    none))
