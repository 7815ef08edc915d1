-- That the theorems on nearness say something: forty grams for a pig house and ten for all others, a number that is
-- not near, a figure below zero, the largest herds, herds that show that a smaller promise would be broken, and wrong
-- formulas whose values no figure of ours is near.
-- Assumes nothing.
use mathlib.Core.Path.{◌≡◌, refl}
use mathlib.Core.List.{List, [], ◌∷◌, ◌++◌, map}
use Prim.Native.Nat.{ℕ, zero, suc, ◌*◌, ◌<◌}
use Prim.Native.String.{String}
use lib.Dec.{T, eqb, leb, le→leb, lit<, lit≤}
use lib.ListN.{replicate, drop}
use lib.IntN.{ℤ, pos, negsuc, ◌-ℤ◌, ◌*ℤ◌, nat_abs}
use Rattle.base.specs.Pick.{pick}
use Rattle.base.specs.Each.{Each, none, more}
use Rattle.base.proofs.Each.{each_map}
use Rattle.cut_division.specs.Cut.{◌cut_by◌}
use Rattle.cut_division.specs.Frac as F
use Rattle.cut_division.specs.Frac.{Frac, whole, per, ◌⊗◌, Within}
use Rattle.cut_division.proofs.Signed.{dn}
use Rattle.tables.specs.Standards.{◌kg}
use Rattle.tables.specs.Growth.{exp_num, exp_den, growth_num, growth_den, k_of, within_day, k_at, nearest}
use Rattle.amounts.specs.Units.{ten_thousandths, billionths}
use Rattle.amounts.specs.Arithmetic.{Arithmetic}
use Rattle.amounts.specs.Portion.{portion}
use Rattle.kinds.specs.declared.Entered.{Entered}
use Rattle.kinds.specs.declared.Entered.TheVariants.{Standard, Number}
use Rattle.kinds.specs.declared.ExerciseYard.TheVariants.{Partly, Exclusively}
use Rattle.kinds.specs.declared.Floor.TheVariants.{Solid}
use Rattle.kinds.specs.declared.HousingType.{HousingType}
use Rattle.kinds.specs.declared.HousingType.TheVariants.{SlurryLabel, Outdoor}
use Rattle.kinds.specs.declared.AirScrubber.TheVariants.{Biotrickling}
use Rattle.kinds.specs.declared.HousingFloor.TheVariants as floor
use Rattle.kinds.specs.declared.HousingAir.TheVariants as air
use Rattle.kinds.specs.declared.Roughage.{Roughage as RoughageHerd}
use Rattle.kinds.specs.declared.CattleKind.{CattleKind}
use Rattle.kinds.specs.declared.CattleKind.TheVariants.{OtherCattle, DairyCow}
use Rattle.kinds.specs.declared.Cattle.{Cattle as CattleHerd}
use Rattle.kinds.specs.declared.Pigs.{Pigs as PigHerd}
use Rattle.kinds.specs.declared.Inputs.{Inputs}
use Rattle.kinds.specs.declared.Inputs.TheVariants.{Roughage, Cattle, Pigs}
use Rattle.kinds.specs.Sound.{Sound, EnteredTo, roughage, cattle, pigs, standard, number}
use Rattle.yard.specs.Yard.{days_with_grazing_and_yard, share_lowered, share_excretion_with_grazing, yard_time}
use Rattle.pasture.specs.Pasture.{outdoor_grazing_time, roughage_grazing_time, gas}
use Rattle.outputs.specs.Names.{Total, texts, totals, total_texts, total_number}
use Rattle.outputs.specs.Grams.{grams_at, figure, total, farm_total, totals_of}
use Rattle.herd.specs.Herd.{figures_in, figures_of}
use Rattle.notes.specs.Rows.{below}
use Rattle.model.specs.Edges.{C, row4}
use Rattle.nearness_theorems.specs.ByName.{entry_of, said_of, said_at}
use Rattle.nearness_theorems.specs.Promised.{
  promised,
  widened,
  widened_totals,
  promised_at,
  promised_of_total,
  widest,
  promised_in_total,
}
use Rattle.nearness_theorems.specs.Exact.{exact, exact_of, exact_at, exact_figure, exact_of_total}
use Rattle.nearness_theorems.proofs.Herd.{within-herd, within-figure}
use Rattle.nearness_theorems.proofs.Farm.{within_farm, within-totals, within-total}

-- what is off by more than e is not within e: the test computes
off : (e : ℕ) (x : ℤ) (q : Frac) → Within e x q → T (leb (nat_abs (x *ℤ pos q.den -ℤ q.num)) (e * q.den))
off e x q h = le→leb (nat_abs (x *ℤ pos q.den -ℤ q.num)) (e * q.den) h.near

-- ---- ten grams for every figure; forty for what a pig house has (02, W1), twenty for what roughage housing has (02,
-- W3)

none_said : (names : List String) (n : ℕ) → said_at promised [] names n ≡ promised
none_said [] n = refl
none_said (t ∷ names) zero = refl
none_said (t ∷ names) (suc n) = none_said names n

pub promised-of-roughage : (r : RoughageHerd)
    → said_of promised (widened (Roughage r)) texts ≡ replicate 17 10 ++ replicate 3 20 ++ replicate 11 10
promised-of-roughage r = refl

pub promised-of-cattle : (c : CattleHerd) (n : ℕ) → promised_at (Cattle c) n ≡ promised
unfolding promised_at
promised-of-cattle c = none_said texts

-- the names of 01 first, then those of a pig house
pub promised-of-pigs : (p : PigHerd) → said_of promised (widened (Pigs p)) texts ≡ replicate 17 10 ++ replicate 14 40
promised-of-pigs p = refl

pub house_names-last : drop 17 texts
    ≡ "nh3_nhousing"
    ∷ "n_outhousing"
    ∷ "tan_outhousing"
    ∷ "tan_air_scrubber"
    ∷ "n_outhousing_liquid"
    ∷ "tan_outhousing_liquid"
    ∷ "n_outhousing_solid"
    ∷ "tan_outhousing_solid"
    ∷ "n2_nsolid"
    ∷ "no_nsolid"
    ∷ "n2o_nsolid"
    ∷ "n2_nliquid"
    ∷ "no_nliquid"
    ∷ "n2o_nliquid"
    ∷ []
house_names-last = refl

-- a total has the widest bound of its addends: forty grams a herd where a figure of a pig house enters it, else ten
pub promised-of-totals : (p : PigHerd)
    → map (λ (t : Total). widest (map (entry_of promised (widened (Pigs p))) t.addends)) totals
    ≡ said_of promised widened_totals total_texts
promised-of-totals p = refl

-- where twenty would do, W1 already gives forty
pub roughage_in_totals : (r : RoughageHerd)
    → map (λ (t : Total). widest (map (entry_of promised (widened (Roughage r))) t.addends)) totals
    ≡ map (λ (grams : ℕ). pick (eqb grams 40) 20 grams) (said_of promised widened_totals total_texts)
roughage_in_totals r = refl

-- herd by herd, in the order of the totals: wider for nh3_nhousing, nh3_nhousing_and_yard and nh3_nlivestock, and only
-- of the herds whose housing enters them
abbrev in_totals : Inputs → List ℕ
in_totals i = map (λ t. promised_in_total i (total_number t)) total_texts

pub roughage-by-herd : (r : RoughageHerd)
    → in_totals (Roughage r) ≡ replicate 8 10 ++ (20 ∷ 10 ∷ 10 ∷ 20 ∷ 20 ∷ replicate 5 10)
unfolding promised_in_total promised_at
roughage-by-herd r = refl

pub cattle-by-herd : (c : CattleHerd) → in_totals (Cattle c) ≡ replicate 18 10
unfolding promised_in_total promised_at
cattle-by-herd c = refl

pub pigs-by-herd : (p : PigHerd) → in_totals (Pigs p) ≡ replicate 8 10 ++ (40 ∷ 10 ∷ 10 ∷ 40 ∷ 40 ∷ replicate 5 10)
unfolding promised_in_total promised_at
pigs-by-herd p = refl

pub totals-widened : map (λ t. promised_of_total (total_number t)) ("nh3_nhousing" ∷ "nh3_nyard" ∷ []) ≡ 40 ∷ 10 ∷ []
unfolding promised_of_total
totals-widened = refl

-- ---- eleven grams are too many

pub eleven_grams : Within promised (pos 0) (whole 11) → ⊥
eleven_grams = off promised (pos 0) (whole 11)

-- ---- below zero: 01's row 4, whose TAN remaining is -5226 grams, and exactly -5226.8

pub row4-figure : figure "tan_remain_grazing" (figures_of row4) ≡ negsuc 5225
unfolding figures_of yard_time outdoor_grazing_time days_with_grazing_and_yard share_lowered
    share_excretion_with_grazing
row4-figure = refl

pub row4-below-zero : 0 < dn (exact_figure "tan_remain_grazing" row4).num
unfolding exact_of exact_at yard_time outdoor_grazing_time days_with_grazing_and_yard share_lowered
    share_excretion_with_grazing
row4-below-zero = lit< tt

pub row4-exact : (exact_figure "tan_remain_grazing" row4).num *ℤ pos 10
    ≡ negsuc 52267 *ℤ pos (exact_figure "tan_remain_grazing" row4).den
unfolding exact_of exact_at yard_time outdoor_grazing_time days_with_grazing_and_yard share_lowered
    share_excretion_with_grazing
row4-exact = refl

pub row4-within : Within promised (figure "tan_remain_grazing" (figures_of row4))
    (exact_figure "tan_remain_grazing" row4)
unfolding promised_at
row4-within = within-figure row4 (cattle (record {
  animals = lit≤ tt;
  grams = lit≤ tt;
  fraction = number (lit≤ tt);
  outdoor = record { yard = lit≤ tt; free = lit≤ tt; days = lit≤ tt; hours = lit≤ tt };
})) "tan_remain_grazing"

-- ---- the largest herd of each kind, 10,000 head, 200 kg, TAN 100 percent, with pigs outdoors and in a house, and
-- dairy cows at the TAN of 2.2; and a farm of the five

-- a roughage herd: head, grams a head, TAN in ten-thousandths, free factor, grazing days, hours in tenths
abbrev roughage_herd : ℕ → ℕ → ℕ → ℤ → ℕ → ℕ → Inputs
roughage_herd head grams tan free days hours =
    Roughage (record {
      animalcategory = 2;
      animals = head;
      inp_n_excretion = Number grams;
      tan_fraction = Number tan;
      free_correction_factor = free;
      grazing_days = days;
      grazing_hours = hours;
    })

abbrev largest_roughage : Inputs
largest_roughage = roughage_herd 10000 (200 kg) 10000 (pos 0) 200 120

-- a herd of cattle: which, and the TAN as entered
abbrev cattle_herd : CattleKind → Entered → Inputs
cattle_herd kind tan =
    Cattle (record {
      kind = kind;
      animals = 10000;
      inp_n_excretion = 200 kg;
      tan_fraction = tan;
      outdoor = record {
        yard_days = 365;
        exercise_yard = Exclusively;
        floor_properties_exercise_yard = Solid;
        free_correction_factor = pos 0;
        grazing_days = 200;
        grazing_hours = 235;
      };
    })

abbrev largest_cattle : Inputs
largest_cattle = cattle_herd OtherCattle (Number 10000)

abbrev largest_dairy_cows : Inputs
largest_dairy_cows = cattle_herd DairyCow Standard

-- a pig herd with a biotrickling filter: head, grams a head, TAN in ten-thousandths, housing type
abbrev pig_herd : ℕ → ℕ → ℕ → HousingType → Inputs
pig_herd head grams tan type =
    Pigs (record {
      animals = head;
      inp_n_excretion = grams;
      tan_fraction = tan;
      housing_type = type;
      air_scrubber = Biotrickling;
      mitigation_housing_floor = floor.None;
      mitigation_housing_air = air.None;
      free_correction_factor = pos 0;
    })

abbrev largest_pigs : Inputs
largest_pigs = pig_herd 10000 (200 kg) 10000 Outdoor

abbrev largest_housed_pigs : Inputs
largest_housed_pigs = pig_herd 10000 (200 kg) 10000 SlurryLabel

abbrev largest : List Inputs
largest = largest_roughage ∷ largest_cattle ∷ largest_pigs ∷ largest_housed_pigs ∷ largest_dairy_cows ∷ []

roughage-sound : Sound largest_roughage
roughage-sound =
    roughage (record {
      animals = lit≤ tt;
      grams = number (lit≤ tt);
      fraction = number (lit≤ tt);
      free = lit≤ tt;
      days =
          lit≤ tt;
      hours = lit≤ tt;
    })

cattle-sound : (kind : CattleKind) (tan : Entered) → EnteredTo ten_thousandths tan → Sound (cattle_herd kind tan)
cattle-sound kind tan s =
    cattle (record {
      animals = lit≤ tt;
      grams = lit≤ tt;
      fraction = s;
      outdoor = record { yard = lit≤ tt; free = lit≤ tt; days = lit≤ tt; hours = lit≤ tt };
    })

pigs-sound : Sound largest_pigs
pigs-sound = pigs (record { animals = lit≤ tt; grams = lit≤ tt; fraction = lit≤ tt; free = lit≤ tt })

housed-pigs-sound : Sound largest_housed_pigs
housed-pigs-sound = pigs (record { animals = lit≤ tt; grams = lit≤ tt; fraction = lit≤ tt; free = lit≤ tt })

pub largest-sound : Each Sound largest
largest-sound =
    more roughage-sound
    (more (cattle-sound OtherCattle (Number 10000) (number (lit≤ tt)))
    (more pigs-sound (more housed-pigs-sound (more (cattle-sound DairyCow Standard standard) none))))

pub largest-herds : Each
    (λ i. (n : ℕ) → Within (promised_at i n) (grams_at (figures_of i).grams n) (exact_at i n)) largest
largest-herds = each_map within-herd largest-sound

pub largest-farm : (t : ℕ)
    → Within (promised_of_total t * 5) (farm_total (map figures_of largest) t) (exact_of_total largest t)
largest-farm = within_farm largest largest-sound

-- under a name, as a call has it
pub largest-on-pasture : Within 50 (total "nh3_ngrazing" (totals_of (map figures_of largest)))
    (exact_of_total largest (total_number "nh3_ngrazing"))
unfolding promised_of_total
largest-on-pasture = within-total (λ i. i) largest largest-sound "nh3_ngrazing"

pub largest-housed : Within 200 (total "nh3_nhousing" (totals_of (map figures_of largest)))
    (exact_of_total largest (total_number "nh3_nhousing"))
unfolding promised_of_total
largest-housed = within-total (λ i. i) largest largest-sound "nh3_nhousing"

-- herd by herd it is 20 for the deer, 10 for each herd of cattle and 40 for each of pigs
pub largest-housed-by-herd : Within 120 (total "nh3_nhousing" (totals_of (map figures_of largest)))
    (exact_of_total largest (total_number "nh3_nhousing"))
unfolding promised_in_total promised_at
largest-housed-by-herd = within-totals (λ i. i) largest largest-sound (total_number "nh3_nhousing")

-- ---- half of the promise would be broken: this herd's housing NH3 is more than 4 grams off, and what leaves its
-- housing more than 5

abbrev far_off : Inputs
far_off = roughage_herd 9915 199320 9991 (pos 5) 66 22

pub far_off-sound : Sound far_off
far_off-sound =
    roughage (record {
      animals = lit≤ tt;
      grams = number (lit≤ tt);
      fraction = number (lit≤ tt);
      free = lit≤ tt;
      days =
          lit≤ tt;
      hours = lit≤ tt;
    })

pub four-grams-broken : Within 4 (figure "nh3_nhousing" (figures_of far_off)) (exact_figure "nh3_nhousing" far_off) → ⊥
unfolding figures_of exact_of exact_at roughage_grazing_time k_of within_day k_at nearest growth_num growth_den exp_num
    exp_den
four-grams-broken = off 4 (figure "nh3_nhousing" (figures_of far_off)) (exact_figure "nh3_nhousing" far_off)

pub five_grams-broken : Within 5 (figure "n_outhousing" (figures_of far_off)) (exact_figure "n_outhousing" far_off) → ⊥
unfolding figures_of exact_of exact_at roughage_grazing_time k_of within_day k_at nearest growth_num growth_den exp_num
    exp_den
five_grams-broken = off 5 (figure "n_outhousing" (figures_of far_off)) (exact_figure "n_outhousing" far_off)

-- and of this pig house the NH3 is more than a gram off, and what leaves it more than 2

abbrev far_off_pigs : Inputs
far_off_pigs = pig_herd 9466 86735 6111 SlurryLabel

pub far_off-pigs-sound : Sound far_off_pigs
far_off-pigs-sound = pigs (record { animals = lit≤ tt; grams = lit≤ tt; fraction = lit≤ tt; free = lit≤ tt })

pub one_gram_broken : Within 1 (figure "nh3_nhousing" (figures_of far_off_pigs))
    (exact_figure "nh3_nhousing" far_off_pigs) → ⊥
unfolding figures_of exact_of exact_at
one_gram_broken = off 1 (figure "nh3_nhousing" (figures_of far_off_pigs)) (exact_figure "nh3_nhousing" far_off_pigs)

pub two-grams-broken : Within 2 (figure "n_outhousing_liquid" (figures_of far_off_pigs))
    (exact_figure "n_outhousing_liquid" far_off_pigs) → ⊥
unfolding figures_of exact_of exact_at
two-grams-broken =
    off 2 (figure "n_outhousing_liquid" (figures_of far_off_pigs)) (exact_figure "n_outhousing_liquid" far_off_pigs)

-- ---- the ceiling (02, W3): exact means the exact factor, at most 1. All the TAN that comes into this housing is
-- emitted

abbrev raised : Inputs
raised = roughage_herd 10000 (200 kg) 10000 (below 100) 365 239

pub raised-sound : Sound raised
raised-sound =
    roughage (record {
      animals = lit≤ tt;
      grams = number (lit≤ tt);
      fraction = number (lit≤ tt);
      free = lit≤ tt;
      days = lit≤ tt;
      hours = lit≤ tt;
    })

pub raised-exact : (exact_figure "tan_outhousing" raised).num ≡ pos 0
unfolding exact_of exact_at roughage_grazing_time growth_num growth_den exp_num exp_den
raised-exact = refl

-- ---- wrong formulas, which our figures are not near

-- exactly, but with another k
abbrev exact_with : (ℕ → Frac) → Arithmetic
exact_with k =
    record {
      Amount = Frac;
      whole = F.whole;
      ◌⊕◌ = F.◌⊕◌;
      ◌⊖◌ = F.◌⊖◌;
      ◌⊗◌ = F.◌⊗◌;
      ◌over◌ = λ q d. F.◌⊗◌ q (F.per 1 d);
      ◌at_most◌ = F.◌at_most◌;
      k = k;
      Balance = Frac;
      balance = λ q. q;
      ◌less◌ = F.◌⊖◌;
    }

pub exact-is : exact_with exact.k ≡ exact
exact-is = refl

-- housing NH3 of the largest roughage herd: ours, and exactly with another k
abbrev ours : ℤ
ours = figure "nh3_nhousing" (figures_of largest_roughage)

abbrev nh3_with : (ℕ → Frac) → Frac
nh3_with k = (figures_in (exact_with k) largest_roughage).housing.nh3_nhousing

-- k times the 0.9989 that 2.87 prints and does not use
abbrev with_coefficient : ℕ → Frac
with_coefficient t = per 9989 10000 ⊗ exact.k t

pub with_coefficient_lem : Within promised ours (nh3_with with_coefficient) → ⊥
unfolding figures_of roughage_grazing_time k_of within_day k_at nearest growth_num growth_den exp_num exp_den
with_coefficient_lem = off promised ours (nh3_with with_coefficient)

-- the series only up to term 5
abbrev to_term5 : ℕ → Frac
to_term5 t = per (billionths * exp_num (403 * t) 100000 5) (exp_den 100000 5)

pub with_fewer_terms : Within promised ours (nh3_with to_term5) → ⊥
unfolding figures_of roughage_grazing_time k_of within_day k_at nearest growth_num growth_den exp_num exp_den
with_fewer_terms = off promised ours (nh3_with to_term5)

-- NH3 of row 1's pasture at 0.084 instead of 0.083
abbrev row1 : Inputs
row1 = C Partly 200

abbrev at_other_rate : Frac
at_other_rate = gas exact (exact_figure "tan_into_grazing" row1) 840

pub with_other-rate : Within promised (figure "nh3_ngrazing" (figures_of row1)) at_other_rate → ⊥
unfolding figures_of exact_of exact_at yard_time outdoor_grazing_time days_with_grazing_and_yard share_lowered
    share_excretion_with_grazing
with_other-rate = off promised (figure "nh3_ngrazing" (figures_of row1)) at_other_rate

-- a cut before the multiplication: 400 of 3650 parts of a ton
pub cut-first : Within promised (pos ((1000000 cut_by 3650) * 400)) (portion exact (whole 1000000) 400 3650) → ⊥
cut-first = off promised (pos ((1000000 cut_by 3650) * 400)) (portion exact (whole 1000000) 400 3650)
