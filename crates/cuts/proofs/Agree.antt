-- The formulas on the arithmetic that tells of divisions give the figures, number by number: so the quotient of a cut
-- that has a figure's name is that figure. And the sections that the code hands on give the cuts. Assumes nothing.
use Prim.Native.Nat.{ℕ, zero, suc, ◌+◌, ◌-◌}
use Prim.Native.String.{String}
use mathlib.Core.Path.{◌≡◌, refl, sym, ap, ◌∙◌}
use mathlib.Core.List.{List, [], ◌∷◌, map}
use lib.ListN.{get_or, length}
use lib.Dec.{ltb}
use lib.IntN.{ℤ, pos}
use Rattle.base.specs.Each.{Each, none, more}
use Rattle.cut_division.specs.Cut.{least}
use Rattle.amounts.specs.Units.{billionths}
use Rattle.amounts.specs.Arithmetic.{cutting}
use Rattle.amounts.specs.Dividing.{Divided, Left, uncut, worth, dividing}
use Rattle.kinds.specs.declared.HousingType.{HousingType}
use Rattle.kinds.specs.declared.HousingType.TheVariants as housed
use Rattle.kinds.specs.declared.Pigs.{Pigs}
use Rattle.kinds.specs.declared.Inputs.{Inputs}
use Rattle.kinds.specs.declared.Inputs.TheVariants as kinds
use Rattle.pasture.specs.Pasture.{pigs_into_grazing}
use Rattle.pig_house.specs.PigHouse.{
  all_or_nothing,
  ef_housing_indoor_before_air_scrubber,
  ef_housing_indoor,
  ef_housing_grazing,
  ef_nh3_nhousing,
}
use Rattle.outputs.specs.Names as outputs
use Rattle.outputs.specs.Names.{figures, number}
use Rattle.outputs.specs.Grams.{figure, grams_in}
use Rattle.outputs.specs.declared.Sections.{Sections}
use Rattle.herd.specs.Herd.{of_pigs, figures_in, figures_of, sections_of}
use Rattle.herd.proofs.Agree.{sections_agree}
use Rattle.cuts.specs.declared.Cuts.{Cuts}
use Rattle.cuts.specs.Names.{no_figure, texts}
use Rattle.cuts.specs.Cuts.{passing, cuts_from, in_order}
use Rattle.cuts.specs.Herd.{quotient_under, cuts_of}

abbrev lefts : List Left → List ℤ
lefts l = map (λ (x : Left). x.left) l

-- all or nothing is the same on either arithmetic, and so is what a scrubber keeps
pub shared-whole : (share : ℕ) (d : Divided)
    → worth (all_or_nothing dividing share d) ≡ all_or_nothing cutting share (worth d)
shared-whole zero d = refl
shared-whole (suc share) d = refl

-- what comes onto the pasture of pigs is handed on as a whole number
as-handed : (t : HousingType) (d : Divided)
    → pigs_into_grazing dividing t (uncut (worth d)) ≡ uncut (worth (pigs_into_grazing dividing t d))
as-handed housed.Outdoor d = refl
as-handed housed.SlurryConventional d = refl
as-handed housed.SlurryLabel d = refl
as-handed housed.SlurryLabelOpen d = refl
as-handed housed.DeepLitter d = refl

handed-figures : (i : Inputs) → lefts (figures dividing (figures_in dividing i)) ≡ grams_in (sections_of i)
unfolding sections_of
handed-figures (kinds.Roughage r) = refl
handed-figures (kinds.Cattle c) = refl
handed-figures (kinds.Pigs p) =
    let e = (of_pigs dividing p).excretion in
    rw (as-handed p.housing_type e.n_excretion, as-handed p.housing_type e.tan_excretion) refl

pub figures-agree : (i : Inputs)
    → lefts (figures dividing (figures_in dividing i)) ≡ figures cutting (figures_in cutting i)
figures-agree i = handed-figures i ∙ sections_agree i

left_at : (l : List Left) (n : ℕ) → get_or (lefts l) n (pos 0) ≡ (get_or l n no_figure).left
left_at [] n = refl
left_at (x ∷ l) zero = refl
left_at (x ∷ l) (suc n) = left_at l n

-- a herd's figure, by the same formula
told-figure : (i : Inputs) (t : String)
    → figure t (figures_of i) ≡ (get_or (figures dividing (figures_in dividing i)) (number t) no_figure).left
unfolding figures_of
told-figure i t =
    ap (λ g. get_or g (number t) (pos 0)) (sym (figures-agree i))
    ∙ left_at (figures dividing (figures_in dividing i)) (number t)

-- the names of cuts that are names of figures
abbrev pub figure_names : List String
figure_names = passing (λ (t : String). ltb (number t) (length outputs.rows)) texts

-- the quotient of such a cut is the figure
pub quotients_are-figures : (i : Inputs) → Each (λ t. figure t (figures_of i) ≡ pos (quotient_under t i)) figure_names
quotients_are-figures i =
    more (told-figure i "tan_excretion")
    (more (told-figure i "n_into_yard")
    (more (told-figure i "tan_into_yard")
    (more (told-figure i "nh3_nyard")
    (more (told-figure i "n_into_grazing")
    (more (told-figure i "tan_into_grazing")
    (more (told-figure i "nh3_ngrazing")
    (more (told-figure i "n2_ngrazing")
    (more (told-figure i "no_ngrazing")
    (more (told-figure i "n2o_ngrazing")
    (more (told-figure i "nh3_nhousing")
    (more (told-figure i "n2_nsolid")
    (more (told-figure i "no_nsolid")
    (more (told-figure i "n2o_nsolid")
    (more (told-figure i "n2_nliquid")
    (more (told-figure i "no_nliquid")
    (more (told-figure i "n2o_nliquid")
    none))))))))))))))))

-- 2.51: and so is the last product of tan_air_scrubber
pub scrubber_quotient : (i : Inputs)
    → figure "tan_air_scrubber" (figures_of i)
    ≡ pos (quotient_under "tan_air_scrubber:ef_housing_indoor_before_air_scrubber" i)
scrubber_quotient (kinds.Roughage r) = told-figure (kinds.Roughage r) "tan_air_scrubber"
scrubber_quotient (kinds.Cattle c) = told-figure (kinds.Cattle c) "tan_air_scrubber"
scrubber_quotient (kinds.Pigs p) = told-figure (kinds.Pigs p) "tan_air_scrubber"

-- 2.51: the factors that a pig house's ammonia goes by are what their last cuts give, at most 1
module _ (p : Pigs) where
  abbrev q : String → ℕ
  q t = quotient_under t (kinds.Pigs p)

  pub factors-are_quotients :
      (ef_housing_indoor_before_air_scrubber cutting p
      ≡ least (q "ef_housing_indoor_before_air_scrubber:red_housing_air") billionths)
      × (ef_housing_indoor cutting p ≡ least (q "ef_housing_indoor") billionths)
      × (ef_housing_grazing cutting p ≡ least (q "ef_housing_grazing:c_free_factor_housing") billionths)
      × (ef_nh3_nhousing cutting p
      ≡ least (q "ef_nh3_nhousing:ef_housing_indoor" + q "ef_nh3_nhousing:ef_housing_grazing") billionths)
  factors-are_quotients = (refl, refl, refl, refl)

-- ---- the quotients that the code's sections hand on

pub cuts-agree : (i : Inputs) → cuts_from (in_order (sections_of i)) ≡ cuts_of i
unfolding sections_of cuts_of
cuts-agree (kinds.Roughage r) = refl
cuts-agree (kinds.Cattle c) = refl
cuts-agree (kinds.Pigs p) =
    let e = (of_pigs dividing p).excretion in
    rw (as-handed p.housing_type e.n_excretion, as-handed p.housing_type e.tan_excretion) refl

-- the code's step, of any kind
pub cuts_are : (i j : Inputs) (s : Sections) (c : Cuts) → s ≡ sections_of j → i ≡ j → c ≡ cuts_from (in_order s)
    → c ≡ cuts_of i
cuts_are i j s c es k ec = ec ∙ rw (es, k) (cuts-agree j)
