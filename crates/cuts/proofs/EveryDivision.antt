-- 02, W7, "for every cut": the divisions that a herd's figures make are those of the cuts that it carries, one for one
-- in either direction. A further division in a formula, and a cut that no figure goes by, are both refused here.
-- Assumes nothing.
use Prim.Native.Nat.{◌*◌}
use Prim.Native.String.{String}
use mathlib.Core.Path.{◌≡◌, refl}
use mathlib.Core.Logic.{◌↔◌}
use mathlib.Core.Bool.{Bool, true, false}
use mathlib.Core.List.{List, [], ◌∷◌, ◌++◌, map}
use lib.Dec.{T, ltb}
use lib.Text.{eqt, eqt→eq}
use Rattle.base.specs.Pick.{pick}
use Rattle.base.specs.Runs.{all}
use Rattle.base.proofs.Table.{both_left, both_right}
use Rattle.amounts.specs.Units.{year, day}
use Rattle.amounts.specs.Collecting.{Division, ◌is_one_of◌, first, later}
use Rattle.kinds.specs.declared.Roughage.{Roughage}
use Rattle.kinds.specs.declared.HousingType.{HousingType}
use Rattle.kinds.specs.declared.HousingType.TheVariants as housed
use Rattle.kinds.specs.declared.AirScrubber.{AirScrubber}
use Rattle.kinds.specs.declared.AirScrubber.TheVariants as scrubber
use Rattle.kinds.specs.declared.Pigs.{Pigs}
use Rattle.kinds.specs.declared.Inputs.{Inputs}
use Rattle.kinds.specs.declared.Inputs.TheVariants as kinds
use Rattle.cuts.specs.Herd.{made_names, cuts_of}
use Rattle.cuts.specs.Divisions.{carried, divisions_made, divisions_carried}
use Rattle.cuts.proofs.AddUp.{cuts-named}
use Rattle.cuts.proofs.InUnits.{housed_in}

-- ---- the names of the cuts on the way to each figure, one figure after the other

abbrev excreted : List String
excreted = "tan_excretion" ∷ []

-- onto a pasture, the N and the TAN
abbrev grazed : List String
grazed = "n_into_grazing" ∷ []

abbrev tan_grazed : List String
tan_grazed = "tan_into_grazing" ∷ excreted

abbrev pasture : List String → List String → List String
pasture n tan =
    let nh3 : List String = "nh3_ngrazing" ∷ tan in
    let n2 : List String = "n2_ngrazing" ∷ n in
    let no' : List String = "no_ngrazing" ∷ n in
    let n2o : List String = "n2o_ngrazing" ∷ n in
    let gases = nh3 ++ n2 ++ no' ++ n2o in
    n ++ tan ++ gases ++ (n ++ gases) ++ (tan ++ gases)

-- what goes into a housing, its ammonia, and what is taken from what goes in
abbrev housing : List String → List String → List String → List String → List String
housing n tan nh3 taken = n ++ tan ++ nh3 ++ (n ++ taken) ++ (tan ++ taken)

abbrev growth : Roughage → List String
growth r = pick (ltb (r.grazing_days * r.grazing_hours) (year * day)) ("c_grazing" ∷ []) []

abbrev of_roughage : Roughage → List String
of_roughage r =
    let tan = excreted ++ tan_grazed in
    let nh3 : List String =
    "nh3_nhousing" ∷ tan ++ "ef_nh3_nhousing:c_free_factor_housing" ∷ "ef_nh3_nhousing:er_housing" ∷ growth r in
    excreted ++ pasture grazed tan_grazed ++ housing grazed tan nh3 nh3

abbrev of_cattle : List String
of_cattle =
    let n : List String = "n_into_yard" ∷ [] in
    let tan : List String = "tan_into_yard" ∷ excreted in
    let nh3 : List String = "nh3_nyard" ∷ tan in
    excreted
    ++ (n ++ tan ++ nh3 ++ (n ++ nh3) ++ (tan ++ nh3))
    ++ pasture grazed tan_grazed
    ++ (n ++ grazed)
    ++ (excreted ++ tan ++ tan_grazed)

-- the factors of a pig house
abbrev before : List String
before =
    "ef_housing_indoor_before_air_scrubber:red_housing_air"
    ∷ "ef_housing_indoor_before_air_scrubber:c_free_factor_housing"
    ∷ []

abbrev factor : List String
factor =
    "ef_nh3_nhousing:ef_housing_indoor"
    ∷ "ef_housing_indoor"
    ∷ before
    ++ "ef_nh3_nhousing:ef_housing_grazing"
    ∷ "ef_housing_grazing:c_free_factor_housing"
    ∷ []

abbrev kept_back : AirScrubber → List String
kept_back scrubber.Acid = []
kept_back scrubber.Biotrickling =
    "tan_air_scrubber:ef_housing_indoor_before_air_scrubber" ∷ "tan_air_scrubber:tan_excretion" ∷ excreted ++ before
kept_back scrubber.None = []

-- what a type puts on pasture, and what it gives as slurry: all or nothing
abbrev outdoors : HousingType → List String → List String
outdoors housed.Outdoor l = l
outdoors housed.SlurryConventional l = []
outdoors housed.SlurryLabel l = []
outdoors housed.SlurryLabelOpen l = []
outdoors housed.DeepLitter l = []

abbrev as_slurry : HousingType → List String → List String
as_slurry housed.Outdoor l = []
as_slurry housed.SlurryConventional l = l
as_slurry housed.SlurryLabel l = l
as_slurry housed.SlurryLabelOpen l = l
as_slurry housed.DeepLitter l = []

-- the slurry and the solid manure, of what leaves a pig house
abbrev fractions : HousingType → List String → List String → List String
fractions t n tan = as_slurry t n ++ as_slurry t tan ++ (n ++ as_slurry t n) ++ (tan ++ as_slurry t tan)

abbrev nx_ox : List String
nx_ox = "n2_nsolid" ∷ "no_nsolid" ∷ "n2o_nsolid" ∷ "n2_nliquid" ∷ "no_nliquid" ∷ "n2o_nliquid" ∷ []

abbrev of_pigs : Pigs → List String
of_pigs p =
    let t = p.housing_type in
    let kept = kept_back p.air_scrubber in
    let tan = excreted ++ outdoors t excreted in
    let nh3 : List String = "nh3_nhousing" ∷ tan ++ factor in
    let taken = nh3 ++ kept in
    excreted
    ++ pasture [] (outdoors t excreted)
    ++ housing [] tan nh3 taken
    ++ kept
    ++ fractions t taken (tan ++ taken)
    ++ nx_ox

abbrev ways_of : Inputs → List String
ways_of (kinds.Roughage r) = of_roughage r
ways_of (kinds.Cattle c) = of_cattle
ways_of (kinds.Pigs p) = of_pigs p

-- ---- two lists with the same names

abbrev is_name : List String → String → Bool
is_name [] t = false
is_name (u ∷ us) t = pick (eqt t u) true (is_name us t)

module _ (f : String → Division) where
  at_first : (b : Bool) (t u : String) (us : List String) → eqt t u ≡ b → T (pick b true (is_name us t))
      → (T (is_name us t) → f t is_one_of map f us) → f t is_one_of (f u ∷ map f us)
  at_first true t u us e h further = rw (eqt→eq t u (rw e tt)) first
  at_first false t u us e h further = later (further h)

  named : (us : List String) (t : String) → T (is_name us t) → f t is_one_of map f us
  named [] t h = absurd h
  named (u ∷ us) t h = at_first (eqt t u) t u us refl h (named us t)

  all_named : (d : Division) (ts us : List String) → T (all (is_name us) ts) → d is_one_of map f ts
      → d is_one_of map f us
  all_named d [] us h m = elim m [ ]
  all_named d (t ∷ ts) us h m =
      go t d (both_left (is_name us t) (all (is_name us) ts) h)
      (all_named d ts us (both_right (is_name us t) (all (is_name us) ts) h)) m
    where
      go : (t : String) (d : Division) → T (is_name us t) → (d is_one_of map f ts → d is_one_of map f us)
          → d is_one_of map f (t ∷ ts) → d is_one_of map f us
      go t d h further first = named us t h
      go t d h further (later m) = further m

-- ---- the divisions are those under these names, and these names are the herd's

abbrev under : Inputs → String → Division
under i t = (carried i (cuts_of i) t).division

abbrev Found : Inputs → Type 0
Found i =
    (divisions_made i ≡ map (under i) (ways_of i))
    × T (all (is_name (made_names i)) (ways_of i))
    × T (all (is_name (ways_of i)) (made_names i))

roughage-found : (r : Roughage) (b : Bool) → ltb (r.grazing_days * r.grazing_hours) (year * day) ≡ b
    → Found (kinds.Roughage r)
unfolding cuts_of
roughage-found r true e = (rw (e, e) refl, rw (e, e) tt, rw e tt)
roughage-found r false e = (rw (e, e) refl, rw (e, e) tt, rw e tt)

pigs-found : (t : HousingType) (s : AirScrubber) (p : Pigs) → Found (kinds.Pigs (housed_in t s p))
unfolding cuts_of
pigs-found housed.Outdoor scrubber.Acid p = (refl, tt, tt)
pigs-found housed.Outdoor scrubber.Biotrickling p = (refl, tt, tt)
pigs-found housed.Outdoor scrubber.None p = (refl, tt, tt)
pigs-found housed.SlurryConventional scrubber.Acid p = (refl, tt, tt)
pigs-found housed.SlurryConventional scrubber.Biotrickling p = (refl, tt, tt)
pigs-found housed.SlurryConventional scrubber.None p = (refl, tt, tt)
pigs-found housed.SlurryLabel scrubber.Acid p = (refl, tt, tt)
pigs-found housed.SlurryLabel scrubber.Biotrickling p = (refl, tt, tt)
pigs-found housed.SlurryLabel scrubber.None p = (refl, tt, tt)
pigs-found housed.SlurryLabelOpen scrubber.Acid p = (refl, tt, tt)
pigs-found housed.SlurryLabelOpen scrubber.Biotrickling p = (refl, tt, tt)
pigs-found housed.SlurryLabelOpen scrubber.None p = (refl, tt, tt)
pigs-found housed.DeepLitter scrubber.Acid p = (refl, tt, tt)
pigs-found housed.DeepLitter scrubber.Biotrickling p = (refl, tt, tt)
pigs-found housed.DeepLitter scrubber.None p = (refl, tt, tt)

found : (i : Inputs) → Found i
unfolding cuts_of
found (kinds.Roughage r) = roughage-found r _ refl
found (kinds.Cattle c) = (refl, tt, tt)
found (kinds.Pigs p) = pigs-found p.housing_type p.air_scrubber p

-- ---- made and carried

pub every-division : (i : Inputs) (d : Division)
    → d is_one_of divisions_made i ↔ d is_one_of divisions_carried i (cuts_of i)
every-division i d = (
  λ m. rw (cuts-named i) (all_named (under i) d (ways_of i) (made_names i) (found i).1 (rw (found i).0 at m)),
  λ m. rw (found i).0 (all_named (under i) d (made_names i) (ways_of i) (found i).2 (rw (cuts-named i) at m)),
)
