-- What goes in comes out: the balances of specs/Kept.antt hold of every sound herd, of whatever kind, and of the totals
-- of every accepted farm. So no difference in whole grams ever stopped at zero where less than nothing was left.
-- Assumes nothing.
use Prim.Native.Nat.{ℕ, ◌+◌, ◌-◌}
use Prim.Native.String.{String}
use mathlib.Core.Path.{◌≡◌, refl, ap, ◌∙◌}
use mathlib.Core.Bool.{Bool, ◌&&◌}
use mathlib.Core.List.{List, [], ◌∷◌, map}
use native.Mathlib.Nat.{zero-add}
use native.Mathlib.Omega.{arith}
use lib.Dec.{T}
use lib.IntN.{ℤ, pos, ◌+ℤ◌, +ℤ_comm}
use Rattle.base.specs.Runs.{all}
use Rattle.base.specs.Each.{Each, none, more}
use Rattle.base.proofs.Each.{each_tail, each-front, each_map}
use Rattle.base.proofs.Table.{both_left, both_right}
use Rattle.cut_division.specs.Total.{signed_total}
use Rattle.inputs.specs.declared.Kind.TheVariants as kinds
use Rattle.farm.specs.declared.Herd.{Herd}
use Rattle.farm.specs.declared.Farm.{Farm}
use Rattle.farm.specs.Answers.{Accepted}
use Rattle.checks.specs.Checks.{check_herd, check_farm, herds_of}
use Rattle.checks.proofs.Accepts.{farm-each}
use Rattle.amounts.specs.Arithmetic.{cutting}
use Rattle.amounts.specs.Bounds.{WithinMostN}
use Rattle.kinds.specs.declared.Roughage.{Roughage}
use Rattle.kinds.specs.declared.Pigs.{Pigs}
use Rattle.kinds.specs.declared.Inputs.{Inputs}
use Rattle.kinds.specs.declared.Inputs.TheVariants as typed
use Rattle.kinds.specs.Sound.{SoundRoughage, SoundPigs, Sound}
use Rattle.rates.specs.Rates.{roughage_rates, pigs_rates}
use Rattle.rates.proofs.Modest.{roughage-rates-modest, pigs-rates-modest}
use Rattle.excretion.specs.Excretion.{ExcretionIn}
use Rattle.yard.proofs.OnYard.{yard-keeps-n, yard-keeps-tan}
use Rattle.pasture.specs.Pasture.{outdoor_into_grazing, roughage_into_grazing, pigs_into_grazing}
use Rattle.pasture.proofs.OnPasture.{pasture-keeps-n, pasture-keeps-tan}
use Rattle.pasture.proofs.Into.{
  outdoor_into_le,
  roughage_into_le,
  pigs_into_le,
  outdoor-pasture-modest,
  roughage-pasture-modest,
  roughage-housing-modest,
  pigs-pasture-modest,
}
use Rattle.housing.proofs.InHousing.{housing-keeps-n, housing-keeps-tan}
use Rattle.pig_house.proofs.Through.{pig_house-keeps-n, pig_house-keeps-tan}
use Rattle.typed_inputs.specs.Typed.{roughage_of, pigs_of, typed_of}
use Rattle.typed_inputs.proofs.Sound.{typed_sound}
use Rattle.outputs.specs.declared.Figures.{Figures}
use Rattle.outputs.specs.Sections.{FiguresIn}
use Rattle.outputs.specs.Grams.{grams_of, figure, total, totals_of}
use Rattle.outputs.proofs.Alone.{is_alone, totals-balance}
use Rattle.herd.specs.Herd.{roughage_on, outdoor_on, pigs_on, figures_of}
use Rattle.herd.proofs.Housed.{pigs_enter}
use Rattle.herd.proofs.Made.{Made, of-roughage, of-outdoor, of-pigs, made, roughage-starts, pigs-start}
use Rattle.model.specs.Answers.{herd_figures, farm_answer}
use Rattle.model.proofs.OfKind.{typed_roughage, typed_pigs, roughage-sound, pigs-sound}
use Rattle.model.specs.Kept.{
  Balance,
  Balanced,
  farm_balances,
  yard_balances,
  Keeps,
  KeepsHousing,
  KeepsPigHouse,
  KeepsTotals,
}

-- ---- a herd

abbrev herd_of : FiguresIn cutting → Figures
herd_of f = record { grams = grams_of f }

-- sums of whole numbers as the balances add them up
of_two : (x a b : ℕ) → x ≡ a + b → pos x ≡ pos (0 + a + b)
of_two x a b e = let d : x ≡ 0 + a + b = omega arith in ap pos d

of_three : (x a b c : ℕ) → x ≡ a + b + c → pos x ≡ pos (0 + a + b + c)
of_three x a b c e = let d : x ≡ 0 + a + b + c = omega arith in ap pos d

of_four : (x a b c d : ℕ) → x ≡ a + b + c + d → pos x ≡ pos (0 + a + b + c + d)
of_four x a b c d e = let q : x ≡ 0 + a + b + c + d = omega arith in ap pos q

of_five : (x y a b c d : ℕ) → x ≡ y + (a + b + c + d) → pos x ≡ pos (0 + a + b + c + d + y)
of_five x y a b c d e = let q : x ≡ 0 + a + b + c + d + y = omega arith in ap pos q

-- and with a rest that may be below zero
of-rest : (x : ℕ) (z : ℤ) (a b c d : ℕ) → pos x ≡ z +ℤ pos (a + b + c + d) → pos x ≡ pos (0 + a + b + c + d) +ℤ z
of-rest x z a b c d e = e ∙ +ℤ_comm z (pos (a + b + c + d)) ∙ rw (zero-add a)

-- the balances of specs/Kept.antt from those of the sections
module _ (f : FiguresIn cutting) where
  abbrev gases : ℕ
  gases = f.grazing.nh3_ngrazing + f.grazing.n2_ngrazing + f.grazing.no_ngrazing
      + f.grazing.n2o_ngrazing

  keeps-from : f.excretion.n_excretion ≡ f.yard.n_into_yard + f.grazing.n_into_grazing
      + f.housing.n_into_housing
      → f.excretion.tan_excretion ≡ f.yard.tan_into_yard + f.grazing.tan_into_grazing
      + f.housing.tan_into_housing
      → f.grazing.n_into_grazing ≡ f.grazing.n_remain_grazing + gases
      → pos f.grazing.tan_into_grazing ≡ f.grazing.tan_remain_grazing +ℤ pos gases
      → f.yard.n_into_yard ≡ f.yard.nh3_nyard + f.yard.n_outyard_liquid
      → f.yard.tan_into_yard ≡ f.yard.nh3_nyard + f.yard.tan_outyard_liquid
      → Keeps (herd_of f)
  keeps-from n tan pasture-n pasture-tan yard-n yard-tan =
      let g = f.grazing in
      more (record { kept = of_three _ _ _ _ n })
      (more (record { kept = of_three _ _ _ _ tan })
      (more (record { kept = of_five _ _ _ _ _ _ pasture-n })
      (more (record {
        kept =
            of-rest _ g.tan_remain_grazing g.nh3_ngrazing g.n2_ngrazing g.no_ngrazing
            g.n2o_ngrazing pasture-tan;
      })
      (more (record { kept = of_two _ _ _ yard-n })
      (more (record { kept = of_two _ _ _ yard-tan }) none)))))

made-keeps : {f : FiguresIn cutting} → Made f → Keeps (herd_of f)
made-keeps (of-roughage r e s m) =
    let n = e.n_excretion in
    let tan = e.tan_excretion in
    keeps-from (roughage_on cutting r e) (omega (arith, roughage_into_le r s n))
    (omega (arith, roughage_into_le r s tan))
    (pasture-keeps-n roughage_rates (roughage_into_grazing cutting r n) (roughage_into_grazing cutting r tan)
    roughage-rates-modest (roughage-pasture-modest r s n tan m))
    (pasture-keeps-tan roughage_rates (roughage_into_grazing cutting r n) (roughage_into_grazing cutting r tan))
    refl refl
made-keeps (of-outdoor r o e hr s m) =
    let n = e.n_excretion in
    let tan = e.tan_excretion in
    keeps-from (outdoor_on cutting r o e) (omega (arith, outdoor_into_le o s n))
    (omega (arith, outdoor_into_le o s tan))
    (pasture-keeps-n r (outdoor_into_grazing cutting o n) (outdoor_into_grazing cutting o tan) hr
    (outdoor-pasture-modest o s n tan m))
    (pasture-keeps-tan r (outdoor_into_grazing cutting o n) (outdoor_into_grazing cutting o tan))
    (yard-keeps-n o s n tan m) (yard-keeps-tan o s n tan)
made-keeps (of-pigs p e s m) =
    let t = p.housing_type in
    let n = e.n_excretion in
    let tan = e.tan_excretion in
    keeps-from (pigs_on cutting p e) (omega (arith, pigs_into_le t n)) (omega (arith, pigs_into_le t tan))
    (pasture-keeps-n pigs_rates (pigs_into_grazing cutting t n) (pigs_into_grazing cutting t tan) pigs-rates-modest
    (pigs-pasture-modest t n tan m))
    (pasture-keeps-tan pigs_rates (pigs_into_grazing cutting t n) (pigs_into_grazing cutting t tan))
    refl refl

pub figures-kept : (i : Inputs) → Sound i → Keeps (figures_of i)
unfolding figures_of
figures-kept i s = made-keeps (made s)

pub kept-by-herd : (h : Herd) → check_herd h ≡ Accepted → Keeps (herd_figures h)
kept-by-herd h e = figures-kept (typed_of h) (typed_sound h e)

-- the housing of roughage-consuming animals
housing-keeps : (r : Roughage) (e : ExcretionIn cutting) → SoundRoughage r
    → WithinMostN e.n_excretion e.tan_excretion → KeepsHousing (herd_of (roughage_on cutting r e))
housing-keeps r e s m =
    let n = e.n_excretion in
    let tan = e.tan_excretion in
    let n' = n - roughage_into_grazing cutting r n in
    let tan' = tan - roughage_into_grazing cutting r tan in
    more (record { kept = of_two _ _ _ (housing-keeps-n r n' tan' (roughage-housing-modest r s n tan m)) })
    (more (record { kept = of_two _ _ _ (housing-keeps-tan r n' tan') }) none)

roughage-keeps : (r : Roughage) → SoundRoughage r → KeepsHousing (figures_of (typed.Roughage r))
unfolding figures_of
roughage-keeps r s = housing-keeps r _ s (roughage-starts r s)

pub kept_in_housing : (h : Herd) → check_herd h ≡ Accepted → h.kind ≡ kinds.Roughage → KeepsHousing (herd_figures h)
kept_in_housing h e k = rw (typed_roughage h k) (roughage-keeps (roughage_of h) (roughage-sound h e k))

-- the house of pigs
pig_house-keeps : (p : Pigs) (e : ExcretionIn cutting) → WithinMostN e.n_excretion e.tan_excretion
    → KeepsPigHouse (herd_of (pigs_on cutting p e))
pig_house-keeps p e m =
    let t = p.housing_type in
    let excreted = e.tan_excretion in
    let n = e.n_excretion - pigs_into_grazing cutting t e.n_excretion in
    let tan = excreted - pigs_into_grazing cutting t excreted in
    let enters = pigs_enter p e.n_excretion excreted m in
    more (record { kept = of_four _ _ _ _ _ (pig_house-keeps-n p excreted n tan enters) })
    (more (record { kept = of_four _ _ _ _ _ (pig_house-keeps-tan p excreted n tan enters) }) none)

pigs-keep : (p : Pigs) → SoundPigs p → KeepsPigHouse (figures_of (typed.Pigs p))
unfolding figures_of
pigs-keep p s = pig_house-keeps p _ (pigs-start p s)

pub kept_in_pig_house : (h : Herd) → check_herd h ≡ Accepted → h.kind ≡ kinds.Pigs → KeepsPigHouse (herd_figures h)
kept_in_pig_house h e k = rw (typed_pigs h k) (pigs-keep (pigs_of h) (pigs-sound h e k))

-- ---- a farm

abbrev in_totals : Balance → Bool
in_totals b = is_alone b.amount && all is_alone b.parts

first-kept : {grams : String → ℤ} {b : Balance} {bs : List Balance} → Each (Balanced grams) (b ∷ bs)
    → grams b.amount ≡ signed_total grams b.parts
first-kept (more p ps) = p.kept

-- what a balance says of each herd it says of the totals
all-balance : (l : List Figures) (bs : List Balance) → T (all in_totals bs)
    → Each (λ f. Each (Balanced (λ t. figure t f)) bs) l → Each (Balanced (λ t. total t (totals_of l))) bs
all-balance l [] h es = none
all-balance l (b ∷ bs) h es =
    more (record {
      kept =
          totals-balance l b.amount b.parts (both_left (in_totals b) (all in_totals bs) h)
          (each_map (λ f (e : Each (Balanced (λ t. figure t f)) (b ∷ bs)). first-kept e) es);
    })
    (all-balance l bs (both_right (in_totals b) (all in_totals bs) h)
    (each_map (λ f (e : Each (Balanced (λ t. figure t f)) (b ∷ bs)). each_tail e) es))

pub kept_in_totals : (f : Farm) → check_farm f ≡ Accepted → KeepsTotals (farm_answer f).totals
unfolding farm_answer
kept_in_totals f e =
    rw e (all-balance (map herd_figures (herds_of f)) farm_balances tt (of-herds (herds_of f) (farm-each f e)))
  where
    of-herds : (l : List Herd) → Each (λ h. check_herd h ≡ Accepted) l
        → Each (λ f. Each (Balanced (λ t. figure t f)) farm_balances) (map herd_figures l)
    of-herds [] none = none
    of-herds (h ∷ l) (more p ps) = more (each-front farm_balances yard_balances (kept-by-herd h p)) (of-herds l ps)
