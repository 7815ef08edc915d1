-- What the animals excrete is modest: the N of the largest herd fits, and the TAN is no more than the N.
-- Assumes nothing.
use mathlib.Core.Path.{◌≡◌, refl}
use Prim.Native.Nat.{ℕ, ◌*◌, ◌≤◌}
use native.Mathlib.Omega.{arith}
use mir.Syntax.{w64}
use mir.Val.{Fits}
use Rattle.cut_division.specs.declared.Quotient.{Quotient}
use Rattle.cut_division.proofs.Products.{mul-to}
use Rattle.cut_division.proofs.Shares.{part-le}
use Rattle.tables.proofs.Standards.{standard-most}
use Rattle.amounts.specs.Units.{ten_thousandths}
use Rattle.amounts.specs.Arithmetic.{cutting}
use Rattle.amounts.specs.Dividing.{dividing}
use Rattle.amounts.specs.Bounds.{most_n, WithinMostN, PortionOf, UpTo}
use Rattle.kinds.specs.declared.Entered.{Entered}
use Rattle.kinds.specs.declared.Roughage.{Roughage}
use Rattle.kinds.specs.declared.Cattle.{Cattle}
use Rattle.kinds.specs.Sound.{most_animals, most_grams, EnteredTo, standard, number, SoundRoughage, SoundCattle}
use Rattle.excretion.specs.declared.Excretion.{Excretion}
use Rattle.excretion.specs.Excretion.{n_excretion_animal, tan_fraction, roughage_fraction, cattle_fraction}
use Rattle.excretion.specs.Excretion.{excreted, with_tan, handed_excretion}

-- ---- what a herd enters, or leaves to the standard

grams-le : (category : ℕ) {entered : Entered} → EnteredTo most_grams entered
    → n_excretion_animal category entered ≤ most_grams
grams-le category standard = omega (arith, standard-most category)
grams-le category (number h) = h

fraction-le : {share : ℕ} {entered : Entered} → share ≤ ten_thousandths → EnteredTo ten_thousandths entered
    → tan_fraction share entered ≤ ten_thousandths
fraction-le most standard = most
fraction-le most (number h) = h

module _ (r : Roughage) (s : SoundRoughage r) where
  pub roughage-grams-le : n_excretion_animal r.animalcategory r.inp_n_excretion ≤ most_grams
  roughage-grams-le = grams-le r.animalcategory s.grams

  pub roughage-fraction-le : roughage_fraction r ≤ ten_thousandths
  roughage-fraction-le = fraction-le (omega arith) s.fraction

pub cattle-fraction-le : (c : Cattle) → SoundCattle c → cattle_fraction c ≤ ten_thousandths
cattle-fraction-le c s = fraction-le (omega arith) s.fraction

-- ---- N and TAN

module _ (animals grams : ℕ) (ha : animals ≤ most_animals) (hg : grams ≤ most_grams) where
  n-le : animals * grams ≤ most_n
  n-le = mul-to most_animals most_grams tt ha hg

  -- the code's steps
  pub n_within : UpTo most_n (animals * grams) (animals * grams)
  n_within = record { is = refl; most = n-le }

  pub n-fits : Fits w64 (animals * grams)
  n-fits = omega (arith, n-le)

pub ruleset n_steps = (n_within, n-fits)

module _ (animals grams fraction : ℕ) (ha : animals ≤ most_animals) (hg : grams ≤ most_grams)
    (hf : fraction ≤ ten_thousandths) where
  pub excreted-modest : let e = excreted cutting animals grams fraction in
      WithinMostN e.n_excretion e.tan_excretion
  excreted-modest =
      record { n_most = n-le animals grams ha hg; tan_most = part-le (animals * grams) fraction ten_thousandths hf }

-- ---- the code's steps

module _ (n fraction : ℕ) (tan : Quotient) (p : PortionOf n fraction ten_thousandths tan) where
  pub is-excretion : ◌≡◌ {A = Excretion} (record { n_excretion = n; tan_excretion = tan })
      (handed_excretion (with_tan dividing n fraction))
  is-excretion = rw p.cut refl

  pub is-modest : n ≤ most_n → WithinMostN n tan.whole
  is-modest h = record { n_most = h; tan_most = p.most }

pub ruleset excreted_steps = (is-excretion, is-modest)
