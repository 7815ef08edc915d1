-- 2.84 worked out by hand: ten red deer, whose standards are 40 kg and 0.4. What is entered counts, N and TAN each by
-- itself, and the standard only where none is. Assumes nothing.
use mathlib.Core.Path.{◌≡◌, refl}
use Prim.Native.Nat.{ℕ}
use Rattle.tables.specs.Standards.{standard_of, share_Nsol}
use Rattle.amounts.specs.Arithmetic.{cutting}
use Rattle.kinds.specs.declared.Entered.{Entered}
use Rattle.kinds.specs.declared.Entered.TheVariants.{Standard, Number}
use Rattle.excretion.specs.Excretion.{ExcretionIn, excreted, n_excretion_animal, tan_fraction}

-- red deer are the second category, counted from 0
abbrev red_deer : Entered → Entered → ExcretionIn cutting
red_deer n tan = excreted cutting 10 (n_excretion_animal 1 n) (tan_fraction share_Nsol tan)

abbrev grams : ℕ → ℕ → ExcretionIn cutting
grams n tan = record { n_excretion = n; tan_excretion = tan }

pub by-standards : red_deer Standard Standard ≡ grams 400_000 160_000
unfolding standard_of
by-standards = refl

pub entered-n-counts : red_deer (Number 28_000) Standard ≡ grams 280_000 112_000
entered-n-counts = refl

pub entered-tan-counts : red_deer Standard (Number 5000) ≡ grams 400_000 200_000
unfolding standard_of
entered-tan-counts = refl
