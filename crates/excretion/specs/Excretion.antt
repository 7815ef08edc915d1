-- 2.2, 2.22, 2.50 and 2.84: what the animals of a herd excrete in a year.
use Rattle.std.specs.Prelude.{ℕ, ◌*◌}
use Rattle.tables.specs.Standards.{standard_of, share_Nsol, dairy_share}
use Rattle.amounts.specs.Units.{ten_thousandths}
use Rattle.amounts.specs.Arithmetic.{Arithmetic}
use Rattle.amounts.specs.Dividing.{dividing, handed, worth}
use Rattle.amounts.specs.Portion.{portion}
use Rattle.kinds.specs.declared.Entered.{Entered}
use Rattle.kinds.specs.declared.Entered.TheVariants.{Standard, Number}
use Rattle.kinds.specs.declared.Roughage.{Roughage}
use Rattle.kinds.specs.declared.Cattle.{Cattle}
use Rattle.excretion.specs.declared.Excretion.{Excretion}

-- 2.84, n_excretion_animal: the category's standard, unless a number is entered
abbrev pub n_excretion_animal : ℕ → Entered → ℕ
n_excretion_animal category Standard = standard_of category
n_excretion_animal category (Number grams) = grams

-- 2.84, tan_excretion, and 2.2, tan_content: the page's share_Nsol, unless a number is entered
abbrev pub tan_fraction : ℕ → Entered → ℕ
tan_fraction share Standard = share
tan_fraction share (Number fraction) = fraction

abbrev pub roughage_fraction : Roughage → ℕ
roughage_fraction r = tan_fraction share_Nsol r.tan_fraction

-- for other cattle 01 reads no `standard`, though 2.22 has standards
abbrev pub cattle_fraction : Cattle → ℕ
cattle_fraction c = tan_fraction dairy_share c.tan_fraction

-- 2.84 and 2.2, n_excretion_animal: what is entered below 0.7 or above 1.3 of the standard is noted; in tenths
abbrev pub least_of_standard : ℕ
least_of_standard = 7

abbrev pub most_of_standard : ℕ
most_of_standard = 13

-- 2.84, tan_excretion, and 2.2, tan_content: what is entered more than 0.2 off share_Nsol is noted; in ten-thousandths
abbrev pub most_off_share : ℕ
most_off_share = 2000

pub record ExcretionIn (A : Arithmetic) : Type 0 where
  pub n_excretion : A.Amount
  pub tan_excretion : A.Amount

module _ (A : Arithmetic) where
  open A use {whole}

  -- 2.2, 2.22, 2.50, 2.84, tan_excretion: the fraction of the N
  abbrev pub with_tan : ℕ → ℕ → ExcretionIn A
  with_tan n fraction = record { n_excretion = whole n; tan_excretion = portion A (whole n) fraction ten_thousandths }

  -- 2.2, 2.22, 2.50, 2.84, n_excretion: head by grams a head
  abbrev pub excreted : ℕ → ℕ → ℕ → ExcretionIn A
  excreted animals grams fraction = with_tan (animals * grams) fraction

-- the code's struct: a whole number, or what was cut with what was cut off
abbrev pub handed_excretion : ExcretionIn dividing → Excretion
handed_excretion e = record { n_excretion = worth e.n_excretion; tan_excretion = handed e.tan_excretion }
