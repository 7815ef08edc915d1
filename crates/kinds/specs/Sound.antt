-- What the formulas may count on: each input is in its range (01, "Ranges"). Of every herd that passes the record
-- checks it is a theorem: `typed_sound` of crate `typed_inputs`.
use Rattle.std.specs.Prelude.{ℕ, ◌≤◌, nat_abs}
use Rattle.tables.specs.Standards.{◌kg}
use Rattle.amounts.specs.Units.{percent, ten_thousandths, year, day}
use Rattle.kinds.specs.declared.Entered.{Entered}
use Rattle.kinds.specs.declared.Entered.TheVariants.{Standard, Number}
use Rattle.kinds.specs.declared.Outdoor.{Outdoor}
use Rattle.kinds.specs.declared.Roughage.{Roughage}
use Rattle.kinds.specs.declared.Cattle.{Cattle}
use Rattle.kinds.specs.declared.Pigs.{Pigs}
use Rattle.kinds.specs.declared.Inputs.{Inputs}
use Rattle.kinds.specs.declared.Inputs.TheVariants as kinds

-- the largest herd, and the most that is entered for a head, in grams
abbrev pub most_animals : ℕ
most_animals = 10000

abbrev pub most_grams : ℕ
most_grams = 200 kg

-- a number that was entered is at most m
pub data EnteredTo (m : ℕ) : Entered → Type 0 where
  standard : EnteredTo m Standard
  number : {n : ℕ} → n ≤ m → EnteredTo m (Number n)

pub record SoundRoughage (r : Roughage) : Type 0 where
  pub animals : r.animals ≤ most_animals
  pub grams : EnteredTo most_grams r.inp_n_excretion
  pub fraction : EnteredTo ten_thousandths r.tan_fraction
  pub free : nat_abs r.free_correction_factor ≤ percent
  pub days : r.grazing_days ≤ year
  pub hours : r.grazing_hours ≤ day

pub record SoundOutdoor (o : Outdoor) : Type 0 where
  pub yard : o.yard_days ≤ year
  pub free : nat_abs o.free_correction_factor ≤ percent
  pub days : o.grazing_days ≤ year
  pub hours : o.grazing_hours ≤ day

pub record SoundCattle (c : Cattle) : Type 0 where
  pub animals : c.animals ≤ most_animals
  pub grams : c.inp_n_excretion ≤ most_grams
  pub fraction : EnteredTo ten_thousandths c.tan_fraction
  pub outdoor : SoundOutdoor c.outdoor

pub record SoundPigs (p : Pigs) : Type 0 where
  pub animals : p.animals ≤ most_animals
  pub grams : p.inp_n_excretion ≤ most_grams
  pub fraction : p.tan_fraction ≤ ten_thousandths
  pub free : nat_abs p.free_correction_factor ≤ percent

pub data Sound : Inputs → Type 0 where
  roughage : {r : Roughage} → SoundRoughage r → Sound (kinds.Roughage r)
  cattle : {c : Cattle} → SoundCattle c → Sound (kinds.Cattle c)
  pigs : {p : Pigs} → SoundPigs p → Sound (kinds.Pigs p)
