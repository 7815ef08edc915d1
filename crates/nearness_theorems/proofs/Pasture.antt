-- The pasture of any herd: gases at its rates and what remains, near where the N and TAN that come onto it are. Assumes
-- nothing.
use Prim.Native.Nat.{ℕ, ◌+◌}
use native.Mathlib.Omega.{arith}
use lib.Dec.{lit<}
use lib.IntN.{pos}
use Rattle.cut_division.specs.Frac.{Frac}
use Rattle.cut_division.proofs.Near.{Near, near_sub, near-rest}
use Rattle.amounts.specs.Units.{ten_thousandths}
use Rattle.amounts.specs.Arithmetic.{cutting}
use Rattle.amounts.specs.Bounds.{WithinMostN}
use Rattle.rates.specs.declared.Rates.{Rates}
use Rattle.rates.specs.Bounds.{ModestRates}
use Rattle.pasture.specs.Pasture.{gas, on_pasture}
use Rattle.pasture.proofs.OnPasture.{gases-le}
use Rattle.outputs.specs.Names.{grazing}
use Rattle.nearness_theorems.specs.Exact.{exact}
use Rattle.nearness_theorems.proofs.Laws.{rate_below, rate_above, near-rate}
use Rattle.nearness_theorems.proofs.Figures.{NearSection, end, ◌then◌}

-- the errors of a gas at a rate, from those of what it is emitted from
abbrev pub gas_below : ℕ → ℕ → ℕ
gas_below lo rate = rate_below lo rate ten_thousandths

abbrev pub gas_above : ℕ → ℕ → ℕ
gas_above hi rate = rate_above hi rate ten_thousandths

module _ (r : Rates) {lo hi lo' hi' n tan : ℕ} {N TAN : Frac} (near-n : Near lo hi (pos n) N)
    (near-tan : Near lo' hi' (pos tan) TAN) where
  pub near-nh3 : Near (gas_below lo' r.nh3) (gas_above hi' r.nh3) (pos (gas cutting tan r.nh3))
      (gas exact TAN r.nh3)
  near-nh3 = near-rate r.nh3 ten_thousandths (lit< tt) near-tan

  pub near_n2 : Near (gas_below lo r.n2) (gas_above hi r.n2) (pos (gas cutting n r.n2)) (gas exact N r.n2)
  near_n2 = near-rate r.n2 ten_thousandths (lit< tt) near-n

  pub near-no : Near (gas_below lo r.no) (gas_above hi r.no) (pos (gas cutting n r.no)) (gas exact N r.no)
  near-no = near-rate r.no ten_thousandths (lit< tt) near-n

  pub near_n2o : Near (gas_below lo r.n2o) (gas_above hi r.n2o) (pos (gas cutting n r.n2o))
      (gas exact N r.n2o)
  near_n2o = near-rate r.n2o ten_thousandths (lit< tt) near-n

  -- of the TAN: below zero too
  pub near-tan_remain : Near
      (lo' + gas_above hi' r.nh3 + gas_above hi r.n2 + gas_above hi r.no + gas_above hi r.n2o)
      (hi' + gas_below lo' r.nh3 + gas_below lo r.n2 + gas_below lo r.no + gas_below lo r.n2o)
      (on_pasture cutting r n tan).tan_remain_grazing (on_pasture exact r N TAN).tan_remain_grazing
  near-tan_remain = near_sub (near_sub (near_sub (near_sub near-tan near-nh3) near_n2) near-no) near_n2o

  -- of the N: the gases are never more than what came
  pub near-n_remain : ModestRates r → WithinMostN n tan
      → Near (lo + gas_above hi' r.nh3 + gas_above hi r.n2 + gas_above hi r.no + gas_above hi r.n2o)
      (hi + gas_below lo' r.nh3 + gas_below lo r.n2 + gas_below lo r.no + gas_below lo r.n2o)
      (pos (on_pasture cutting r n tan).n_remain_grazing) (on_pasture exact r N TAN).n_remain_grazing
  near-n_remain h m =
      let g = gases-le r n tan h m in
      near-rest (omega arith)
      (near-rest (omega arith) (near-rest (omega arith) (near-rest (omega arith) near-n near-nh3) near_n2) near-no)
      near_n2o

  abbrev pub near-grazing : ModestRates r → WithinMostN n tan
      → NearSection grazing (on_pasture cutting r n tan) (on_pasture exact r N TAN)
  near-grazing h m =
      near-n
      then near-tan
      then near-nh3
      then near_n2
      then near-no
      then near_n2o
      then near-n_remain h m
      then near-tan_remain
      then end
