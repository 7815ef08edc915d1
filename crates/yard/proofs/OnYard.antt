-- The yard: its part of the N and of the TAN, the ammonia from it, and that nothing is lost on the way.
-- Assumes nothing.
use mathlib.Core.Path.{◌≡◌, refl}
use Prim.Native.Nat.{ℕ, ◌+◌, ◌-◌, ◌*◌, ◌≤◌, min}
use native.Mathlib.Omega.{arith}
use mir.Syntax.{w64}
use mir.Val.{Fits}
use Rattle.cut_division.specs.declared.Quotient.{Quotient}
use Rattle.cut_division.specs.Cut.{undivided}
use Rattle.cut_division.proofs.Products.{mul-fits}
use Rattle.cut_division.proofs.Shares.{part-le, least-most}
use Rattle.amounts.specs.declared.Parts.{Parts}
use Rattle.amounts.specs.Units.{tenths, percent, ten_thousandths, year}
use Rattle.amounts.specs.Arithmetic.{cutting}
use Rattle.amounts.specs.Dividing.{dividing, uncut}
use Rattle.amounts.specs.Bounds.{WithinMostN, PortionOf, PortionsOf, UpTo}
use Rattle.amounts.proofs.Amounts.{modest-share, up_to_ceiling}
use Rattle.kinds.specs.declared.Outdoor.{Outdoor}
use Rattle.kinds.specs.Free.{c_free_factor}
use Rattle.kinds.specs.Sound.{SoundOutdoor}
use Rattle.yard.specs.declared.Yard.{Yard}
use Rattle.yard.specs.Yard.{
  er_yard,
  c_floor_properties_exercise_yard,
  yard_time,
  rate_floor_free,
  ef_nh3_nyard,
  into_yard,
  nh3_on_yard,
  on_yard,
  no_yard,
  handed_yard,
}
use Rattle.yard.proofs.Times.{yard_time-le}

module _ (o : Outdoor) (s : SoundOutdoor o) where
  pub yard-rate-le : ef_nh3_nyard o ≤ ten_thousandths * percent * percent
  yard-rate-le = least-most (rate_floor_free o) (ten_thousandths * percent * percent)

  -- as the code forms it
  module _ (floor left : ℕ) (e : floor ≡ c_floor_properties_exercise_yard o.floor_properties_exercise_yard)
      (u : UpTo (percent + percent) (c_free_factor o.free_correction_factor) left) where
    pub rate-fits : Fits w64 (er_yard * floor * left)
    rate-fits = mul-fits (er_yard * percent) (percent + percent) tt (omega arith) u.most

    found : rate_floor_free o ≡ er_yard * floor * left
    found = rw (e, u.is) refl

    pub yard-ceiling : (r : ℕ) → r ≡ min (er_yard * floor * left) (ten_thousandths * percent * percent)
        → UpTo (ten_thousandths * percent * percent) (ef_nh3_nyard o) r
    yard-ceiling r q = rw found (up_to_ceiling (er_yard * floor * left) (ten_thousandths * percent * percent) r q)

  pub yard-modest : (n tan : ℕ) → WithinMostN n tan → WithinMostN (into_yard cutting o n) (into_yard cutting o tan)
  yard-modest n tan m = modest-share n tan (yard_time o) (tenths * year) m (yard_time-le o s)

  pub nh3-on-yard-le : (tan : ℕ) → nh3_on_yard cutting o tan ≤ tan
  nh3-on-yard-le tan = part-le tan (ef_nh3_nyard o) (ten_thousandths * percent * percent) yard-rate-le

  -- ---- conservation: what comes onto the yard is emitted there or leaves it

  module _ (n tan : ℕ) where
    pub yard-keeps-n : WithinMostN n tan
        → let y = on_yard cutting o n tan in y.n_into_yard ≡ y.nh3_nyard + y.n_outyard_liquid
    yard-keeps-n m = omega (arith, (yard-modest n tan m).tan_most, nh3-on-yard-le (into_yard cutting o tan))

    pub yard-keeps-tan : let y = on_yard cutting o n tan in y.tan_into_yard ≡ y.nh3_nyard + y.tan_outyard_liquid
    yard-keeps-tan = omega (arith, nh3-on-yard-le (into_yard cutting o tan))

pub ruleset yard_rate_steps = (rate-fits, yard-ceiling)

-- ---- the code's steps

pub is-yard : (o : Outdoor) (n tan : ℕ) (into : Parts) (nh3 : Quotient)
    → PortionsOf n tan (yard_time o) (tenths * year) into
    → PortionOf into.tan.whole (ef_nh3_nyard o) (ten_thousandths * percent * percent) nh3
    → ◌≡◌ {A = Yard} (record {
      into = into;
      nh3_nyard = nh3;
      n_outyard_liquid = into.n.whole - nh3.whole;
      tan_outyard_liquid = into.tan.whole - nh3.whole;
    })
    (handed_yard (on_yard dividing o (uncut n) (uncut tan)))
is-yard o n tan into nh3 p g = rw (g.cut, p.for_n.cut, p.for_tan.cut) refl

pub is-no-yard : (q : Quotient) → q ≡ undivided 0
    → ◌≡◌ {A = Yard} (record {
      into = record { n = q; tan = q };
      nh3_nyard = q;
      n_outyard_liquid = 0;
      tan_outyard_liquid = 0;
    })
    (handed_yard (no_yard dividing))
is-no-yard q e = rw e refl

pub ruleset yard_made = (is-yard, is-no-yard)
