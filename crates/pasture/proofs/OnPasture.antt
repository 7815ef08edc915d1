-- The pasture: the four gases together are no more than the N, and nothing is lost on the way. Assumes nothing.
use mathlib.Core.Path.{◌≡◌, refl, sym, ap, ◌∙◌}
use Prim.Native.Nat.{ℕ, ◌+◌, ◌-◌, ◌≤◌, ◌<◌, ◌^◌}
use native.Mathlib.Nat.{mul-le-mul_left, mul-le-mul_right}
use native.Mathlib.Omega.{arith}
use lib.IntN.{ℤ, pos, neg_ℤ, ◌+ℤ◌, ◌-ℤ◌, +ℤ_assoc, neg_ℤ-+ℤ, -ℤ-+ℤ_cancel}
use lib.Signed.{mag}
use mir.Syntax.{w64}
use mir.Val.{to_z, of_z}
use Rattle.cut_division.specs.declared.Quotient.{Quotient}
use Rattle.cut_division.proofs.Signed.{back-mag}
use Rattle.amounts.specs.declared.Parts.{Parts}
use Rattle.amounts.specs.Units.{ten_thousandths}
use Rattle.amounts.specs.Arithmetic.{cutting}
use Rattle.amounts.specs.Dividing.{dividing, uncut}
use Rattle.amounts.specs.Bounds.{WithinMostN, PortionOf}
use Rattle.rates.specs.declared.Rates.{Rates}
use Rattle.rates.specs.Bounds.{ModestRates}
use Rattle.pasture.specs.declared.Gases.{Gases}
use Rattle.pasture.specs.declared.Grazing.{Grazing}
use Rattle.pasture.specs.Pasture.{gas, on_pasture, handed_from}
use Rattle.pasture.specs.Bounds.{Emitted}

-- ---- what is taken together is taken one by one

less-less : (z : ℤ) (a b : ℕ) → z -ℤ pos (a + b) ≡ z -ℤ pos a -ℤ pos b
less-less z a b = ap (λ (y : ℤ). z +ℤ y) (neg_ℤ-+ℤ (pos a) (pos b)) ∙ sym (+ℤ_assoc z (neg_ℤ (pos a)) (neg_ℤ (pos b)))

less-all : (z : ℤ) (a b c d : ℕ) → z -ℤ pos (a + b + c + d) ≡ z -ℤ pos a -ℤ pos b -ℤ pos c -ℤ pos d
less-all z a b c d =
    less-less z (a + b + c) d
    ∙ ap (λ (y : ℤ). y -ℤ pos d) (less-less z (a + b) c ∙ ap (λ (y : ℤ). y -ℤ pos c) (less-less z a b))

rest_all : (n a b c d : ℕ) → n - (a + b + c + d) ≡ n - a - b - c - d
rest_all n a b c d = omega arith

-- ---- the four gases

module _ (r : Rates) (n tan : ℕ) where
  pub gases-le : ModestRates r → WithinMostN n tan
      → gas cutting tan r.nh3 + gas cutting n r.n2 + gas cutting n r.no + gas cutting n r.n2o ≤ n
  gases-le h m = omega (arith, mul-le-mul_right r.nh3 m.tan_most, mul-le-mul_left n h.together)

  -- ---- conservation: what comes onto the pasture remains there or is emitted

  pub pasture-keeps-n : ModestRates r → WithinMostN n tan
      → let g = on_pasture cutting r n tan in
      g.n_into_grazing
      ≡ g.n_remain_grazing + (g.nh3_ngrazing + g.n2_ngrazing + g.no_ngrazing + g.n2o_ngrazing)
  pasture-keeps-n h m = omega (arith, gases-le h m)

  pub pasture-keeps-tan : let g = on_pasture cutting r n tan in
      pos g.tan_into_grazing
      ≡ g.tan_remain_grazing +ℤ pos (g.nh3_ngrazing + g.n2_ngrazing + g.no_ngrazing + g.n2o_ngrazing)
  pasture-keeps-tan =
      rest_back (pos tan) (gas cutting tan r.nh3) (gas cutting n r.n2) (gas cutting n r.no)
      (gas cutting n r.n2o)
    where
      rest_back : (z : ℤ) (a b c d : ℕ) → z ≡ z -ℤ pos a -ℤ pos b -ℤ pos c -ℤ pos d +ℤ pos (a + b + c + d)
      rest_back z a b c d = rw (← less-all z a b c d) (sym (-ℤ-+ℤ_cancel z (pos (a + b + c + d))))

  -- ---- the code's steps

  pub emitted : (nh3 n2 n_o n2o : Quotient) → ModestRates r → WithinMostN n tan
      → PortionOf tan r.nh3 ten_thousandths nh3 → PortionOf n r.n2 ten_thousandths n2
      → PortionOf n r.no ten_thousandths n_o → PortionOf n r.n2o ten_thousandths n2o
      → Emitted r n tan (record { nh3 = nh3; n2 = n2; no = n_o; n2o = n2o })
  emitted nh3 n2 n_o n2o h m p q s t =
      record {
        is = rw (p.cut, q.cut, s.cut, t.cut) refl;
        together = omega (arith, gases-le h m, p.is, q.is, s.is, t.is);
      }

pub remains : (r : Rates) (into : Parts) (g : Gases) (left : ℤ) → Emitted r into.n.whole into.tan.whole g
    → mag left < 2 ^ 63
    → left ≡ pos into.tan.whole -ℤ pos (g.nh3.whole + g.n2.whole + g.no.whole + g.n2o.whole)
    → ◌≡◌ {A = Grazing} (record {
      into = into;
      gases = g;
      n_remain_grazing = into.n.whole - (g.nh3.whole + g.n2.whole + g.no.whole + g.n2o.whole);
      tan_remain_grazing = to_z w64 (of_z w64 left);
    })
    (handed_from into (on_pasture dividing r (uncut into.n.whole) (uncut into.tan.whole)))
remains r into g left e fits el =
    rw (
      back-mag left fits,
      el,
      less-all (pos into.tan.whole) g.nh3.whole g.n2.whole g.no.whole g.n2o.whole,
      rest_all into.n.whole g.nh3.whole g.n2.whole g.no.whole g.n2o.whole,
      e.is,
    ) refl

pub ruleset pasture_steps = (emitted, remains)
