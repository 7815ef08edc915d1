-- What a herd excretes: the N is exact, the TAN is cut once and is a part of it. Every kind of herd starts from this.
-- Assumes nothing.
use Prim.Native.Nat.{ℕ, ◌*◌, ◌≤◌}
use lib.Dec.{lit<}
use lib.IntN.{pos}
use Rattle.cut_division.proofs.Near.{Near, near-whole}
use Rattle.amounts.specs.Units.{ten_thousandths}
use Rattle.amounts.specs.Arithmetic.{cutting}
use Rattle.amounts.specs.Bounds.{WithinMostN}
use Rattle.kinds.specs.Sound.{most_animals, most_grams}
use Rattle.excretion.specs.Excretion.{ExcretionIn, excreted}
use Rattle.excretion.proofs.Modest.{excreted-modest}
use Rattle.nearness_theorems.specs.Exact.{exact}
use Rattle.nearness_theorems.proofs.Laws.{near-share}

pub record NearExcretion (e : ExcretionIn cutting) (e' : ExcretionIn exact) : Type 0 where
  pub n-near : Near 0 0 (pos e.n_excretion) e'.n_excretion
  pub tan-near : Near 1000000 0 (pos e.tan_excretion) e'.tan_excretion
  pub modest : WithinMostN e.n_excretion e.tan_excretion

pub near-excreted : (animals grams fraction : ℕ) → animals ≤ most_animals → grams ≤ most_grams
    → fraction ≤ ten_thousandths
    → NearExcretion (excreted cutting animals grams fraction) (excreted exact animals grams fraction)
near-excreted animals grams fraction ha hg hf =
    record {
      n-near = near-whole (animals * grams);
      tan-near = near-share fraction ten_thousandths (lit< tt) hf (near-whole (animals * grams));
      modest = excreted-modest animals grams fraction ha hg hf;
    }
