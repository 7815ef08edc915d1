-- The steps of both loops, from the last digit on. Assumes nothing.
use mathlib.Core.Path.{◌≡◌, sym, ap, ◌∙◌}
use native.Mathlib.Omega.{arith}
use lib.ListN.{length-set}
use lib.Seq.{sets}
use Rattle.base.proofs.Writes.{wrote-keeps-length}
use Rattle.decimal.specs.Writing.{lowest}
use Rattle.decimal.proofs.Widths.{low-three, low_turn, lowest-length}
use Rattle.decimal.proofs.put_lowest.Goals as goal

pub loop-i-preserved : goal.loop-i-preserved
loop-i-preserved c =
    let l = c.loop-i in
    let a = c.args in (
      omega arith,
      omega (arith, wrote-keeps-length c.put_three.ensures),
      low-three l.out _ a.at l.i l.m _ (omega arith) c.put_three.ensures ∙ l.invariant.2,
    )

pub loop-j-preserved : goal.loop-j-preserved
loop-j-preserved c =
    let l = c.loop-j in
    (simp length-set (omega arith), low_turn l.out c.args.at l.j l.m (omega arith) ∙ l.invariant.1)

pub returns : goal.returns
returns c =
    let l = c.loop-j in
    let z : l.j ≡ 0 = omega arith in
    record {
      bytes = ap (λ k. sets l.out c.args.at (lowest k l.m)) (sym z) ∙ l.invariant.1 ∙ c.loop-i.invariant.2;
      past = omega (arith, lowest-length c.args.k c.args.n);
    }
