-- `book_totals::is_beyond` meets its contract: what is read of a total is the total. Assumes nothing.
use Prim.Native.Nat.{◌^◌, ◌<◌}
use mathlib.Core.Path.{◌≡◌, ap, ◌∙◌}
use native.Mathlib.Omega.{arith}
use lib.ListN.{length}
use lib.IntN.{nat_abs}
use lib.Signed.{mag}
use borrow.Author.Rules.{rules}
use Rattle.farm.proofs.Left.{length_mapped}
use Rattle.cut_division.proofs.Signed.{back-mag}
use Rattle.outputs.specs.Names.{totals}
use Rattle.outputs.specs.Grams.{grams_at}
use Rattle.books.specs.Rules.{beyond}
use Rattle.book_totals.proofs.Beyond.{one-beyond, one-within, all-within}
use Rattle.book_totals.proofs.is_beyond.Goals as goal

pub loop-g-init : goal.loop-g-init
unfolding beyond
loop-g-init c = search rules

pub returns-then-magnitude-gt-TOTAL_MOST : goal.returns-then-magnitude-gt-TOTAL_MOST
returns-then-magnitude-gt-TOTAL_MOST c =
    let all = c.args.t.grams in
    let i = c.loop-g.g-index in
    let small : mag (grams_at all i) < 2 ^ 63 = omega arith in
    let read : c.magnitude.result ≡ nat_abs (grams_at all i) =
    c.magnitude.ensures ∙ ap nat_abs (back-mag (grams_at all i) small) in
    one-beyond all i _ c.loop-g.invariant (search rules) _ read c.if-magnitude-gt-TOTAL_MOST.true

pub loop-g-preserved : goal.loop-g-preserved
loop-g-preserved c =
    let all = c.args.t.grams in
    let i = c.loop-g.g-index in
    let small : mag (grams_at all i) < 2 ^ 63 = omega arith in
    let read : c.magnitude.result ≡ nat_abs (grams_at all i) =
    c.magnitude.ensures ∙ ap nat_abs (back-mag (grams_at all i) small) in
    one-within all i _ c.loop-g.invariant (search rules) _ read c.if-magnitude-gt-TOTAL_MOST.false

pub returns : goal.returns
returns c =
    let long : length c.args.t.grams ≡ length totals = search (rules, length_mapped) in
    all-within c.args.t.grams c.loop-g.g-index _ c.loop-g.invariant (omega (arith, long, c.loop-g-test.false))
