-- `bench_repeat::repeat_whole` is safe: the buffer keeps its length. Assumes nothing.
use Rattle.std.proofs.Common.{◌≡◌, length}
use Rattle.bench_repeat.proofs.repeat_whole.Given as goal

abbrev pub invariant-loop-turn : goal.invariant-loop-turn
invariant-loop-turn l = length l.out ≡ length l.initial.out
