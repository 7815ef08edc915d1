-- `view_writing::lengths::herds_length` meets its contract, herd by herd. Assumes nothing.
use Rattle.view_writing.proofs.LengthSteps.{Measuring}
use Rattle.view_writing.proofs.lengths.herds_length.Given as goal

abbrev pub invariant-loop-h : goal.invariant-loop-h
invariant-loop-h l = Measuring l.view l.fn.farm l.h-index l.sum
