-- `file_length::length_of` meets its contract, herd by herd. Assumes nothing.
use Rattle.file_length.proofs.Steps.{Measuring}
use Rattle.file_length.proofs.length_of.Given as goal

abbrev pub invariant-loop-h : goal.invariant-loop-h
invariant-loop-h l = Measuring l.fn.farm l.h-index l.sum
