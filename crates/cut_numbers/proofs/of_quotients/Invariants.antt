-- `cut_numbers::of_quotients` meets its contract. The invariant: what the first i quotients have is stored. Assumes
-- nothing.
use Rattle.cut_division.specs.declared.Quotient.{Quotient}
use Rattle.outputs.proofs.Mapped.{Stored}
use Rattle.cut_numbers.proofs.of_quotients.Given as goal

abbrev pub invariant-loop-i : goal.invariant-loop-i
invariant-loop-i l = Stored (λ (q : Quotient). q.cut_off) l.quotients l.i l.cuts.cut_off
    × Stored (λ (q : Quotient). q.divisor) l.quotients l.i l.cuts.divisor
