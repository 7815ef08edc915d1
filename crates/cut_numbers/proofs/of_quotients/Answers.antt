-- `cut_numbers::of_quotients` meets its contract: a turn stores the next quotient's parts. Assumes nothing.
use Prim.Native.Nat.{ℕ, ◌<◌, ◌≤◌}
use mathlib.Core.Path.{◌≡◌, refl, sym, ap, ◌∙◌}
use mathlib.Core.List.{List}
use native.Mathlib.Omega.{arith}
use lib.ListN.{length}
use Rattle.cut_division.specs.declared.Quotient.{Quotient}
use Rattle.outputs.proofs.Mapped.{none_stored, one-stored, all-stored}
use Rattle.cuts.specs.declared.Cuts.{Cuts}
use Rattle.cut_numbers.proofs.of_quotients.Goals as goal

abbrev cut_off_of : Quotient → ℕ
cut_off_of q = q.cut_off

abbrev divisor_of : Quotient → ℕ
divisor_of q = q.divisor

-- what a read past the end would give
abbrev nothing : Quotient
nothing = record { whole = 0; cut_off = 0; divisor = 0 }

both : {k : Cuts} {a b : List ℕ} → k.cut_off ≡ a → k.divisor ≡ b → k ≡ record { cut_off = a; divisor = b }
both p q = rw (← p, ← q)

pub loop-i-init : goal.loop-i-init
loop-i-init c = let qs = c.args.quotients.now in (
  none_stored cut_off_of qs _ (ap (λ (k : Cuts). length k.cut_off) c.no_cuts-cuts.ensures ∙ sym c.told-quotients),
  none_stored divisor_of qs _ (ap (λ (k : Cuts). length k.divisor) c.no_cuts-cuts.ensures ∙ sym c.told-quotients),
)

pub loop-i-preserved : goal.loop-i-preserved
loop-i-preserved c = let qs = c.args.quotients.now in
    let inside : c.loop-i.i < length qs = omega arith in (
      one-stored cut_off_of qs nothing _ c.loop-i.invariant.0 inside refl,
      one-stored divisor_of qs nothing _ c.loop-i.invariant.1 inside refl,
    )

pub returns : goal.returns
returns c = let qs = c.args.quotients.now in
    let past : length qs ≤ c.loop-i.i = omega arith in
    both (all-stored cut_off_of qs c.loop-i.invariant.0 past) (all-stored divisor_of qs c.loop-i.invariant.1 past)
