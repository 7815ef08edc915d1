-- Two refusals that are one answer are of one kind and of one record; and what `?` hands on is the refusal that it met.
-- Assumes nothing.
use Rattle.std.specs.Prelude.{Result, Ok, Err, IsErr, IsErrAnd}
use Prim.Native.Nat.{ℕ}
use mathlib.Core.Path.{◌≡◌, ap}
use Rattle.base.specs.declared.refusals.Refused.{Refused}
use Rattle.base.specs.Refused.{refuse}

module _ {A R : Type 0} where
  pub same_refused : {a b : Refused R} → ◌≡◌ {A = Result A (Refused R)} (Err a) (Err b) → a ≡ b
  same_refused e = cc

  module _ {f g : R} {m n : ℕ} (e : ◌≡◌ {A = Result A (Refused R)} (refuse f m) (refuse g n)) where
    pub same-refusal : f ≡ g
    same-refusal = ap (λ (r : Refused R). r.0) (same_refused e)

    pub same-record : m ≡ n
    same-record = ap (λ (r : Refused R). r.1) (same_refused e)

-- `ensures` of the `from_residual` of a `?`
pub handed_on : {A E : Type 0} {r : Result A E} {why : E} → IsErr r × IsErrAnd r (λ e. e ≡ why) → r ≡ Err why
handed_on {r = Ok x} h = absurd h.1
handed_on {r = Err e} h = ap Err h.1
