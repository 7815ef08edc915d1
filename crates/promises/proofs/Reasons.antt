-- 02, W2: what an adviser is told and the figures can't part. In the answers of an accepted herd with a yard, what
-- comes onto the yard is the part of the N that the told days and shares make of the year, with one cut. Assumes
-- nothing.
use Rattle.std.specs.Prelude.{Ok, Some}
use Prim.Native.Nat.{ℕ, ◌+◌, ◌-◌, ◌*◌}
use mathlib.Core.Path.{◌≡◌, ap}
use lib.IntN.{pos, nat_abs}
use Rattle.cut_division.specs.Cut.{◌cut_by◌}
use Rattle.kinds.specs.declared.Outdoor.{Outdoor}
use Rattle.kinds.specs.declared.Inputs.{Inputs}
use Rattle.farm.specs.declared.Herd.{Herd}
use Rattle.farm.specs.Answers.{Accepted}
use Rattle.checks.specs.Checks.{check_herd}
use Rattle.typed_inputs.specs.Typed.{typed_of}
use Rattle.outputs.specs.declared.Figures.{Figures}
use Rattle.outputs.specs.Grams.{figure}
use Rattle.herd.specs.Herd.{figures_of}
use Rattle.reasons.specs.declared.Why.{Why}
use Rattle.reasons.specs.Reasons.{why_of, HasOutdoor, cattle}
use Rattle.reasons.specs.Answers.{reason_answer}
use Rattle.reasons.proofs.Reasons.{told_of_lem, yard_time-told}
use Rattle.model.specs.Answers.{herd_answer}

-- N × (chosen share × other yard days + share on days with both × those days) / 365, shares in tenths
abbrev pub onto_yard : Outdoor → Why → Figures → ℕ
onto_yard o w f =
    nat_abs (figure "n_excretion" f) * (w.chosen * (o.yard_days - w.days) + w.share * w.days) cut_by 3650

by-told : {i : Inputs} {o : Outdoor} → HasOutdoor i o
    → figure "n_into_yard" (figures_of i) ≡ pos (onto_yard o (why_of o) (figures_of i))
unfolding figures_of
by-told (cattle {c = c}) =
    ap (λ (x : ℕ). pos (c.animals * c.inp_n_excretion * x cut_by 3650)) (yard_time-told c.outdoor)

module _ (h : Herd) (accepted : check_herd h ≡ Accepted) (o : Outdoor) (yard : HasOutdoor (typed_of h) o) where
  is-given : reason_answer h ≡ Ok (Some (why_of o))
  unfolding reason_answer
  is-given = rw (accepted, told_of_lem yard)

  pub answered-yard-told : (w : Why) → reason_answer h ≡ Ok (Some w)
      → figure "n_into_yard" (herd_answer h).figures ≡ pos (onto_yard o w (herd_answer h).figures)
  unfolding herd_answer
  answered-yard-told w e =
      let g = is-given in
      let same : why_of o ≡ w = cc in
      rw (accepted, ← same) (by-told yard)
