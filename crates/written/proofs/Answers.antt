-- What a writing call leaves and says, from what was written. Assumes nothing.
use Rattle.std.specs.Prelude.{Ok}
use Prim.Native.Nat.{ℕ, ◌+◌, ◌≤◌, ◌<◌}
use mathlib.Core.Path.{◌≡◌, ap, subst, ◌∙◌}
use mathlib.Core.List.{List}
use native.Mathlib.Omega.{arith}
use borrow.Author.Tests.{le-leb, lt-leb}
use lib.ListN.{length}
use Rattle.base.specs.Part.{part}
use Rattle.base.specs.Wrote.{Wrote}
use Rattle.base.proofs.Writes.{wrote_as, wrote_in_front, part-is}
use Rattle.base.specs.Refused.{refuse}
use Rattle.farm.specs.declared.Refusal.TheVariants.{BufferTooShort}
use Rattle.written.specs.Answer.{leaves, answers, Answered, Written}

-- p is the listing, as the code has it
module _ {p listing : List ℕ} (is : p ≡ listing) {old : List ℕ} where
  pub refused : length old < length p → Answered listing old old (refuse BufferTooShort 0)
  unfolding leaves answers
  refused h =
      let l : length old < length listing = omega (arith, ap length is) in
      let e = lt-leb (length listing) (length old) l in
      record { buffer = rw e; answer = rw e }

  module _ {new : List ℕ} {q : ℕ} (w : Wrote old 0 p new q) (h : q ≤ length old) where
    pub written : Answered listing old new (Ok q)
    unfolding leaves answers
    written =
        let s = wrote_as is w in
        let l : length listing ≤ length old = omega (arith, s.past) in
        let e = le-leb (length listing) (length old) l in
        let z : 0 + length listing ≡ length listing = omega arith in
        record { buffer = rw e (wrote_in_front s l); answer = rw e (ap Ok (s.past ∙ z)) }

    -- written elsewhere first, and that part handed over
    pub handed : {lent after : List ℕ} {r : Written} → Answered (part new 0 q) lent after r
        → Answered listing lent after r
    handed {lent} {after} {r} a = subst (λ (t : List ℕ). Answered t lent after r) (part-is w h ∙ is) a
