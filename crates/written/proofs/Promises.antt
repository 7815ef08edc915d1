-- What the contracts of the writing calls come to, in 01's numbers: a buffer as long as the listing is enough, a
-- shorter one is refusal 13 with record 0 and stays as it was, and no two results are allowed. Assumes nothing.
use Prim.Native.Nat.{ℕ, ◌≤◌, ◌<◌}
use mathlib.Core.Path.{◌≡◌, sym, ap, ◌∙◌}
use mathlib.Core.List.{List, ◌++◌}
use borrow.Author.Tests.{le-leb, lt-leb}
use lib.ListN.{length, drop}
use Rattle.farm.specs.Refusals.{Says, gives, refuses}
use Rattle.written.specs.Answer.{leaves, answers, Answered, says_of, Written}

-- a call's buffer afterwards and what it says
pub record Gave (left : List ℕ) (saying : Says) (new : List ℕ) (r : Written) : Type 0 where
  pub buffer : new ≡ left
  pub answer : says_of r ≡ saying

module _ {listing old new : List ℕ} {r : Written} (a : Answered listing old new r) where
  pub enough : length listing ≤ length old → Gave (listing ++ drop (length listing) old) (gives (length listing)) new r
  unfolding leaves answers
  enough h = let e = le-leb (length listing) (length old) h in
      record { buffer = rw e at a.buffer; answer = ap says_of (rw e at a.answer) }

  pub too_short : length old < length listing → Gave old (refuses 13 0) new r
  unfolding leaves answers
  too_short h = let e = lt-leb (length listing) (length old) h in
      record { buffer = rw e at a.buffer; answer = ap says_of (rw e at a.answer) }

pub one_answer : {listing old new new' : List ℕ} {r r' : Written} → Answered listing old new r
    → Answered listing old new' r' → (new ≡ new') × (r ≡ r')
one_answer a b = (a.buffer ∙ sym b.buffer, a.answer ∙ sym b.answer)
