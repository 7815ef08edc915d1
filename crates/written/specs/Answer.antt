-- What a writing call leaves in the lent buffer and what it says. 01: "A writing call gives the listing's length; bytes
-- past it stay as they were." Where the buffer is shorter than the listing it is refusal 13 with record 0, and nothing
-- is written.
use Rattle.std.specs.Prelude.{ℕ, ◌≡◌, Bool, List, ◌++◌, leb, length, drop, Ok, Err}
use Rattle.base.specs.Pick.{pick}
use Rattle.base.specs.Refused.{refuse}
use Rattle.farm.specs.declared.Refusal.TheVariants.{BufferTooShort}
use Rattle.farm.specs.Refusals.{number, Says, gives, refuses}
use Rattle.farm.specs.Answers.{Answer}

-- the length of what was written, or a refusal
abbrev pub Written : Type 0
Written = Answer ℕ

-- the buffer is long enough
abbrev pub room : List ℕ → List ℕ → Bool
room listing old = leb (length listing) (length old)

-- the buffer afterwards
unfoldable pub leaves : List ℕ → List ℕ → List ℕ
leaves listing old = pick (room listing old) (listing ++ drop (length listing) old) old

-- the answer
unfoldable pub answers : List ℕ → List ℕ → Written
answers listing old = pick (room listing old) (Ok (length listing)) (refuse BufferTooShort 0)

pub record Answered (listing old new : List ℕ) (r : Written) : Type 0 where
  pub buffer : new ≡ leaves listing old
  pub answer : r ≡ answers listing old

-- what it says in 01's numbers
abbrev pub says_of : Written → Says
says_of (Ok n) = gives n
says_of (Err refused) = refuses (number refused.0) refused.1
