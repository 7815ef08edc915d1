-- What the call says and leaves. 02, W6: "13 with record 0 when the mended file or the list has no room, with nothing
-- written to either buffer." Bytes and entries past what is written stay as they were. To be believed.
use Rattle.std.specs.Prelude.{ℕ, ◌≡◌, Bool, ◌&&◌, List, ◌++◌, leb, length, drop, Ok}
use Rattle.base.specs.Pick.{pick}
use Rattle.base.specs.Refused.{refuse}
use Rattle.farm.specs.declared.Refusal.TheVariants.{BufferTooShort}
use Rattle.spreadsheet.specs.Mended.{entries, mended_of, changes_of}
use Rattle.farm.specs.Answers.{Answer}

-- the mended file's length and the number of changes, or a refusal
abbrev pub MendAnswer : Type 0
MendAnswer = Answer (ℕ × ℕ)

-- both the mended file and the list have room
abbrev pub room : (s out list : List ℕ) → Bool
room s out list = leb (length (mended_of s)) (length out) && leb (length (entries (changes_of s))) (length list)

-- written from the front of a lent slice on
abbrev pub over : (written old : List ℕ) → List ℕ
over written old = written ++ drop (length written) old

pub record Mends (s out list new-out new-list : List ℕ) (r : MendAnswer) : Type 0 where
  pub file : new-out ≡ pick (room s out list) (over (mended_of s) out) out
  pub changes : new-list ≡ pick (room s out list) (over (entries (changes_of s)) list) list
  pub answer : r ≡ pick (room s out list) (Ok (length (mended_of s), length (changes_of s)))
      (refuse BufferTooShort 0)
