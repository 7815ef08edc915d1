-- What is answered of a log, record by record from the front, and what that tells of its records. Assumes nothing.
use Prim.Native.Nat.{ℕ, ◌+◌, ◌<◌, ◌≤◌}
use mathlib.Core.Path.{◌≡◌, refl, sym, subst, ◌∙◌}
use mathlib.Core.Bool.{Bool, true, false}
use mathlib.Core.List.{List, [], ◌∷◌, ◌++◌}
use native.Mathlib.Omega.{arith}
use lib.Dec.{ltb}
use lib.ListN.{length, length-append}
use borrow.Author.Tests.{ltb-true, ltb-false}
use Rattle.std.specs.Prelude.{Result, Ok, Err}
use Rattle.base.specs.Pick.{pick}
use Rattle.base.specs.Refused.{refuse}
use Rattle.grammar.specs.Reading.{Reading, ◌then◌, end, broken, reading_of}
use Rattle.first_refusal.specs.Records.{Record}
use Rattle.first_refusal.proofs.Clean.{CleanOf, clean_none, clean_last}
use Rattle.rules_theorems.specs.Lists.{Last}
use Rattle.first_refusal.proofs.Readings.{thens, thens-append}
use Rattle.calendar.specs.declared.Date.{Date}
use Rattle.calendar.specs.Calendar.{IsEve}
use Rattle.dates.specs.Texts.{IsDate}
use Rattle.outdoors.specs.declared.Day.{Day}
use Rattle.gate.specs.declared.Progress.{Progress}
use Rattle.gate_days.specs.declared.LogRefusal.{LogRefusal}
use Rattle.gate_days.specs.declared.LogRefusal.TheVariants.{LogTooLong, RecordBroken, WrongDate}
use Rattle.gate_days.specs.Refusals.{number}
use Rattle.outdoors.specs.Outdoors.{outdoors_of}
use Rattle.gate.specs.Logs.{nothing_read, read_from, read_log, LogAnswer}
use Rattle.gate_rules_theorems.specs.Rules.{date_text, LogOf, log_most}
use Rattle.gate_rules_theorems.specs.Refusals.{Applies}
use Rattle.gate_rules_theorems.proofs.Steps.{
  Inv,
  start,
  NoneBelow,
  Verdict,
  refuses,
  goes_on,
  verdict,
  OnEve,
  Ended,
}
use Rattle.gate_rules_theorems.proofs.Steps.{whole, early, finish}

-- ---- records for which none of 3, 7 and 14 applies

abbrev pub Clean : List Record → Type 0
Clean rs = CleanOf Applies rs

-- ---- the answer to a reading

pub data Ran (w : Reading) : LogAnswer → Type 0 where
  accepts : (rs : List Record) {days : List Day} → w ≡ thens rs end → Clean rs → LogOf rs days → OnEve rs
      → Ran w (Ok (outdoors_of days))
  breaks : (rs : List Record) → w ≡ thens rs broken → Clean rs → Ran w (refuse RecordBroken (length rs + 1))
  wrong : (before : List Record) (cs : Record) (rest : Reading) {refusal : LogRefusal} → w ≡ thens before (cs then rest)
      → Clean before → Applies before cs refusal
      → NoneBelow before cs (number refusal) → Ran w (refuse refusal (length before + 1))
  ends : (rs : List Record) → w ≡ thens rs end → Clean rs
      → ((r : Record) (d : Date) → Last rs r → IsDate (date_text r) d → IsEve d → ⊥)
      → Ran w (refuse WrongDate 0)

through : {w : Reading} {rs : List Record} {x : LogAnswer} → w ≡ thens rs end → Clean rs → Ended rs x → Ran w x
through {rs = rs} e clean (whole log eve) = accepts rs e clean log eve
through {rs = rs} e clean (early none) = ends rs e clean none

module _ (w : Reading) where
  run : (before : List Record) (p : Progress) → Inv before p → Clean before → (r : Reading) → w ≡ thens before r
      → Ran w (read_from (length before + 1) p r)
  unfolding read_from
  run before p inv clean end e = through e clean (finish inv)
  run before p inv clean broken e = breaks before e clean
  run before p inv clean (cs then r) e = go (verdict inv cs) (λ b q i c d. run b q i c r d)
    where
      go : {t : Result Progress LogRefusal} → Verdict before cs p t
          → ((b : List Record) (q : Progress) → Inv b q → Clean b
          → w ≡ thens b r → Ran w (read_from (length b + 1) q r))
          → Ran w
          (elim t [
            | Ok q ↦ read_from (length before + 1 + 1) q r
            | Err refusal ↦ refuse refusal (length before + 1)
          ])
      go (refuses x below) again = wrong before cs r e clean x below
      go (goes_on {q} none on) again =
          let n : length (before ++ (cs ∷ [])) + 1 ≡ length before + 1 + 1 =
          omega (arith, length-append before (cs ∷ [])) in
          subst (λ (k : ℕ). Ran w (read_from k q r)) n
          (again (before ++ (cs ∷ [])) q on (clean_last Applies before cs clean none)
          (e ∙ sym (thens-append before (cs ∷ []) r)))

-- ---- the answer to a log

pub data Answered (s : List ℕ) : LogAnswer → Type 0 where
  too_long : log_most < length s → Answered s (refuse LogTooLong 0)
  read : {x : LogAnswer} → length s ≤ log_most → Ran (reading_of s) x → Answered s x

pub answered : (s : List ℕ) → Answered s (read_log s)
unfolding read_log
answered s = go (ltb log_most (length s)) refl
  where
    go : (t : Bool) → ltb log_most (length s) ≡ t
        → Answered s (pick t (refuse LogTooLong 0) (read_from 1 nothing_read (reading_of s)))
    go true e = too_long (ltb-true log_most (length s) e)
    go false e =
        read (ltb-false log_most (length s) e)
        (run (reading_of s) [] nothing_read start (clean_none Applies) (reading_of s) refl)
