-- Exact acceptance: a log comes to something exactly where it keeps the rules and its days come to that. Assumes
-- nothing.
use Rattle.std.specs.Prelude.{Ok}
use Prim.Native.Nat.{ℕ, zero, suc, ◌+◌, ◌-◌}
use mathlib.Core.Path.{◌≡◌, sym, ap, ◌∙◌}
use mathlib.Core.Logic.{◌↔◌}
use mathlib.Core.Bool.{true}
use mathlib.Core.List.{List, [], ◌∷◌, ◌++◌, append-nil, append_assoc}
use native.Mathlib.Omega.{arith}
use lib.ListN.{length}
use borrow.Author.Tests.{le-ltb}
use Rattle.base.proofs.Clash.{clash}
use Rattle.grammar.specs.Reading.{Reading, ◌then◌, end, reading_of}
use Rattle.grammar.proofs.Files.{read-file, file-read}
use Rattle.rules_theorems.specs.Lists.{Pairs}
use Rattle.first_refusal.specs.Records.{Record}
use Rattle.first_refusal.proofs.Readings.{thens, whole-thens}
use Rattle.calendar.specs.declared.Date.{Date}
use Rattle.calendar.specs.declared.Due.{Due}
use Rattle.calendar.specs.declared.Due.TheVariants.{NewYear}
use Rattle.calendar.specs.Calendar.{year_length, new_year, next_date, dates_from, same_day, same_date}
use Rattle.calendar.specs.Following.{is_due, due_after}
use Rattle.calendar.proofs.Years.{at_front, at_most}
use Rattle.outdoors.specs.declared.Day.{Day}
use Rattle.outdoors.specs.declared.Tally.{Tally}
use Rattle.outdoors.specs.declared.Outdoors.{Outdoors}
use Rattle.outdoors.specs.Outdoors.{outdoors_of}
use Rattle.outdoors.specs.Tallies.{tally, with_day}
use Rattle.gate.specs.Logs.{progress, nothing_read, finished, read_from, read_log, LogAnswer}
use Rattle.outdoors.proofs.Tallied.{tally_of, tally-last, tally-outdoors}
use Rattle.gate_rules_theorems.specs.Rules.{RecordSays, dates_of, log_most, KeepsLog}
use Rattle.gate_rules_theorems.proofs.Days.{says-read}
use Rattle.gate_rules_theorems.proofs.Steps.{one_same, date_at, after_next, due-next, due-end}
use Rattle.gate_rules_theorems.proofs.Answers.{
  Ran,
  accepts,
  breaks,
  wrong,
  ends,
  Answered,
  too_long,
  read,
  answered,
}

-- what is accepted keeps the rules
keeps : {s : List ℕ} {x : LogAnswer} {o : Outdoors} → Answered s x → x ≡ Ok o → KeepsLog s o
keeps {s} {x} {o} (read short r) e = go r e
  where
    go : {x : LogAnswer} → Ran (reading_of s) x → x ≡ Ok o → KeepsLog s o
    go (accepts rs {days} w _ log _) e =
        let is : outdoors_of days ≡ o = cc in
        record {
          short = short;
          records = rs;
          reads = read-file rs s (w ∙ sym (whole-thens rs));
          days = days;
          log = log;
          is = sym is;
        }
    go (breaks _ _ _) e = clash cc
    go (wrong _ _ _ _ _ _ _) e = clash cc
    go (ends _ _ _ _) e = clash cc
keeps (too_long _) e = clash cc

-- ---- what keeps the rules is accepted

-- a record of a day that is due takes reading further
taken : (n : ℕ) (due : Due) (t : Tally) {cs : Record} {d : Day} → RecordSays cs d → is_due due d.date ≡ true
    → (r : Reading)
    → read_from n (progress due t) (cs then r) ≡ read_from (n + 1) (progress (due_after d.date) (with_day t d)) r
unfolding read_from
taken n due t x e r = rw (read_from, says-read x, e)

-- the year's days from the day k on, behind those of a
along : (y k m n : ℕ) (a : List Day) {rs : List Record} {ds : List Day} → Pairs RecordSays rs ds
    → dates_of ds ≡ dates_from m (date_at y (suc k)) → suc k + m ≡ year_length y
    → read_from n (progress (due_after (date_at y k)) (tally_of a)) (thens rs end) ≡ Ok (outdoors_of (a ++ ds))
unfolding read_from finished
along y k zero n a Pairs.none e l =
    let over = due-end y k (omega arith) in
    rw (read_from, finished, over) (ap Ok (tally-outdoors a ∙ ap outdoors_of (sym (append-nil a))))
along y k zero n a (Pairs.more x p) e l = clash cc
along y k (suc m) n a Pairs.none e l = clash cc
along y k (suc m) n a (Pairs.more {b = d} {l = rs} {m = ds} x p) e l =
    let is : d.date ≡ date_at y (suc k) = cc in
    let rest : dates_of ds ≡ dates_from m (next_date (date_at y (suc k))) = cc in
    let due : is_due (due_after (date_at y k)) d.date ≡ true =
    ap (λ (u : Due). is_due u d.date) (due-next y k (omega arith)) ∙ ap (same_date (date_at y (suc k))) is
    ∙ one_same (date_at y (suc k)) in
    taken n (due_after (date_at y k)) (tally_of a) x due (thens rs end)
    ∙ ap (λ (z : Date). read_from (n + 1) (progress (due_after z) (with_day (tally_of a) d)) (thens rs end)) is
    ∙ ap (λ (t : Tally). read_from (n + 1) (progress (due_after (date_at y (suc k))) t) (thens rs end))
    (sym (tally-last a d))
    ∙ along y (suc k) m (n + 1) (a ++ (d ∷ [])) p (rest ∙ ap (dates_from m) (after_next (suc k) (new_year y)))
    (omega arith)
    ∙ ap (λ (days : List Day). Ok (outdoors_of days)) (append_assoc a (d ∷ []) ds)

from_front : (y m : ℕ) {rs : List Record} {ds : List Day} → Pairs RecordSays rs ds
    → dates_of ds ≡ dates_from (suc m) (new_year y) → year_length y ≡ suc m
    → read_from 1 nothing_read (thens rs end) ≡ Ok (outdoors_of ds)
from_front y m Pairs.none e l = clash cc
from_front y m (Pairs.more {b = d} {l = rs} {m = ds} x p) e l =
    let is : d.date ≡ new_year y = cc in
    let rest : dates_of ds ≡ dates_from m (next_date (new_year y)) = cc in
    taken 1 NewYear (tally 0 0 0) x (ap (same_day 1 1) is) (thens rs end)
    ∙ ap (λ (z : Date). read_from 2 (progress (due_after z) (with_day (tally_of []) d)) (thens rs end)) is
    ∙ ap (λ (t : Tally). read_from 2 (progress (due_after (date_at y 0)) t) (thens rs end)) (sym (tally-last [] d))
    ∙ along y 0 m 2 (d ∷ []) p rest (omega arith)

keeps-read : {s : List ℕ} {o : Outdoors} → KeepsLog s o → read_log s ≡ Ok o
unfolding read_log
keeps-read {s} k =
    let y = k.log.year in
    let m : year_length y ≡ suc (year_length y - 1) = omega (arith, at_most (at_front y)) in
    rw (read_log, le-ltb log_most (length s) k.short)
    (ap (read_from 1 nothing_read) (file-read k.reads ∙ whole-thens k.records)
    ∙ from_front y (year_length y - 1) k.log.says (k.log.dates ∙ ap (λ (n : ℕ). dates_from n (new_year y)) m) m
    ∙ ap Ok (sym k.is))

-- a log comes to something exactly where it keeps the rules
pub accepts-exactly : (s : List ℕ) (o : Outdoors) → (read_log s ≡ Ok o) ↔ KeepsLog s o
accepts-exactly s o = (keeps (answered s), keeps-read)

-- and to one thing at most
pub one-outdoors : (s : List ℕ) (o p : Outdoors) → KeepsLog s o → KeepsLog s p → o ≡ p
one-outdoors s o p a b = let e = sym (keeps-read a) ∙ keeps-read b in cc
