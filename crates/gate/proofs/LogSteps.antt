-- How far a log is read, from the calls that go on with it: each law in the form that a place of src/logs.rt wants.
-- Assumes nothing.
use Prim.Native.Nat.{ℕ, ◌+◌, ◌-◌, ◌*◌, ◌<◌, ◌≤◌}
use mathlib.Core.Path.{◌≡◌, refl, sym, ap, ◌∙◌}
use mathlib.Core.Bool.{Bool, true, false, not}
use mathlib.Core.List.{List}
use native.Mathlib.Omega.{arith}
use lib.ListN.{length, drop}
use borrow.Author.Tests.{not-true, not-false}
use Rattle.std.specs.Prelude.{Result, Ok, Err}
use Rattle.base.specs.Pick.{pick}
use Rattle.base.proofs.Clash.{clash}
use Rattle.base.specs.Refused.{refuse}
use Rattle.csv_reader.specs.declared.Fields.{Fields}
use Rattle.csv_reader.specs.declared.ReaderPlace.{ReaderPlace}
use Rattle.csv_reader.specs.declared.Step.{Step}
use Rattle.csv_reader.specs.declared.Step.TheVariants.{Record, Broken, End}
use Rattle.grammar.specs.Reading.{reading_of, parts_of}
use Rattle.csv_reader.specs.Places.{parts_at, step_of}
use Rattle.csv_reader.specs.Outcome.{ReadAs}
use Rattle.csv_reader.proofs.Steps.{Says, says, next-reads, end_read}
use Rattle.calendar.specs.declared.Date.{Date}
use Rattle.calendar.specs.declared.Due.{Due}
use Rattle.calendar.specs.declared.Due.TheVariants.{NewYear, On, Nothing}
use Rattle.calendar.specs.Following.{is_due, due_after}
use Rattle.outdoors.specs.declared.Day.{Day}
use Rattle.outdoors.specs.declared.Tally.{Tally}
use Rattle.outdoors.specs.declared.Outdoors.{Outdoors}
use Rattle.gate.specs.declared.Progress.{Progress}
use Rattle.gate_days.specs.declared.LogRefusal.{LogRefusal}
use Rattle.gate_days.specs.declared.LogRefusal.TheVariants.{RecordBroken, WrongDate}
use Rattle.gate_days.specs.Days.{day_of}
use Rattle.outdoors.specs.Tallies.{with_day, outdoors_by, Roomy}
use Rattle.gate.specs.Logs.{progress, nothing_read, taken_by, finished, log_most, read_from, LogAnswer}
use Rattle.gate_days.proofs.DaySteps.{day-small}
use Rattle.outdoors.proofs.TallySteps.{grown}

-- ---- what a record does

module _ (p : Progress) {x : Result Day LogRefusal} where
  pub taken-wrong : {refusal : LogRefusal} → x ≡ Err refusal → Err refusal ≡ taken_by p x
  taken-wrong e = rw e

  module _ {d : Day} (e : x ≡ Ok d) {b : Bool} (q : b ≡ is_due p.due d.date) where
    pub taken-not-due : not b ≡ true → Err WrongDate ≡ taken_by p x
    taken-not-due h = simp (e, sym q ∙ not-true b h)

    pub taken-further : not b ≡ false → {due : Due} → due ≡ due_after d.date → {t : Tally}
        → t ≡ with_day p.tally d
        → Ok (progress due t) ≡ taken_by p x
    taken-further h u v = simp (e, sym q ∙ not-false b h, u, v)

pub ruleset taken_steps = (taken-wrong, taken-not-due, taken-further)

-- ---- read through

module _ (p : Progress) where
  pub ends-at-once : p.due ≡ NewYear → refuse WrongDate 0 ≡ finished p
  unfolding finished
  ends-at-once e = simp (finished, e)

  pub ends_early : {d : Date} → p.due ≡ On d → refuse WrongDate 0 ≡ finished p
  unfolding finished
  ends_early e = simp (finished, e)

  pub ends_in_time : p.due ≡ Nothing → {o : Outdoors} → o ≡ outdoors_by p.tally → Ok o ≡ finished p
  unfolding finished
  ends_in_time e q = simp (finished, e, q)

pub ruleset finished_steps = (ends-at-once, ends_early, ends_in_time)

-- ---- the loop

-- what is read from a place on, where the n-th record comes
abbrev on_from : List ℕ → ReaderPlace → ℕ → Progress → LogAnswer
on_from s place n p = read_from n p (reading_of (drop place.at s))

-- at a place where the n-th record comes: no more days are counted than records were read, and what is read from here
-- on is what is read from the front
pub record Reached (s : List ℕ) (place : ReaderPlace) (p : Progress) (n : ℕ) : Type 0 where
  pub inside : place.at ≤ length s
  pub numbered : (0 < n) × (n ≤ place.at + 1)
  pub grazing : p.tally.grazing_days ≤ n
  pub yard : p.tally.yard_days ≤ n
  pub hours : p.tally.pasture ≤ n * 240
  pub reads : on_from s place n p ≡ read_from 1 nothing_read (reading_of s)

pub reached-front : (s : List ℕ) {place : ReaderPlace} → place.at ≡ 0 → {p : Progress} → p ≡ nothing_read
    → Reached s place p 1
reached-front s e q =
    record {
      inside = omega arith;
      numbered = (omega arith, omega arith);
      grazing = rw q (omega arith);
      yard = rw q (omega arith);
      hours = rw q (omega arith);
      reads = rw (e, q);
    }

module _ (s : List ℕ) (short : length s ≤ log_most) (place : ReaderPlace) (p : Progress) (n : ℕ)
    (x : Reached s place p n) where
  pub reached-roomy : Roomy p.tally
  reached-roomy =
      record {
        grazing = omega (arith, x.grazing, x.inside, x.numbered);
        yard = omega (arith, x.yard, x.inside, x.numbered);
        hours = omega (arith, x.hours, x.inside, x.numbered);
      }

module _ (s : List ℕ) (place : ReaderPlace) (p : Progress) (n : ℕ) (x : Reached s place p n) {o : Step}
    (w : o ≡ step_of s place.at) where
  abbrev X : LogAnswer
  X = read_from 1 nothing_read (reading_of s)

  step_is : {u : Step} → o ≡ u → Says s place.at u
  step_is z = rw (sym w ∙ z) at (says s place.at)

  pub log-ends : o ≡ End → {r : LogAnswer} → r ≡ finished p → r ≡ X
  unfolding read_from
  log-ends z {r} q = go (step_is z)
    where
      go : Says s place.at End → r ≡ X
      go (Says.ended l) = q ∙ rw (end_read s place.at l, read_from) at x.reads

  pub log-broken : o ≡ Broken → refuse RecordBroken n ≡ X
  unfolding read_from
  log-broken z = go (step_is z)
    where
      go : Says s place.at Broken → refuse RecordBroken n ≡ X
      go (Says.broken b a e) = rw (e, read_from) at x.reads

  module _ {f : Fields} {next : ReaderPlace} (z : o ≡ Record f next) where
    pub record_less : length s - next.at < length s - place.at
    record_less = let r = next-reads s place.at (sym w ∙ z) in omega (arith, r.past, r.fits)

    module _ {y : Result Day LogRefusal} (qy : y ≡ day_of (parts_at s f)) {t : Result Progress LogRefusal}
        (qt : t ≡ taken_by p y) where
      -- what is read from here on, by what the record does
      abbrev going : Result Progress LogRefusal → LogAnswer
      going (Ok q) = on_from s next (n + 1) q
      going (Err refusal) = refuse refusal n

      goes : {u : Result Progress LogRefusal} → t ≡ u → going u ≡ X
      unfolding read_from
      goes {u} e =
          let r = next-reads s place.at (sym w ∙ z) in
          let v : taken_by p (day_of (parts_of r.contents)) ≡ u = rw r.holds at (rw qy at (sym qt)) ∙ e in
          by u v (rw (r.reads, read_from) at x.reads)
        where
          by : (u : Result Progress LogRefusal) {k : Result Progress LogRefusal} → k ≡ u
              → elim k [ Ok q ↦ on_from s next (n + 1) q | Err refusal ↦ refuse refusal n ] ≡ X → going u ≡ X
          by (Ok q) e h = rw e at h
          by (Err refusal) e h = rw e at h

      pub log-wrong : {refusal : LogRefusal} → t ≡ Err refusal → refuse refusal n ≡ X
      log-wrong e = goes e

      pub log-further : {q : Progress} → t ≡ Ok q → Reached s next q (n + 1)
      log-further {q} e = go y refl
        where
          r : ReadAs s place.at f next
          r = next-reads s place.at (sym w ∙ z)

          more : (d : Day) → y ≡ Ok d → q ≡ progress (due_after d.date) (with_day p.tally d)
              → Reached s next q (n + 1)
          more d h k =
              let g = grown p.tally d in
              let m = day-small (parts_at s f) d (sym qy ∙ h) in
              record {
                inside = r.fits;
                numbered = (omega arith, omega (arith, x.numbered, r.past));
                grazing = rw k (omega (arith, g.grazing, x.grazing));
                yard = rw k (omega (arith, g.yard, x.yard));
                hours = rw k (omega (arith, g.hours, x.hours, m));
                reads = goes e;
              }

          due : (d : Day) (b : Bool) → y ≡ Ok d
              → pick b (Ok (progress (due_after d.date) (with_day p.tally d))) (Err WrongDate) ≡ Ok q
              → Reached s next q (n + 1)
          due d true h k = more d h (cc)
          due d false h k = clash cc

          go : (u : Result Day LogRefusal) → y ≡ u → Reached s next q (n + 1)
          go (Ok d) h = due d (is_due p.due d.date) h (ap (taken_by p) (sym h) ∙ sym qt ∙ e)
          go (Err refusal) h = let k : Err refusal ≡ Ok q = ap (taken_by p) (sym h) ∙ sym qt ∙ e in
              clash cc

pub ruleset log_steps = (reached-front, reached-roomy, log-ends, log-broken, record_less, log-wrong, log-further)
