-- The line of an accepted herd's reason has its room: its days are days of a year, its shares are tenths of a few.
-- Assumes nothing.
use Prim.Native.Nat.{ℕ, ◌+◌, ◌-◌, ◌*◌, ◌/◌, ◌%◌, ◌^◌, ◌≤◌, ◌<◌}
use mathlib.Core.Path.{◌≡◌, refl}
use mathlib.Core.Bool.{Bool, true, false}
use mathlib.Core.List.{List, ◌++◌}
use native.Mathlib.Omega.{arith}
use lib.Dec.{ltb}
use lib.ListN.{length, length-append}
use Rattle.base.specs.Pick.{pick}
use Rattle.base.specs.Text.{bytes}
use Rattle.decimal.specs.Rooms.{digits_most}
use Rattle.decimal.specs.Writing.{whole_of}
use Rattle.decimal.proofs.Widths.{whole-text}
use Rattle.farm.specs.declared.Herd.{Herd}
use Rattle.farm.specs.Labels.{text}
use Rattle.farm.specs.Answers.{Accepted}
use Rattle.checks.specs.Checks.{check_herd}
use Rattle.checks.proofs.Accepts.{accepted-herd}
use Rattle.amounts.specs.Units.{year}
use Rattle.kinds.specs.declared.ExerciseYard.{ExerciseYard}
use Rattle.kinds.specs.declared.ExerciseYard.TheVariants as yards
use Rattle.kinds.specs.declared.Outdoor.{Outdoor}
use Rattle.kinds.specs.declared.Inputs.{Inputs}
use Rattle.kinds.specs.declared.Inputs.TheVariants as kinds
use Rattle.kinds.specs.Sound.{SoundOutdoor, Sound, roughage, cattle, pigs}
use Rattle.yard.specs.Yard.{days_with_grazing_and_yard, share_excretion}
use Rattle.typed_inputs.specs.Typed.{typed_of}
use Rattle.typed_inputs.proofs.Sound.{typed_sound}
use Rattle.reasons.specs.declared.Reason.{Reason}
use Rattle.reasons.specs.declared.Reason.TheVariants.{NoSuchDays, NotAvailable, AsChosen, Lowered}
use Rattle.reasons.specs.declared.Why.{Why}
use Rattle.reasons.specs.Reasons.{share_from, chosen_share, why_of, told_of}
use Rattle.line_parts.specs.Bounds.{longest_label}
use Rattle.line_parts.specs.Fields.{label_field}
use Rattle.line_parts.proofs.Lengths.{label-short, field-length}
use Rattle.lines_reasons.specs.declared.Wording.{Wording}
use Rattle.lines_reasons.specs.declared.Wording.TheVariants.{Record, Sentence}
use Rattle.lines_reasons.specs.Lines.{tenths_of, reason_field, numbers_of, why_record, opening, middle, days_words}
use Rattle.lines_reasons.specs.Lines.{because, shares_words, why_sentence, why_text, told_text, herd_why}
use Rattle.lines_reasons.specs.Rooms.{longest_tenths, longest_reason, longest_because, longest_line}

-- ---- what a reason has is small

-- no more than this, which a number of 64 bits may be
abbrev small : ℕ
small = 2 * year

pub record Small (w : Why) : Type 0 where
  pub days : w.days ≤ small
  pub chosen : w.chosen ≤ small
  pub share : w.share ≤ small

share-small : (y : ExerciseYard) → share_excretion y ≤ small
share-small yards.NotAvailable = omega arith
share-small yards.NotSupplied = omega arith
share-small yards.Partly = omega arith
share-small yards.Exclusively = omega arith

follows-small : (r : Reason) (chosen : ℕ) → chosen ≤ small → share_from r chosen ≤ small
follows-small NoSuchDays chosen h = h
follows-small NotAvailable chosen h = omega arith
follows-small AsChosen chosen h = h
follows-small Lowered chosen h = omega arith

days-small : (o : Outdoor) → SoundOutdoor o → days_with_grazing_and_yard o ≤ small
unfolding days_with_grazing_and_yard
days-small o s = go (ltb year (o.grazing_days + o.yard_days))
  where
    go : (b : Bool) → pick b (o.grazing_days + o.yard_days - year) 0 ≤ small
    go true = omega (arith, s.days, s.yard)
    go false = omega arith

why-small : (o : Outdoor) → SoundOutdoor o → Small (why_of o)
why-small o s =
    record {
      days = days-small o s;
      chosen = share-small o.exercise_yard;
      share = follows-small (why_of o).reason (chosen_share o) (share-small o.exercise_yard);
    }

-- ---- so its texts are short

whole-short : (n : ℕ) → n ≤ small → length (whole_of n) ≤ digits_most
whole-short n h = whole-text n (omega (arith, h))

tenths-short : (n : ℕ) → n ≤ small → length (tenths_of n) ≤ longest_tenths
unfolding tenths_of
tenths-short n h =
    omega (
      arith,
      length-append (whole_of (n / 10) ++ bytes ".") (whole_of (n % 10)),
      length-append (whole_of (n / 10)) (bytes "."),
      whole-short (n / 10) (omega (arith, h)),
      whole-short (n % 10) (omega (arith, h)),
    )

reason-short : (r : Reason) → length (reason_field r) ≤ longest_reason
reason-short NoSuchDays = omega arith
reason-short NotAvailable = omega arith
reason-short AsChosen = omega arith
reason-short Lowered = omega arith

because-short : (r : Reason) → length (bytes (because r)) ≤ longest_because
because-short NoSuchDays = omega arith
because-short NotAvailable = omega arith
because-short AsChosen = omega arith
because-short Lowered = omega arith

module _ (label : List ℕ) (short : length label ≤ longest_label) (w : Why) (s : Small w) where
  record_short : length (why_record label w) ≤ longest_line
  unfolding why_record numbers_of
  record_short =
      let l = label_field label in
      let r = reason_field w.reason in
      let d = whole_of w.days in
      let t = tenths_of w.share in
      omega (
        arith,
        length-append (l ++ r) (d ++ bytes "," ++ t ++ bytes "\r\n"),
        length-append l r,
        length-append (d ++ bytes "," ++ t) (bytes "\r\n"),
        length-append (d ++ bytes ",") t,
        length-append d (bytes ","),
        field-length label,
        short,
        reason-short w.reason,
        whole-short w.days s.days,
        tenths-short w.share s.share,
      )

  sentence_short : length (why_sentence label w) ≤ longest_line
  unfolding why_sentence days_words shares_words
  sentence_short =
      let l = label_field label in
      let d = whole_of w.days in
      let t = tenths_of w.share in
      let b = bytes (because w.reason) in
      let c = tenths_of w.chosen in
      let words = bytes opening ++ d ++ bytes middle in
      let shares = t ++ b ++ c ++ bytes ".\r\n" in
      omega (
        arith,
        length-append (l ++ words) shares,
        length-append l words,
        length-append (bytes opening ++ d) (bytes middle),
        length-append (bytes opening) d,
        length-append (t ++ b ++ c) (bytes ".\r\n"),
        length-append (t ++ b) c,
        length-append t b,
        field-length label,
        short,
        whole-short w.days s.days,
        tenths-short w.share s.share,
        because-short w.reason,
        tenths-short w.chosen s.chosen,
      )

  why-short : (v : Wording) → length (why_text v label w) ≤ longest_line
  why-short Record = record_short
  why-short Sentence = sentence_short

told-short : (v : Wording) (label : List ℕ) → length label ≤ longest_label → (i : Inputs) → Sound i
    → length (told_text v label (told_of i)) ≤ longest_line
unfolding told_of
told-short v label short (kinds.Roughage r) (roughage s) = omega arith
told-short v label short (kinds.Cattle c) (cattle s) =
    why-short label short (why_of c.outdoor) (why-small c.outdoor s.outdoor) v
told-short v label short (kinds.Pigs p) (pigs s) = omega arith

pub why-fits : (v : Wording) (h : Herd) → check_herd h ≡ Accepted → length (herd_why v h) ≤ longest_line
why-fits v h e =
    told-short v (text h.label) (label-short h.label (accepted-herd h e).label) (typed_of h) (typed_sound h e)
