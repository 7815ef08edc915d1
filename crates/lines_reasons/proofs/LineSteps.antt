-- A reason's line: what its parts are as the code writes them, and that its numbers are short. Assumes nothing.
use Rattle.std.specs.Prelude.{None, Some}
use Prim.Native.Nat.{ℕ, ◌+◌, ◌/◌, ◌%◌, ◌≤◌}
use mathlib.Core.Path.{◌≡◌}
use mathlib.Core.List.{List, [], ◌∷◌}
use native.Mathlib.Omega.{arith}
use Rattle.base.specs.Text.{bytes}
use Rattle.base.specs.Wrote.{Wrote}
use Rattle.base.proofs.Writes.{wrote-append, wrote_nothing}
use Rattle.decimal.specs.Writing.{whole_of}
use Rattle.line_parts.specs.Fields.{label_field}
use Rattle.reasons.specs.declared.Why.{Why}
use Rattle.reasons.specs.Reasons.{YardReason}
use Rattle.lines_reasons.specs.declared.Wording.{Wording}
use Rattle.lines_reasons.specs.declared.Wording.TheVariants.{Record, Sentence}
use Rattle.lines_reasons.specs.Lines.{tenths_of, reason_field, numbers_of, why_record, opening, middle, because}
use Rattle.lines_reasons.specs.Lines.{days_words, shares_words, why_sentence, why_text, told_text}
use Rattle.lines_reasons.specs.Rooms.{longest_line}

-- ---- part after part

module _ (old new : List ℕ) (at r : ℕ) where
  pub tenths-put : (n : ℕ) (a b : List ℕ) (p q : ℕ) → Wrote old at (whole_of (n / 10)) a p → Wrote a p (46 ∷ []) b q
      → Wrote b q (whole_of (n % 10)) new r → Wrote old at (tenths_of n) new r
  unfolding tenths_of
  tenths-put n a b p q x y z = wrote-append (wrote-append x y) z

  pub numbers-put : (days share : ℕ) (a b c : List ℕ) (p q s : ℕ) → Wrote old at (whole_of days) a p
      → Wrote a p (44 ∷ []) b q → Wrote b q (tenths_of share) c s → Wrote c s (13 ∷ 10 ∷ []) new r
      → Wrote old at (numbers_of days share) new r
  unfolding numbers_of
  numbers-put days share a b c p q s x y z t = wrote-append (wrote-append (wrote-append x y) z) t

  pub record_put : (label : List ℕ) (w : Why) (a b : List ℕ) (p q : ℕ) → Wrote old at (label_field label) a p
      → Wrote a p (reason_field w.reason) b q → Wrote b q (numbers_of w.days w.share) new r
      → Wrote old at (why_record label w) new r
  unfolding why_record
  record_put label w a b p q x y z = wrote-append (wrote-append x y) z

  pub days-put : (days : ℕ) (a b : List ℕ) (p q : ℕ) → Wrote old at (bytes opening) a p → Wrote a p (whole_of days) b q
      → Wrote b q (bytes middle) new r → Wrote old at (days_words days) new r
  unfolding days_words
  days-put days a b p q x y z = wrote-append (wrote-append x y) z

  pub shares-put : (w : Why) (a b c : List ℕ) (p q s : ℕ) → Wrote old at (tenths_of w.share) a p
      → Wrote a p (bytes (because w.reason)) b q → Wrote b q (tenths_of w.chosen) c s
      → Wrote c s (bytes ".\r\n") new r → Wrote old at (shares_words w) new r
  unfolding shares_words
  shares-put w a b c p q s x y z t = wrote-append (wrote-append (wrote-append x y) z) t

  pub sentence_put : (label : List ℕ) (w : Why) (a b : List ℕ) (p q : ℕ) → Wrote old at (label_field label) a p
      → Wrote a p (days_words w.days) b q → Wrote b q (shares_words w) new r → Wrote old at (why_sentence label w) new r
  unfolding why_sentence
  sentence_put label w a b p q x y z = wrote-append (wrote-append x y) z

pub ruleset part_steps = (tenths-put, numbers-put, record_put, days-put, shares-put, sentence_put)

-- ---- by the wording, and by what is told

module _ (old new label : List ℕ) (at end : ℕ) where
  pub as_record : (v : Wording) (w : Why) → v ≡ Record → Wrote old at (why_record label w) new end
      → Wrote old at (why_text v label w) new end
  as_record v w e l = rw e l

  pub as_sentence : (v : Wording) (w : Why) → v ≡ Sentence → Wrote old at (why_sentence label w) new end
      → Wrote old at (why_text v label w) new end
  as_sentence v w e l = rw e l

  pub as-told : (v : Wording) (t : YardReason) (w : Why) → t ≡ Some w → Wrote old at (why_text v label w) new end
      → Wrote old at (told_text v label t) new end
  as-told v t w e l = rw e l

pub as-nothing : (old label : List ℕ) (at : ℕ) (v : Wording) (t : YardReason) → t ≡ None
    → Wrote old at (told_text v label t) old at × (at ≤ at + longest_line)
as-nothing old label at v t e = rw e (wrote_nothing old at, omega arith)

pub ruleset wording_steps = (as_record, as_sentence, as-told, as-nothing)
