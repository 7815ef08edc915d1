-- A herd's reason is an RFC 4180 record of four fields, ended by CRLF: that of specs/Records.antt. Assumes nothing.
use Rattle.std.specs.Prelude.{None, Some}
use Prim.Native.Nat.{ℕ, ◌/◌, ◌%◌}
use mathlib.Core.Path.{◌≡◌, refl}
use mathlib.Core.Bool.{true}
use mathlib.Core.List.{List, append_assoc}
use Rattle.base.specs.Text.{bytes}
use Rattle.grammar.specs.Grammar.{Plain, FieldOf, RecordOf}
use Rattle.record_lines.specs.Records.{RecordsOf}
use Rattle.record_lines.proofs.Plain.{past-plain, plain-append, plain-whole}
use Rattle.record_lines.proofs.Records.{no-records, line}
use Rattle.farm.specs.declared.Herd.{Herd}
use Rattle.farm.specs.Labels.{text, label_ok}
use Rattle.typed_inputs.specs.Typed.{typed_of}
use Rattle.line_parts.specs.Fields.{label_field}
use Rattle.line_parts.proofs.Records.{good-bytes, label-field}
use Rattle.reasons.specs.declared.Reason.{Reason}
use Rattle.reasons.specs.declared.Reason.TheVariants.{NoSuchDays, NotAvailable, AsChosen, Lowered}
use Rattle.reasons.specs.Reasons.{word, told_of, YardReason}
use Rattle.lines_reasons.specs.declared.Wording.TheVariants.{Record}
use Rattle.lines_reasons.specs.Lines.{tenths_of, numbers_of, why_record, told_text, herd_why}
use Rattle.lines_reasons.specs.Records.{told_records, herd_why_records}

plain_word : (r : Reason) → Plain (bytes (word r))
plain_word NoSuchDays = past-plain _ refl
plain_word NotAvailable = past-plain _ refl
plain_word AsChosen = past-plain _ refl
plain_word Lowered = past-plain _ refl

plain-tenths : (n : ℕ) → Plain (tenths_of n)
unfolding tenths_of
plain-tenths n = plain-append (plain-append (plain-whole (n / 10)) (past-plain (bytes ".") refl)) (plain-whole (n % 10))

told-read : (label : List ℕ) → FieldOf label (label_field label) → (t : YardReason)
    → RecordsOf 4 (told_records label t) (told_text Record label t)
unfolding why_record numbers_of
told-read label l (Some w) =
    line
    (RecordOf.more l
    (RecordOf.more (FieldOf.plain (plain_word w.reason))
    (RecordOf.more (FieldOf.plain (plain-whole w.days)) (RecordOf.last (FieldOf.plain (plain-tenths w.share))))))
    refl (simp append_assoc)
told-read label l None = no-records

pub reason-reads : (h : Herd) → label_ok h.label ≡ true → RecordsOf 4 (herd_why_records h) (herd_why Record h)
reason-reads h ok =
    told-read (text h.label) (label-field (text h.label) (good-bytes h.label ok)) (told_of (typed_of h))
