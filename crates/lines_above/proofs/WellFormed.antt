-- What is printed for yes and for no is an RFC 4180 record of two fields and CRLF. Assumes nothing.
use mathlib.Core.Path.{refl}
use mathlib.Core.List.{[], ◌∷◌, append_assoc}
use Rattle.base.specs.Text.{bytes}
use Rattle.grammar.specs.Grammar.{FieldOf, RecordOf}
use Rattle.record_lines.specs.Records.{RecordsOf}
use Rattle.record_lines.proofs.Plain.{past-plain, plain-whole}
use Rattle.record_lines.proofs.Records.{line}
use Rattle.above_line.specs.declared.Above.{Above}
use Rattle.above_line.specs.declared.Above.TheVariants.{Yes, No}
use Rattle.lines_above.specs.Lines.{above_line, above_fields}

pub above-read : (a : Above) → RecordsOf 2 (above_fields a ∷ []) (above_line a)
above-read (Yes count) =
    line
    (RecordOf.more (FieldOf.plain (past-plain (bytes "yes") refl)) (RecordOf.last (FieldOf.plain (plain-whole count))))
    refl (simp append_assoc)
above-read (No count) =
    line
    (RecordOf.more (FieldOf.plain (past-plain (bytes "no") refl)) (RecordOf.last (FieldOf.plain (plain-whole count))))
    refl (simp append_assoc)
