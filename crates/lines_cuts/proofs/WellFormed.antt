-- A herd's cuts are RFC 4180 records of five fields, each ended by CRLF: those of specs/Records.antt. Assumes nothing.
use Prim.Native.Nat.{ℕ}
use Prim.Native.String.{String}
use mathlib.Core.Path.{◌≡◌, refl}
use mathlib.Core.Bool.{Bool, true, false, ◌&&◌}
use mathlib.Core.List.{List, [], ◌∷◌, ◌++◌, map, append_assoc}
use lib.ListN.{get_or}
use Rattle.base.specs.Pick.{pick}
use Rattle.base.specs.Runs.{all}
use Rattle.base.specs.Text.{bytes}
use Rattle.base.proofs.Holds.{both_true}
use Rattle.grammar.specs.Grammar.{Plain, FieldOf, RecordOf}
use Rattle.record_lines.specs.Records.{RecordsOf}
use Rattle.record_lines.proofs.Plain.{all_past, past-plain, plain-append, plain-whole}
use Rattle.record_lines.proofs.Records.{no-records, line, both}
use Rattle.inputs.specs.declared.Kind.{Kind}
use Rattle.farm.specs.declared.Herd.{Herd}
use Rattle.farm.specs.Labels.{text, label_ok}
use Rattle.typed_inputs.specs.Typed.{typed_of}
use Rattle.line_parts.specs.Fields.{label_field, each}
use Rattle.line_parts.proofs.Records.{good-bytes, label-field, plain-path}
use Rattle.cuts.specs.declared.Cuts.{Cuts}
use Rattle.cuts.specs.Names.{Row, rows, texts, cut_number}
use Rattle.cuts.specs.Cuts.{cut_off, divisor_of, is_made, with_first, passing}
use Rattle.cuts.specs.Herd.{cuts_of}
use Rattle.lines_cuts.specs.Lines.{numbers_of, cut_line, module_of, cut_record, cut_lines, herd_cut_lines}
use Rattle.lines_cuts.specs.Records.{cut_fields, herd_cut_records}

-- the section of a name and the name itself need no quotes
abbrev plain_section : String → Bool
plain_section t = all_past (bytes (get_or (map (λ (r : Row). r.section) rows) (cut_number t) ""))

abbrev plain_name : String → Bool
plain_name t = plain_section t && all_past (bytes t)

names-plain : all plain_name texts ≡ true
names-plain = refl

module _ (label : List ℕ) (l : FieldOf label (label_field label)) (k : Kind) (c : Cuts) where
  plain_module : (t : String) → plain_section t ≡ true → Plain (module_of k t)
  plain_module t e = plain-append (plain-append (plain-path k) (past-plain (bytes "::") refl)) (past-plain _ e)

  cut_line_lem : (t : String) → plain_name t ≡ true
      → RecordsOf 5 (cut_fields label k c t ∷ [])
      (cut_line label (module_of k t) (bytes t) (cut_off t c) (divisor_of t c))
  unfolding cut_line numbers_of
  cut_line_lem t e =
      let h = both_true (plain_section t) (all_past (bytes t)) e in
      line
      (RecordOf.more l
      (RecordOf.more (FieldOf.plain (plain_module t h.0))
      (RecordOf.more (FieldOf.plain (past-plain (bytes t) h.1))
      (RecordOf.more (FieldOf.plain (plain-whole (cut_off t c)))
      (RecordOf.last (FieldOf.plain (plain-whole (divisor_of t c)))))))) refl
      (simp append_assoc)

  cut-lines : (ts : List String) → all plain_name ts ≡ true
      → RecordsOf 5 (map (cut_fields label k c) (passing (is_made c) ts)) (each (cut_record label k c) ts)
  cut-lines [] e = no-records
  cut-lines (t ∷ ts) e =
      let h = both_true (plain_name t) (all plain_name ts) e in
      go (is_made c t) (cut_line_lem t h.0) (cut-lines ts h.1)
    where
      go : (made : Bool) {text others : List ℕ} → RecordsOf 5 (cut_fields label k c t ∷ []) text
          → RecordsOf 5 (map (cut_fields label k c) (passing (is_made c) ts)) others
          → RecordsOf 5 (map (cut_fields label k c) (with_first made t (passing (is_made c) ts)))
          (pick made text [] ++ others)
      go true a b = both a b
      go false a b = b

pub cuts-read : (h : Herd) → label_ok h.label ≡ true → RecordsOf 5 (herd_cut_records h) (herd_cut_lines h)
unfolding cut_lines
cuts-read h ok =
    let label = text h.label in
    cut-lines label (label-field label (good-bytes h.label ok)) h.kind (cuts_of (typed_of h)) texts names-plain
