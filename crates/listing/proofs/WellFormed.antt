-- A listing is RFC 4180 records, each ended by CRLF: those of specs/Records.antt. Assumes nothing.
use Prim.Native.Nat.{ℕ, ◌/◌}
use Prim.Native.String.{String}
use mathlib.Core.Path.{◌≡◌, refl}
use mathlib.Core.Bool.{Bool, true, ◌&&◌}
use mathlib.Core.List.{List, [], ◌∷◌, append_assoc}
use lib.IntN.{ℤ, pos, negsuc, nat_abs}
use Rattle.base.specs.Runs.{all}
use Rattle.base.specs.Text.{bytes}
use Rattle.base.proofs.Holds.{both_true}
use Rattle.grammar.specs.Grammar.{Plain, FieldOf, RecordOf}
use Rattle.kilogram_text.specs.Kilograms.{thousandths_of, sign, kilograms_of}
use Rattle.inputs.specs.declared.Kind.{Kind}
use Rattle.inputs.specs.declared.Kind.TheVariants.{Roughage, Cattle, Pigs, DairyCow}
use Rattle.farm.specs.declared.Label.{Label}
use Rattle.farm.specs.Labels.{text, label_ok}
use Rattle.outputs.specs.declared.Figures.{Figures}
use Rattle.outputs.specs.declared.Totals.{Totals}
use Rattle.outputs.specs.Names.{section_of, total_texts}
use Rattle.outputs.specs.Grams.{figure, total}
use Rattle.line_parts.specs.Fields.{label_field}
use Rattle.line_parts.proofs.Records.{good-bytes, label-field, plain-path, lines}
use Rattle.record_lines.specs.Records.{RecordsOf}
use Rattle.record_lines.proofs.Plain.{all_past, past-plain, plain-append, plain-lowest, plain-whole}
use Rattle.record_lines.proofs.Records as records
use Rattle.listing.specs.HerdLines.{lines_of}
use Rattle.listing.specs.Listing.{line_of, module_of, herd_line, herd_lines, herd_listing}
use Rattle.listing.specs.Listing.{total_path, total_line, totals_listing}
use Rattle.listing.specs.Records.{fields_of, herd_records, total_records}

-- ---- fields that need no quotes

plain-sign : (g : ℤ) → Plain (sign g)
unfolding sign
plain-sign (pos n) = Plain.none
plain-sign (negsuc n) = past-plain (bytes "-") refl

plain-kilograms : (g : ℤ) → Plain (kilograms_of g)
unfolding kilograms_of thousandths_of
plain-kilograms g =
    plain-append (plain-sign g)
    (plain-append (plain-append (plain-whole (nat_abs g / 1000)) (past-plain (bytes ".") refl))
    (plain-lowest 3 (nat_abs g)))

-- the section of a name and the name itself; every one that a kind lists, and every total, computed
abbrev plain_name : String → Bool
plain_name n = all_past (bytes (section_of n)) && all_past (bytes n)

names-plain : (k : Kind) → all plain_name (lines_of k) ≡ true
names-plain Roughage = refl
names-plain Cattle = refl
names-plain Pigs = refl
names-plain DairyCow = refl

totals-plain : all (λ (n : String). all_past (bytes n)) total_texts ≡ true
totals-plain = refl

-- ---- a line

line : (label path name : List ℕ) (g : ℤ) → FieldOf label (label_field label) → Plain path → Plain name
    → RecordsOf 4 (fields_of label path name g ∷ []) (line_of label path name g)
unfolding line_of
line label path name g l p n =
    records.line
    (RecordOf.more l
    (RecordOf.more (FieldOf.plain p)
    (RecordOf.more (FieldOf.plain n) (RecordOf.last (FieldOf.plain (plain-kilograms g)))))) refl (simp append_assoc)

-- ---- the listings

-- a herd's listing, of a good label
pub listing-reads : (l : Label) (k : Kind) (f : Figures) → label_ok l ≡ true
    → RecordsOf 4 (herd_records l k f) (herd_listing l k f)
unfolding herd_lines
listing-reads l k f ok =
    lines (λ (n : String). fields_of (text l) (module_of k n) (bytes n) (figure n f))
    (herd_line (text l) k f) plain_name
    (λ n e. let p = both_true (all_past (bytes (section_of n))) (all_past (bytes n)) e in
    line (text l) (module_of k n) (bytes n) (figure n f) (label-field (text l) (good-bytes l ok))
    (plain-append (plain-append (plain-path k) (past-plain (bytes "::") refl)) (past-plain _ p.0))
    (past-plain _ p.1))
    (lines_of k) (names-plain k)

-- the totals' listing
pub totals-read : (t : Totals) → RecordsOf 4 (total_records t) (totals_listing t)
unfolding totals_listing
totals-read t =
    lines (λ (n : String). fields_of [] (bytes total_path) (bytes n) (total n t)) (total_line t)
    (λ (n : String). all_past (bytes n))
    (λ n e. line [] (bytes total_path) (bytes n) (total n t) (label-field [] refl) (past-plain _ refl) (past-plain _ e))
    total_texts totals-plain
