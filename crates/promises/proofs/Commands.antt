-- What the commands print, whatever view they ask for: what the view lists, or the line of the first refusal, or that
-- of refusal 1 where the view is a file that would be too long; and these are RFC 4180 records, each ended by CRLF.
-- Assumes nothing.
use Prim.Native.Nat.{ℕ, ◌≤◌, ◌<◌}
use mathlib.Core.Path.{◌≡◌}
use mathlib.Core.List.{List, [], ◌∷◌, map}
use native.Mathlib.Omega.{arith}
use lib.ListN.{length}
use Rattle.base.specs.Each.{Each}
use Rattle.base.proofs.Clash.{clash}
use Rattle.grammar.specs.Grammar.{FileOf}
use Rattle.record_lines.specs.Records.{RecordsOf, refusal_fields}
use Rattle.record_lines.proofs.Records.{both, are-a-file, refusal-read}
use Rattle.farm.specs.declared.Herd.{Herd}
use Rattle.farm.specs.declared.Farm.{Farm}
use Rattle.farm.specs.declared.Refusal.{Refusal}
use Rattle.farm.specs.declared.Refusal.TheVariants.{FileTooLong}
use Rattle.farm.specs.Refusals.{number}
use Rattle.checks.specs.Accepts.{GoodHerd}
use Rattle.checks.proofs.Accepts.{accepted-farm}
use Rattle.limits.specs.declared.Source.{Source}
use Rattle.limits.specs.declared.Source.TheVariants.{StandardInput, Cooperative}
use Rattle.rules_theorems.specs.Rules.{allowed, farm_of, KeepsRules}
use Rattle.rules_theorems.specs.Refusals.{First}
use Rattle.rules_theorems.proofs.Farms.{herds-of}
use Rattle.rules_theorems.proofs.Accepts.{accepts-exactly}
use Rattle.rules_theorems.proofs.Refuses.{first-refusal}
use Rattle.rules_theorems.proofs.Passing.{accepted-passes}
use Rattle.outputs.specs.Grams.{totals_of}
use Rattle.model.specs.Answers.{herd_figures}
use Rattle.refusal_line.specs.Lines.{refusal_line}
use Rattle.line_parts.proofs.Records.{records}
use Rattle.listing.proofs.WellFormed.{listing-reads, totals-read}
use Rattle.lines_notes.proofs.WellFormed.{notes-read}
use Rattle.lines_cuts.proofs.WellFormed.{cuts-read}
use Rattle.lines_reasons.proofs.WellFormed.{reason-reads}
use Rattle.file_text.specs.Files.{file_of}
use Rattle.file_room.proofs.Lengths.{herds_64}
use Rattle.views.specs.declared.View.{View}
use Rattle.views.specs.declared.View.TheVariants.{Figures, Notes, Cuts, Reasons, Sentences, File}
use Rattle.views.specs.Views.{herd_text, viewed}
use Rattle.views.specs.Program.{output_of}
use Rattle.contracts.specs.Files.{view_text, InLimit}
use Rattle.contracts.proofs.Files.{in_limit, beyond, read_as, printed_view}
use Rattle.promises.specs.Records.{Recorded, figures, notes, cuts, reasons, view_of, field_count}
use Rattle.promises.specs.Records.{herd_records, records_of}

-- a file that keeps the rules: what the view lists of its farm, within the view's limit; any other: the line of its
-- first refusal
module _ (source : Source) (v : View) (s : List ℕ) where
  pub prints-listed : (f : Farm) → KeepsRules (allowed source) s f → InLimit v (viewed v f)
      → output_of source v s ≡ viewed v f
  unfolding output_of
  prints-listed f keeps h = rw ((accepts-exactly source s f).1 keeps, in_limit v f h)

  pub prints-refused : (n : ℕ) (refusal : Refusal) → First (allowed source) s n refusal
      → output_of source v s ≡ refusal_line (number refusal) n
  unfolding output_of
  prints-refused n refusal first = rw ((first-refusal source s n refusal).1 first)

-- 02, W12, of W5's writer: "may now pass the new limit and then gives 1 with record 0"
pub prints_too_long : (source : Source) (s : List ℕ) (f : Farm) → KeepsRules (allowed source) s f
    → (allowed Cooperative).bytes < length (viewed File f)
    → output_of source File s ≡ refusal_line (number FileTooLong) 0
unfolding output_of
prints_too_long source s f keeps h = rw ((accepts-exactly source s f).1 keeps, beyond f h)

-- from standard input none is
input_in_limit : (s : List ℕ) (f : Farm) → KeepsRules (allowed StandardInput) s f → (v : View) → InLimit v (viewed v f)
unfolding allowed viewed herd_text file_of
input_in_limit s f keeps Figures e = clash cc
input_in_limit s f keeps Notes e = clash cc
input_in_limit s f keeps Cuts e = clash cc
input_in_limit s f keeps Reasons e = clash cc
input_in_limit s f keeps Sentences e = clash cc
input_in_limit s f keeps File e =
    let passes = accepted-passes StandardInput s f ((accepts-exactly StandardInput s f).1 keeps) in
    let few : f.count ≤ 64 = rw keeps.says.is keeps.says.most in
    omega (arith, herds_64 f passes few)

pub prints-input : (v : View) (s : List ℕ) (f : Farm) → KeepsRules (allowed StandardInput) s f
    → output_of StandardInput v s ≡ viewed v f
prints-input v s f keeps = prints-listed StandardInput v s f keeps (input_in_limit s f keeps v)

-- ---- as records

unlimited : (t : Recorded) (text : List ℕ) → InLimit (view_of t) text
unlimited figures text e = clash cc
unlimited notes text e = clash cc
unlimited cuts text e = clash cc
unlimited reasons text e = clash cc

herd-reads : (t : Recorded) (h : Herd) → GoodHerd h
    → RecordsOf (field_count t) (herd_records t h) (herd_text (view_of t) h)
unfolding herd_text
herd-reads figures h good = listing-reads h.label h.kind (herd_figures h) good.label
herd-reads notes h good = notes-read h good.label
herd-reads cuts h good = cuts-read h good.label
herd-reads reasons h good = reason-reads h good.label

herds-read : (t : Recorded) {hs : List Herd} → Each GoodHerd hs
    → RecordsOf (field_count t) (records_of t hs) (view_text (view_of t) hs)
herds-read figures {hs} good =
    both (records (herd_records figures) (herd_text (view_of figures)) (herd-reads figures) good)
    (totals-read (totals_of (map herd_figures hs)))
herds-read notes good = records (herd_records notes) (herd_text (view_of notes)) (herd-reads notes) good
herds-read cuts good = records (herd_records cuts) (herd_text (view_of cuts)) (herd-reads cuts) good
herds-read reasons good = records (herd_records reasons) (herd_text (view_of reasons)) (herd-reads reasons) good

-- of every file that keeps the rules
pub prints-records : (source : Source) (t : Recorded) {s : List ℕ} {f : Farm} (k : KeepsRules (allowed source) s f)
    → RecordsOf (field_count t) (records_of t k.says.herds) (output_of source (view_of t) s)
prints-records source t {s} k =
    let hs = k.says.herds in
    let good = (accepted-farm (farm_of hs) (accepted-passes source s (farm_of hs) (read_as source k))).herds in
    rw (printed_view source k (view_of t) (unlimited t (view_text (view_of t) hs)))
    (herds-read t (rw (herds-of hs) at good))

-- so it is a file of RFC 4180, of these records
pub prints-a-file : (source : Source) (t : Recorded) {s : List ℕ} {f : Farm} (k : KeepsRules (allowed source) s f)
    → FileOf (records_of t k.says.herds) (output_of source (view_of t) s)
prints-a-file source t k = are-a-file (prints-records source t k)

-- of every other file
pub prints-a_record : (source : Source) (v : View) {s : List ℕ} {n : ℕ} {refusal : Refusal}
    → First (allowed source) s n refusal → RecordsOf 3 (refusal_fields (number refusal) n ∷ []) (output_of source v s)
prints-a_record source v {s} {n} {refusal} first =
    rw (prints-refused source v s n refusal first) (refusal-read (number refusal) n)
