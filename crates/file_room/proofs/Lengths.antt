-- 02, W5: "Show also that 64 herds of 01's kinds never write more than 65,536 bytes." The most that a herd of each kind
-- is written as, a herd of cattle's with a farm that attains it, and 64 herds of any kinds. Assumes nothing.
use Prim.Native.Nat.{ℕ, zero, suc, ◌+◌, ◌-◌, ◌*◌, ◌/◌, ◌%◌, ◌≤◌}
use mathlib.Core.Path.{◌≡◌, refl}
use mathlib.Core.List.{List, [], ◌∷◌, ◌++◌, map}
use native.Mathlib.Nat.{le_trans, min-le_left}
use native.Mathlib.Omega.{arith}
use lib.Dec.{lit≤}
use lib.IntN.{negsuc}
use lib.ListN.{length, replicate, length-append, length-take}
use Rattle.base.specs.Each.{Each, none, more}
use Rattle.base.specs.Part.{same_bytes}
use Rattle.base.specs.Text.{bytes}
use Rattle.decimal.specs.Writing.{width, whole_of}
use Rattle.kilogram_text.specs.Kilograms.{sign}
use Rattle.shortest_numbers.specs.Shortest.{pointed, shortest}
use Rattle.word_texts.specs.Words.{name_text}
use Rattle.inputs.specs.declared.Kind.{Kind}
use Rattle.inputs.specs.declared.Kind.TheVariants.{Roughage, Cattle, Pigs, DairyCow}
use Rattle.inputs.specs.Inputs.{Row, rows_of, kinds}
use Rattle.farm.specs.declared.Given.TheVariants.{Value, Signed}
use Rattle.farm.specs.declared.Slot.{Slot}
use Rattle.farm.specs.declared.Herd.{Herd}
use Rattle.farm.specs.declared.Farm.{Farm}
use Rattle.farm.specs.Limits.{herds_most}
use Rattle.farm.specs.Herds.{no_herd}
use Rattle.farm.specs.Labels.{byte_ok, text, label_ok, same_label, label_of}
use Rattle.farm.specs.Answers.{Accepted}
use Rattle.fits.specs.Fits.{unfit}
use Rattle.herd_tests.specs.Tests.{lacks}
use Rattle.checks.specs.Checks.{herds_of, check_herd, check_farm}
use Rattle.checks.specs.Accepts.{Passes, GoodHerd}
use Rattle.checks.proofs.Accepts.{accepted-herd, accepted-farm}
use Rattle.line_parts.specs.Bounds.{longest_field}
use Rattle.line_parts.specs.Fields.{has_comma, label_field, each}
use Rattle.line_parts.proofs.Lengths.{sum_of, label-short, field-length}
use Rattle.value_texts.specs.Values.{number_text, signed_text, value_text}
use Rattle.file_text.specs.Files.{input_text, record_text, inputs_text, herd_file, file_of}
use Rattle.file_text.proofs.Parts.{record_length}
use Rattle.file_room.proofs.ValueLengths.{value_most, value-most}

-- ---- a herd

-- the label's field, module and name of the input, the value, two commas and CRLF
abbrev record_most : Row → ℕ
record_most row = longest_field + length (input_text row) + value_most row.form + 4

abbrev pub herd_most : Kind → ℕ
herd_most k = sum_of record_most (rows_of k)

-- in bytes, kind by kind
pub most-of-kinds : map herd_most kinds ≡ 591 ∷ 759 ∷ 727 ∷ 735 ∷ []
unfolding input_text width
most-of-kinds = refl

abbrev pub longest : ℕ
longest = 759

most-of-all : (k : Kind) → herd_most k ≤ longest
unfolding input_text width
most-of-all Roughage = lit≤ tt
most-of-all Cattle = lit≤ tt
most-of-all Pigs = lit≤ tt
most-of-all DairyCow = lit≤ tt

record_most_lem : (label : List ℕ) → length (label_field label) ≤ longest_field → (row : Row) (value : List ℕ)
    → length value ≤ value_most row.form → length (record_text label row value) ≤ record_most row
record_most_lem label l row value v = omega (arith, record_length label row value, l, v)

inputs-most : (label : List ℕ) → length (label_field label) ≤ longest_field → {rows : List Row} {slots : List Slot}
    → Passes rows slots → length (inputs_text label rows slots) ≤ sum_of record_most rows
unfolding inputs_text
inputs-most label l Passes.none = omega arith
inputs-most label l (Passes.next {row} {rows} {s} {slots} m f p) =
    let value = value_text row.form s.given in
    omega (
      arith,
      record_most_lem label l row value (value-most row.form s.given f),
      inputs-most label l p,
      length-append (record_text label row value) (inputs_text label rows slots),
    )

-- A herd that the checks accept is written as no more bytes than its kind's most.
pub herd-most : (h : Herd) → GoodHerd h → length (herd_file h) ≤ herd_most h.kind
unfolding herd_file
herd-most h g =
    inputs-most (text h.label)
    (omega (arith, field-length (text h.label), label-short h.label g.label)) g.inputs

-- and so as no more than the longest of any kind
pub herd-fits : (h : Herd) → check_herd h ≡ Accepted → length (herd_file h) ≤ longest
herd-fits h e = le_trans (herd-most h (accepted-herd h e)) (most-of-all h.kind)

-- ---- a farm

herds-most : {hs : List Herd} → Each GoodHerd hs → length (file_of hs) ≤ length hs * longest
unfolding file_of
herds-most none = omega arith
herds-most (more {a = h} {l = hs} g gs) =
    omega (
      arith,
      herd-most h g,
      most-of-all h.kind,
      herds-most gs,
      length-append (herd_file h) (each herd_file hs),
    )

pub farm-most : (f : Farm) → check_farm f ≡ Accepted → length (file_of (herds_of f)) ≤ f.count * longest
farm-most f e =
    omega (
      arith,
      herds-most (accepted-farm f e).herds,
      length-take f.count f.herds,
      min-le_left f.count (length f.herds),
    )

-- "64 herds of 01's kinds never write more than 65,536 bytes": of any kinds
pub herds_64 : (f : Farm) → check_farm f ≡ Accepted → f.count ≤ 64 → length (file_of (herds_of f)) ≤ 65536
herds_64 f e n = omega (arith, farm-most f e, n)

-- ---- a farm that attains it: cattle with a label of 16 bytes and a comma, and the longest value of each input

abbrev slot : ℕ → Slot
slot v = record { given = Value v }

abbrev long_herd : ℕ → Herd
long_herd i =
    record {
      label = label_of (bytes "Herd, number, " ++ (48 + i / 10) ∷ (48 + i % 10) ∷ []);
      kind = Cattle;
      slots =
          slot 10000 ∷ slot 199999 ∷ slot 9999 ∷ slot 365 ∷ slot 3 ∷ slot 3 ∷ record { given = Signed (negsuc 99) }
          ∷ slot 365 ∷ slot 239 ∷ [];
    }

abbrev long_herds : ℕ → ℕ → List Herd
long_herds i zero = []
long_herds i (suc k) = long_herd i ∷ long_herds (suc i) k

long-herd : (i : ℕ) → length (herd_file (long_herd i)) ≡ longest
unfolding herd_file inputs_text record_text input_text value_text number_text signed_text name_text sign shortest
    pointed
    whole_of width label_of label_field has_comma
long-herd i = refl

long-herds : (i k : ℕ) → length (file_of (long_herds i k)) ≡ k * longest
unfolding file_of
long-herds i zero = refl
long-herds i (suc k) =
    omega (
      arith,
      long-herd i,
      long-herds (suc i) k,
      length-append (herd_file (long_herd i)) (each herd_file (long_herds (suc i) k)),
    )

abbrev pub long_farm : Farm
long_farm = record { herds = long_herds 0 64 ++ replicate (herds_most - 64) no_herd; count = 64 }

long-accepted : check_farm long_farm ≡ Accepted
unfolding check_farm label_ok same_label same_bytes byte_ok lacks unfit label_of
long-accepted = refl

pub most_attained : (check_farm long_farm ≡ Accepted) × (length (file_of (herds_of long_farm)) ≡ 48576)
most_attained = (long-accepted, long-herds 0 64)
