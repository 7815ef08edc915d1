-- The room for a view: it is enough for every view of every accepted farm, by how many herds it has, and not much
-- larger than it has to be, since as many herds of pigs as standard input may have, whose labels have to be quoted and
-- whose figures are large, come within a kilobyte of it. Assumes nothing.
use Prim.Native.Nat.{ℕ, zero, suc, ◌+◌, ◌*◌, ◌^◌, ◌/◌, ◌%◌, ◌≤◌}
use Prim.Native.String.{String}
use mathlib.Core.Path.{◌≡◌, refl, ap}
use mathlib.Core.Bool.{Bool, true, false}
use mathlib.Core.List.{List, [], ◌∷◌, ◌++◌, map}
use native.Mathlib.Nat.{le_trans, mul-le-mul_left, pow-suc, one-le-pow}
use native.Mathlib.Omega.{arith}
use borrow.Author.Tests.{ltb-true, ltb-false, leb-true}
use lib.Dec.{leb, ltb, leb→le}
use lib.ListN.{length, length-append}
use lib.IntN.{ℤ, pos, nat_abs}
use Rattle.base.specs.Pick.{pick}
use Rattle.base.specs.Text.{bytes}
use Rattle.base.specs.Part.{same_bytes}
use Rattle.base.proofs.Clash.{clash}
use Rattle.base.proofs.Each.{each_map}
use Rattle.base.specs.Refused.{refuse}
use Rattle.decimal.specs.Writing.{width, whole_of}
use Rattle.kilogram_text.specs.Kilograms.{kilograms_of}
use Rattle.decimal.proofs.Widths.{whole_length, width_small, width-step}
use Rattle.kilogram_text.proofs.Lengths.{thousandths-length, kilograms-length}
use Rattle.inputs.specs.declared.Kind.TheVariants.{Pigs}
use Rattle.farm.specs.declared.Given.TheVariants.{Value, Signed}
use Rattle.farm.specs.declared.Slot.{Slot}
use Rattle.farm.specs.declared.Herd.{Herd}
use Rattle.farm.specs.declared.Farm.{Farm}
use Rattle.farm.specs.declared.Refusal.TheVariants.{FileTooLong}
use Rattle.farm.specs.Herds.{no_slot}
use Rattle.farm.specs.Labels.{text, byte_ok, label_ok, same_label, label_of}
use Rattle.farm.specs.Answers.{Accepted}
use Rattle.herd_tests.specs.Tests.{lacks}
use Rattle.fits.specs.Fits.{unfit}
use Rattle.checks.specs.Checks.{herds_of, check_herd, check_farm}
use Rattle.checks.proofs.Accepts.{farm-each}
use Rattle.limits.specs.declared.Source.{Source}
use Rattle.limits.specs.declared.Source.TheVariants.{StandardInput}
use Rattle.limits.specs.declared.Limits.{Limits}
use Rattle.limits.specs.Limits.{input_herds, cooperative_bytes}
use Rattle.rules_theorems.specs.Rules.{allowed, farm_of, KeepsRules}
use Rattle.rules_theorems.proofs.Allowed.{as-allowed}
use Rattle.rules_theorems.proofs.Accepts.{accepts-exactly}
use Rattle.rules_theorems.proofs.Passing.{accepted-passes}
use Rattle.kinds.specs.Choices.{housing_at, scrubber_at, housing_floor_at, housing_air_at}
use Rattle.typed_inputs.specs.Typed.{typed_of, pigs_of}
use Rattle.outputs.specs.declared.Totals.{Totals}
use Rattle.outputs.specs.Names.{total_texts}
use Rattle.outputs.specs.Grams.{figure, total, by_number, farm_total, totals_of}
use Rattle.herd.specs.Herd.{figures_of}
use Rattle.model.specs.Answers.{herd_figures, farm_answer}
use Rattle.listing.specs.HerdLines.{lines_of}
use Rattle.line_parts.specs.Fields.{has_comma, label_field, each}
use Rattle.line_parts.proofs.Lengths.{sum_of}
use Rattle.listing.specs.Listing.{module_of, herd_line, herd_lines}
use Rattle.listing.specs.Listing.{total_path, total_line, totals_listing}
use Rattle.listing_room.proofs.Lengths.{line-length, each-fills}
use Rattle.listing_room.proofs.Rooms.{all_fit, herds-counted}
use Rattle.refusal_line.specs.Lines.{refusal_line}
use Rattle.refusal_line.specs.Rooms.{line_room}
use Rattle.file_text.specs.Files.{herd_file}
use Rattle.file_room.proofs.Lengths.{longest, herd-fits}
use Rattle.file_length.specs.Limit.{file_checked}
use Rattle.lines_figures.specs.Lines.{listing_of, farm_listing}
use Rattle.lines_figures.proofs.Fits.{farm-fits}
use Rattle.lines_notes.specs.Records.{herd_notes}
use Rattle.lines_notes.specs.Rooms.{longest_record}
use Rattle.lines_notes.proofs.Fits.{notes-fit}
use Rattle.lines_cuts.specs.Lines.{herd_cut_lines}
use Rattle.lines_cuts.specs.Rooms.{longest_cuts}
use Rattle.lines_cuts.proofs.Lengths.{cuts_fit}
use Rattle.lines_reasons.specs.declared.Wording.TheVariants.{Record, Sentence}
use Rattle.lines_reasons.specs.Lines.{herd_why}
use Rattle.lines_reasons.specs.Rooms.{longest_line}
use Rattle.lines_reasons.proofs.Fits.{why-fits}
use Rattle.views.specs.declared.View.{View}
use Rattle.views.specs.declared.View.TheVariants.{Figures, Notes, Cuts, Reasons, Sentences, File}
use Rattle.views.specs.Views.{herd_text, viewed, has_limit, view_checked}
use Rattle.views.specs.Rooms.{view_room, output_room}
use Rattle.views.specs.Program.{printed, output_of}
use Rattle.views.proofs.FileSteps.{room_of_lem}
use Rattle.views.proofs.OutputSteps.{line-within}
use Rattle.promises.proofs.Commands.{prints-listed}

-- ---- enough: for every view of an accepted farm

-- `of` lists at most k bytes of a herd
herds-fit : (of : Herd → List ℕ) (k : ℕ) → ((h : Herd) → check_herd h ≡ Accepted → length (of h) ≤ k)
    → (f : Farm) → check_farm f ≡ Accepted → length (each of (herds_of f)) ≤ k * f.count
herds-fit of k fit f e =
    le_trans (all_fit of k (each_map fit (farm-each f e))) (mul-le-mul_left k (herds-counted f))

pub view_fits : (v : View) (f : Farm) → check_farm f ≡ Accepted → length (viewed v f) ≤ view_room f.count
unfolding viewed herd_text
view_fits Figures f e = farm-fits f e
view_fits Notes f e = omega (arith, herds-fit herd_notes longest_record notes-fit f e)
view_fits Cuts f e = omega (arith, herds-fit herd_cut_lines longest_cuts cuts_fit f e)
view_fits Reasons f e = omega (arith, herds-fit (herd_why Record) longest_line (why-fits Record) f e)
view_fits Sentences f e = omega (arith, herds-fit (herd_why Sentence) longest_line (why-fits Sentence) f e)
view_fits File f e = omega (arith, herds-fit herd_file longest herd-fits f e)

-- and for the line of the refusal that a view gives
limited-fits : (v : View) (f : Farm) (room : ℕ) → length (viewed v f) ≤ room → line_room ≤ room
    → length (printed v (view_checked v f) f) ≤ room
unfolding view_checked file_checked refusal_line whole_of width
limited-fits v f room a b = go (has_limit v) (ltb cooperative_bytes (length (viewed v f)))
  where
    go : (t u : Bool) → length (printed v (pick t (pick u (refuse FileTooLong 0) Accepted) Accepted) f) ≤ room
    go true true = omega (arith, b)
    go true false = a
    go false u = a

-- and so of what a command prints for a file that keeps the rules
module _ (source : Source) (s : List ℕ) (f : Farm) (keeps : KeepsRules (allowed source) s f) where
  passes : check_farm f ≡ Accepted
  passes = accepted-passes source s f ((accepts-exactly source s f).1 keeps)

  few : f.count ≤ (allowed source).herds
  few = omega (arith, ap (λ (g : Farm). g.count) keeps.says.is, keeps.says.most)

  pub views_have_room : (v : View) → length (output_of source v s) ≤ output_room source
  unfolding output_of
  views_have_room v =
      let most = ap (λ (l : Limits). l.herds) (as-allowed source) in
      let fits = le_trans (view_fits v f passes) (room_of_lem source f.count (omega (arith, few, most))) in
      rw ((accepts-exactly source s f).1 keeps) (limited-fits v f (output_room source) fits (line-within source))

  pub notes_have_room : length (output_of source Notes s) ≤ longest_record * (allowed source).herds
  unfolding viewed herd_text
  notes_have_room =
      rw (prints-listed source Notes s f keeps (λ e. clash cc))
      (le_trans (herds-fit herd_notes longest_record notes-fit f passes) (mul-le-mul_left longest_record few))

-- ---- nearly used up, of standard input

abbrev slot : ℕ → Slot
slot v = record { given = Value v }

abbrev signed : ℕ → Slot
signed v = record { given = Signed (pos v) }

-- 10000 head of 200 kg, TAN 100 percent, on deep litter; no air scrubber, no mitigation option, free factor 0
abbrev herd : ℕ → Herd
herd i =
    record {
      label = label_of (bytes "Herd, number, " ++ (48 + i / 10) ∷ (48 + i % 10) ∷ []);
      kind = Pigs;
      slots =
          slot 10000 ∷ slot 200000 ∷ slot 10000 ∷ slot 3 ∷ slot 2 ∷ slot 0 ∷ slot 1 ∷ signed 0 ∷ no_slot ∷ [];
    }

abbrev herds_from : ℕ → ℕ → List Herd
herds_from i zero = []
herds_from i (suc k) = herd i ∷ herds_from (suc i) k

abbrev pub long_farm : Farm
long_farm = farm_of (herds_from 0 input_herds)

long-accepted : check_farm long_farm ≡ Accepted
unfolding check_farm label_ok same_label same_bytes byte_ok lacks unfit label_of
long-accepted = refl

-- ---- how long an amount is at least: its digits, up to nine, counted by comparing

abbrev digits_to : ℕ → ℕ → ℕ
digits_to zero n = 1
digits_to (suc k) n = pick (leb (10 ^ suc k) n) (suc (suc k)) (digits_to k n)

one-digit : (n : ℕ) → 1 ≤ width n
one-digit n = go (ltb n 10) refl
  where
    go : (t : Bool) → ltb n 10 ≡ t → 1 ≤ width n
    go true e = omega (arith, width_small n (ltb-true n 10 e))
    go false e = omega (arith, width-step n (ltb-false n 10 e))

width-least : (k n : ℕ) → 10 ^ k ≤ n → suc k ≤ width n
width-least zero n h = one-digit n
width-least (suc k) n h =
    let p : 10 ^ k * 10 ≤ n = rw (← pow-suc 10 k) h in
    let q : 1 ≤ 10 ^ k = one-le-pow k 10 (omega arith) in
    omega (arith, width-step n (omega arith), width-least k (n / 10) (omega arith))

digits-least : (k n : ℕ) → digits_to k n ≤ width n
digits-least zero n = one-digit n
digits-least (suc k) n = go (leb (10 ^ suc k) n) refl (digits-least k n)
  where
    go : (t : Bool) → leb (10 ^ suc k) n ≡ t → digits_to k n ≤ width n → pick t (suc (suc k)) (digits_to k n) ≤ width n
    go true e h = width-least (suc k) n (leb-true (10 ^ suc k) n e)
    go false e h = h

abbrev amount_least : ℤ → ℕ
amount_least z = digits_to 8 (nat_abs z / 1000) + 4

amount-least : (z : ℤ) → amount_least z ≤ length (kilograms_of z)
amount-least z =
    let n = nat_abs z / 1000 in
    omega (arith, kilograms-length z, thousandths-length (nat_abs z), whole_length n, digits-least 8 n)

-- ---- the listing

abbrev herd_least : Herd → String → ℕ
herd_least h n = 18 + length (module_of Pigs n) + length (bytes n) + amount_least (figure n (herd_figures h)) + 5

herd-long : (i : ℕ) → 1756 ≤ length (listing_of (herd i))
unfolding label_of label_field has_comma herd_lines typed_of pigs_of housing_at scrubber_at housing_floor_at
    housing_air_at
    figures_of
herd-long i =
    le_trans (leb→le 1756 (sum_of (herd_least (herd i)) (lines_of Pigs)) tt)
    (each-fills (herd_line label Pigs (herd_figures (herd i))) (herd_least (herd i)) fills (lines_of Pigs))
  where
    label : List ℕ
    label = text (herd i).label

    fills : (n : String) → herd_least (herd i) n ≤ length (herd_line label Pigs (herd_figures (herd i)) n)
    fills n =
        let z = figure n (herd_figures (herd i)) in
        omega (arith, line-length label (module_of Pigs n) (bytes n) z, amount-least z)

herds-long : (i k : ℕ) → k * 1756 ≤ length (each listing_of (herds_from i k))
herds-long i zero = omega arith
herds-long i (suc k) =
    let rest = each listing_of (herds_from (suc i) k) in
    omega (arith, length-append (listing_of (herd i)) rest, herd-long i, herds-long (suc i) k)

abbrev long_totals : Totals
long_totals = totals_of (map herd_figures (herds_of long_farm))

abbrev total_least : String → ℕ
total_least n = length (bytes total_path) + length (bytes n) + amount_least (total n long_totals) + 5

totals-long : 639 ≤ length (totals_listing long_totals)
unfolding label_field has_comma totals_listing totals_of by_number farm_total typed_of pigs_of housing_at scrubber_at
    housing_floor_at housing_air_at figures_of
totals-long =
    le_trans (leb→le 639 (sum_of total_least total_texts) tt)
    (each-fills (total_line long_totals) total_least fills total_texts)
  where
    fills : (n : String) → total_least n ≤ length (total_line long_totals n)
    fills n =
        let z = total n long_totals in
        omega (arith, line-length [] (bytes total_path) (bytes n) z, amount-least z)

farm-long : input_herds * 1756 + 639 ≤ length (farm_listing long_farm)
unfolding farm_listing farm_answer
farm-long =
    let herds = each listing_of (herds_of long_farm) in
    rw long-accepted
    (omega (arith, length-append herds (totals_listing long_totals), herds-long 0 input_herds, totals-long))

-- an accepted farm's listing comes within a kilobyte of the room
pub room_nearly_used : (check_farm long_farm ≡ Accepted)
    × (output_room StandardInput ≤ length (farm_listing long_farm) + 1024)
room_nearly_used = (long-accepted, omega (arith, farm-long))
