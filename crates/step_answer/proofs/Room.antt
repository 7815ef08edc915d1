-- The answer to a step has room: after a step that is done no total is farther from zero than 16's bound and the totals
-- of two herds. Assumes nothing.
use Rattle.std.specs.Prelude.{Err}
use Prim.Native.Nat.{ℕ, ◌+◌, ◌≤◌, ◌<◌}
use Prim.Native.String.{String}
use mathlib.Core.Path.{◌≡◌, refl}
use mathlib.Core.Bool.{Bool, true, false}
use mathlib.Core.List.{List, [], ◌∷◌, map}
use native.Mathlib.Nat.{le_trans}
use native.Mathlib.Omega.{arith}
use borrow.Author.Tests.{ltb-true, ltb-false}
use lib.Dec.{ltb, leb→le}
use lib.ListN.{length, length-map}
use lib.IntN.{ℤ, nat_abs, ◌+ℤ◌, ◌-ℤ◌}
use Rattle.base.specs.Text.{bytes}
use Rattle.base.specs.Pick.{pick}
use Rattle.base.specs.Each.{Each, none, more}
use Rattle.cut_division.proofs.Signed.{abs_add, abs_sub}
use Rattle.kilogram_text.proofs.Lengths.{kilograms-within}
use Rattle.kilogram_text.proofs.Signs.{sign-short}
use Rattle.farm.specs.declared.Label.{Label}
use Rattle.farm.specs.declared.Herd.{Herd}
use Rattle.farm.specs.declared.Farm.{Farm}
use Rattle.farm.specs.Labels.{same_label}
use Rattle.farm.specs.Answers.{Accepted}
use Rattle.checks.specs.Checks.{check_herd, herds_of}
use Rattle.checks.proofs.Accepts.{farm-each}
use Rattle.typed_inputs.specs.Typed.{typed_of}
use Rattle.typed_inputs.proofs.Sound.{typed_sound}
use Rattle.outputs.specs.declared.Figures.{Figures}
use Rattle.outputs.specs.declared.Totals.{Totals}
use Rattle.outputs.specs.Names.{totals, total_number, total_texts}
use Rattle.outputs.specs.Grams.{grams_at, farm_total, totals_of, GramsTo}
use Rattle.outputs.proofs.ByNumber.{by-number-at, by-number-past}
use Rattle.kilograms.proofs.Small.{totals-small}
use Rattle.herd.proofs.Bounds.{most, figures-to}
use Rattle.model.specs.Answers.{herd_figures}
use Rattle.line_parts.specs.Fields.{has_comma, label_field}
use Rattle.line_parts.proofs.Lengths.{sum_of, each_fits}
use Rattle.listing.specs.Listing.{total_path, total_line, totals_listing}
use Rattle.listing_room.proofs.Lengths.{line-length}
use Rattle.books.specs.declared.Step.{Step}
use Rattle.books.specs.declared.Step.TheVariants.{Add, Replace, Remove}
use Rattle.books.specs.declared.Stepped.{Stepped}
use Rattle.books.specs.Steps.{named, total_of, moved, totals_after}
use Rattle.books.specs.Rules.{total_most, decided_of, Decided, Done}
use Rattle.books.specs.Answers.{StepsTo, stored_totals}
use Rattle.book_totals.specs.Parts.{part_most}
use Rattle.book_totals.proofs.Beyond.{within-most}
use Rattle.book_steps.proofs.Decided.{is-sound, fits-added, fits_replaced}
use Rattle.lines_steps.specs.Rooms.{room_for}
use Rattle.step_answer.specs.Program.{answer_room}

-- ---- the totals of no herd or of one

abbrev Good : List Herd → Type 0
Good hs = Each (λ h. check_herd h ≡ Accepted) hs

figures-most : {hs : List Herd} → Good hs → Each (λ (f : Figures). GramsTo most f.grams) (map herd_figures hs)
figures-most none = none
figures-most (more {a} p ps) = more (figures-to (typed_of a) (typed_sound a p)) (figures-most ps)

part_small : (hs : List Herd) → length hs ≤ 1 → Good hs → (n : ℕ) → n < length totals
    → nat_abs (total_of hs n) ≤ part_most
unfolding totals_of
part_small hs few good n h =
    let l = map herd_figures hs in
    let s = (totals-small l most (figures-most good)).most n in
    let k = rw (by-number-at (farm_total l) (length totals) n h) at s in
    omega (arith, k, length-map hs herd_figures)

-- ---- the herd that a step takes away, and the one that it brings

module _ (name : Label) where
  named-few : (hs : List Herd) → length (named name hs) ≤ 1
  unfolding named
  named-few [] = omega arith
  named-few (x ∷ xs) = go (same_label x.label name) (named-few xs)
    where
      go : (b : Bool) → length (named name xs) ≤ 1 → length (pick b (x ∷ []) (named name xs)) ≤ 1
      go true h = omega arith
      go false h = h

  named-good : {hs : List Herd} → Good hs → Good (named name hs)
  unfolding named
  named-good none = none
  named-good (more {a} {l} p ps) = go (same_label a.label name) (named-good ps)
    where
      go : (b : Bool) → Good (named name l) → Good (pick b (a ∷ []) (named name l))
      go true h = more p none
      go false h = h

-- few, and good
record Few (hs : List Herd) : Type 0 where
  pub few : length hs ≤ 1
  pub good : Good hs

nobody : Few []
nobody = record { few = omega arith; good = none }

alone : {h : Herd} → check_herd h ≡ Accepted → Few (h ∷ [])
alone p = record { few = omega arith; good = more p none }

old : (h : Herd) {hs : List Herd} → Good hs → Few (named h.label hs)
old h {hs} good = record { few = named-few h.label hs; good = named-good h.label good }

-- ---- the totals after a step that is done

abbrev after_most : ℕ
after_most = total_most + part_most + part_most

moved_to : (gone come : List Herd) (t : Totals) → Few gone → Few come → GramsTo total_most t.grams
    → GramsTo after_most (moved gone come t).grams
unfolding moved
moved_to gone come t g c to = record { most = λ n. go n (ltb n (length totals)) refl }
  where
    f : ℕ → ℤ
    f n = (grams_at t.grams n -ℤ total_of gone n) +ℤ total_of come n

    at : (n : ℕ) → n < length totals → nat_abs (f n) ≤ after_most
    at n h =
        let x = grams_at t.grams n in
        omega (
          arith,
          abs_add (x -ℤ total_of gone n) (total_of come n),
          abs_sub x (total_of gone n),
          to.most n,
          part_small gone g.few g.good n h,
          part_small come c.few c.good n h,
        )

    go : (n : ℕ) (b : Bool) → ltb n (length totals) ≡ b → nat_abs (grams_at (moved gone come t).grams n) ≤ after_most
    go n true e = rw (by-number-at f (length totals) n (ltb-true n (length totals) e)) (at n (ltb-true n _ e))
    go n false e = rw (by-number-past f (length totals) n (ltb-false n (length totals) e)) (omega arith)

module _ (f : Farm) (room : ℕ) (t : Totals) (h : Herd) where
  after-most : (step : Step) → decided_of f room t step h ≡ Done
      → GramsTo after_most (totals_after step h (herds_of f) t).grams
  after-most Add e =
      let s = is-sound f room t h Add _ refl e in
      moved_to [] (h ∷ []) t nobody (alone (fits-added f room t h Add _ refl e refl)) (within-most t s.within)
  after-most Replace e =
      let s = is-sound f room t h Replace _ refl e in
      moved_to (named h.label (herds_of f)) (h ∷ []) t (old h (farm-each f s.accepted))
      (alone (fits_replaced f room t h Replace _ refl e refl)) (within-most t s.within)
  after-most Remove e =
      let s = is-sound f room t h Remove _ refl e in
      moved_to (named h.label (herds_of f)) [] t (old h (farm-each f s.accepted)) nobody
      (within-most t s.within)

-- ---- their listing

-- a minus sign, eleven digits, the point and three more
abbrev amount_room : ℕ
amount_room = 16

abbrev line_of_room : String → ℕ
line_of_room n = length (bytes total_path) + length (bytes n) + amount_room + 5

lines-room : sum_of line_of_room total_texts ≤ answer_room
lines-room = leb→le _ _ tt

listing-short : (t : Totals) → GramsTo after_most t.grams → length (totals_listing t) ≤ answer_room
unfolding totals_listing label_field has_comma
listing-short t to = le_trans (each_fits (total_line t) line_of_room fits total_texts) lines-room
  where
    fits : (n : String) → length (total_line t n) ≤ line_of_room n
    fits n =
        let g = grams_at t.grams (total_number n) in
        omega (
          arith,
          line-length [] (bytes total_path) (bytes n) g,
          kilograms-within 10 g (omega (arith, to.most (total_number n))),
          sign-short g,
        )

-- ---- what is printed

pub answer-room : (f : Farm) (room : ℕ) (t : Totals) (step : Step) (h : Herd) (r : Stepped) → StepsTo f room t step h r
    → room_for r.decided r.totals ≤ answer_room
answer-room f room t step h r s = rw s.decided (rw s.totals (go (decided_of f room t step h) refl))
  where
    go : (d : Decided) → decided_of f room t step h ≡ d
        → room_for d (stored_totals d (herds_of f) t step h) ≤ answer_room
    go Done e = listing-short _ (after-most f room t h step e)
    go (Err refusal) e = leb→le _ _ tt
