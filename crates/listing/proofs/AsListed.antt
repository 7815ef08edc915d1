-- The lines by number, with texts from the tables, are the lines of 01's listing. Assumes nothing.
use Prim.Native.Nat.{ℕ, ◌+◌, ◌<◌}
use mathlib.Core.Path.{◌≡◌, refl, ap, ◌∙◌}
use mathlib.Core.List.{List, [], ◌∷◌, ◌++◌, map, append_assoc}
use lib.Dec.{T, ltb, ltb→lt}
use lib.ListN.{length, get_or}
use lib.IntN.{ℤ}
use Rattle.base.specs.Part.{part}
use Rattle.base.specs.Runs.{joined, starts, all}
use Rattle.base.specs.Text.{bytes}
use Rattle.base.proofs.Table.{both_left, both_right}
use Rattle.inputs.specs.declared.Kind.{Kind}
use Rattle.inputs.specs.declared.Kind.TheVariants.{Roughage, Cattle, Pigs, DairyCow}
use Rattle.farm.specs.declared.Label.{Label}
use Rattle.farm.specs.Labels.{text}
use Rattle.outputs.specs.declared.Figures.{Figures}
use Rattle.outputs.specs.declared.Totals.{Totals}
use Rattle.outputs.specs.Names.{rows, number, totals, total_number, total_texts}
use Rattle.outputs.specs.Grams.{grams_at}
use Rattle.line_parts.specs.Fields.{has_comma, label_field, each}
use Rattle.line_parts.specs.Paths.{path_of}
use Rattle.line_parts.specs.Owners.{owner_of}
use Rattle.line_parts.specs.Middles.{Entry, middle_of, middles, Tabled}
use Rattle.line_parts.proofs.Middles.{no_entry, middle-is}
use Rattle.listing_lines.specs.Numbered.{longest_middle, put_together, numbered}
use Rattle.listing.specs.HerdLines.{lines_of}
use Rattle.listing.specs.Listing.{line_of, total_path, herd_lines, herd_listing, totals_listing}
use Rattle.listing.specs.Numbered.{herd_entries, total_entries}

line-is : (label path : List ℕ) (e : Entry) (g : ℤ)
    → put_together (owner_of label path) (middle_of e) g ≡ line_of label (path ++ e.under) e.name g
unfolding owner_of put_together line_of
line-is label path e g = simp append_assoc

-- the lines of any entries
module _ (label path : List ℕ) (es : List Entry) (grams : List ℤ) where
  abbrev in_full : ℕ → List ℕ
  in_full n = let e = get_or es n no_entry in line_of label (path ++ e.under) e.name (grams_at grams n)

  in_full_lem : (n : ℕ) → n < length es
      → put_together (owner_of label path)
      (part (joined (middles es)) (get_or (starts 0 (middles es)) n 0) (get_or (starts 0 (middles es)) (n + 1) 0))
      (grams_at grams n) ≡ in_full n
  in_full_lem n h =
      ap (λ (t : List ℕ). put_together (owner_of label path) t (grams_at grams n)) (middle-is es n h)
      ∙ line-is label path (get_or es n no_entry) (grams_at grams n)

  numbered_is : (ns : List ℕ) → T (all (λ (n : ℕ). ltb n (length es)) ns)
      → numbered (owner_of label path) (joined (middles es)) (starts 0 (middles es)) grams ns ≡ each in_full ns
  unfolding numbered
  numbered_is [] t = refl
  numbered_is (n ∷ ns) t =
      let d = in_full_lem n (ltb→lt _ _ (both_left (ltb n (length es)) (all (λ (n : ℕ). ltb n (length es)) ns) t)) in
      let e = numbered_is ns (both_right (ltb n (length es)) (all (λ (n : ℕ). ltb n (length es)) ns) t) in
      rw (d, e)

-- ---- a herd

abbrev herd_table : List ℕ
herd_table = joined (middles herd_entries)

abbrev herd_starts : List ℕ
herd_starts = starts 0 (middles herd_entries)

-- every name that a kind lists is one
herd-numbers : (k : Kind) → T (all (λ (n : ℕ). ltb n (length herd_entries)) (map number (lines_of k)))
herd-numbers Roughage = tt
herd-numbers Cattle = tt
herd-numbers Pigs = tt
herd-numbers DairyCow = tt

pub herd-known : (k : Kind) {count : ℕ} {lines : List ℕ} → count ≡ length rows → lines ≡ map number (lines_of k)
    → Tabled longest_middle count herd_table herd_starts lines
herd-known k n e = rw e (record {
  texts = middles herd_entries;
  table_is = refl;
  starts_are = refl;
  short = tt;
  as_many = n;
  are_numbers = herd-numbers k;
})

as-listed : (label : List ℕ) (k : Kind) (f : Figures)
    → numbered (owner_of label (bytes (path_of k))) herd_table herd_starts f.grams (map number (lines_of k))
    ≡ herd_lines label k f
unfolding herd_lines
as-listed label Roughage f =
    numbered_is label (bytes (path_of Roughage)) herd_entries f.grams (map number (lines_of Roughage)) tt
as-listed label Cattle f =
    numbered_is label (bytes (path_of Cattle)) herd_entries f.grams (map number (lines_of Cattle)) tt
as-listed label Pigs f = numbered_is label (bytes (path_of Pigs)) herd_entries f.grams (map number (lines_of Pigs)) tt
as-listed label DairyCow f =
    numbered_is label (bytes (path_of DairyCow)) herd_entries f.grams (map number (lines_of DairyCow)) tt

pub herd-is : (l : Label) (k : Kind) (f : Figures) {owner lines : List ℕ}
    → owner ≡ owner_of (text l) (bytes (path_of k))
    → lines ≡ map number (lines_of k) → numbered owner herd_table herd_starts f.grams lines ≡ herd_listing l k f
herd-is l k f d e = rw (d, e) (as-listed (text l) k f)

-- ---- the totals

abbrev total_table : List ℕ
total_table = joined (middles total_entries)

abbrev total_starts : List ℕ
total_starts = starts 0 (middles total_entries)

abbrev total_numbers : List ℕ
total_numbers = map total_number total_texts

pub totals-known : {count : ℕ} → count ≡ length totals
    → Tabled longest_middle count total_table total_starts total_numbers
totals-known n =
    record {
      texts = middles total_entries;
      table_is = refl;
      starts_are = refl;
      short = tt;
      as_many = n;
      are_numbers = tt;
    }

-- the owner is an empty label's field, a comma and the path
pub totals-are : (t : Totals)
    → numbered (bytes "," ++ bytes total_path) total_table total_starts t.grams total_numbers ≡ totals_listing t
unfolding totals_listing owner_of label_field has_comma
totals-are t = numbered_is [] (bytes total_path) total_entries t.grams total_numbers tt
