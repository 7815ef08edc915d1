-- How long lines and listings are, from how long their amounts are. Assumes nothing.
use Prim.Native.Nat.{ℕ, ◌+◌, ◌≤◌}
use Prim.Native.String.{String}
use mathlib.Core.Path.{◌≡◌}
use mathlib.Core.List.{List, [], ◌∷◌}
use native.Mathlib.Omega.{arith}
use native.Mathlib.Nat.{le_trans}
use lib.Dec.{leb→le}
use lib.ListN.{length, get_or, length-append}
use lib.IntN.{ℤ}
use Rattle.base.specs.Text.{bytes}
use Rattle.kilogram_text.specs.Kilograms.{kilograms_of}
use Rattle.inputs.specs.declared.Kind.{Kind}
use Rattle.inputs.specs.declared.Kind.TheVariants.{Roughage, Cattle, Pigs, DairyCow}
use Rattle.outputs.specs.declared.Figures.{Figures}
use Rattle.outputs.specs.declared.Totals.{Totals}
use Rattle.outputs.specs.Names.{number, total_number, total_texts}
use Rattle.outputs.specs.Grams.{grams_at}
use Rattle.line_parts.specs.Bounds.{longest_label, longest_field}
use Rattle.line_parts.specs.Fields.{has_comma, label_field, each}
use Rattle.line_parts.proofs.Lengths.{field-length, sum_of, each_fits}
use Rattle.listing.specs.HerdLines.{lines_of}
use Rattle.listing.specs.Listing.{line_of, module_of, herd_line, herd_lines}
use Rattle.listing.specs.Listing.{total_path, total_line, totals_listing}
use Rattle.listing_room.specs.Bounds.{nothing, amount_rooms, total_room}
use Rattle.listing_room.specs.Bounds.{no_n2, outdoors, on_slurry, on_litter, herd_room, totals_room}

-- ---- a line

pub line-length : (label path name : List ℕ) (g : ℤ)
    → length (line_of label path name g)
    ≡ length (label_field label) + length path + length name + length (kilograms_of g) + 5
unfolding line_of
line-length label path name g = simp length-append (omega arith)

-- ---- lines one after the other

module _ {A : Type 0} (f : A → List ℕ) (room : A → ℕ) where
  pub each-fills : ((x : A) → room x ≤ length (f x)) → (xs : List A) → sum_of room xs ≤ length (each f xs)
  each-fills fills [] = omega arith
  each-fills fills (x ∷ xs) = let h = each-fills fills xs in omega (arith, length-append (f x) (each f xs), fills x)

-- ---- a herd

-- no amount is longer than its name has room for
pub record Short (without : List String) (g : List ℤ) : Type 0 where
  pub amount : (n : ℕ) → length (kilograms_of (grams_at g n)) ≤ get_or (amount_rooms without) n nothing

abbrev line_room : List String → Kind → String → ℕ
line_room without k n =
    longest_field + length (module_of k n) + length (bytes n) + get_or (amount_rooms without) (number n) nothing + 5

-- a herd of each kind, and the names under which it has nothing
pub data Lacks : Kind → List String → Type 0 where
  roughage : Lacks Roughage no_n2
  cattle : Lacks Cattle no_n2
  dairy_cows_lem : Lacks DairyCow no_n2
  pigs-outdoors : Lacks Pigs outdoors
  pigs-on_slurry : Lacks Pigs on_slurry
  pigs-on_litter : Lacks Pigs on_litter

rooms : {k : Kind} {without : List String} → Lacks k without → sum_of (line_room without k) (lines_of k) ≤ herd_room
rooms Lacks.roughage = leb→le _ _ tt
rooms Lacks.cattle = leb→le _ _ tt
rooms Lacks.dairy_cows_lem = leb→le _ _ tt
rooms Lacks.pigs-outdoors = leb→le _ _ tt
rooms Lacks.pigs-on_slurry = leb→le _ _ tt
rooms Lacks.pigs-on_litter = leb→le _ _ tt

module _ (label : List ℕ) (k : Kind) (f : Figures) (h : length label ≤ longest_label) where
  pub herd-short : {without : List String} → Lacks k without → Short without f.grams
      → length (herd_lines label k f) ≤ herd_room
  unfolding herd_lines
  herd-short {without} l s =
      le_trans (each_fits (herd_line label k f) (line_room without k) fits (lines_of k)) (rooms l)
    where
      fits : (n : String) → length (herd_line label k f n) ≤ line_room without k n
      fits n =
          let g = grams_at f.grams (number n) in
          omega (arith, line-length label (module_of k n) (bytes n) g, field-length label, s.amount (number n))

-- ---- the totals

pub record TotalsShort (g : List ℤ) : Type 0 where
  pub amount : (n : ℕ) → length (kilograms_of (grams_at g n)) ≤ total_room

abbrev total_line_room : String → ℕ
total_line_room n = length (bytes total_path) + length (bytes n) + total_room + 5

totals-rooms : sum_of total_line_room total_texts ≤ totals_room
totals-rooms = leb→le _ _ tt

pub totals-short : (t : Totals) → TotalsShort t.grams → length (totals_listing t) ≤ totals_room
unfolding totals_listing label_field has_comma
totals-short t s = le_trans (each_fits (total_line t) total_line_room fits total_texts) totals-rooms
  where
    fits : (n : String) → length (total_line t n) ≤ total_line_room n
    fits n =
        let g = grams_at t.grams (total_number n) in
        omega (arith, line-length [] (bytes total_path) (bytes n) g, s.amount (total_number n))
