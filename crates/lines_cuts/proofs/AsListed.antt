-- The records by number, with texts from the table, are those of specs/Lines.antt. Assumes nothing.
use Prim.Native.Nat.{ℕ, ◌+◌, ◌<◌}
use mathlib.Core.Path.{◌≡◌, refl, sym, ap, ◌∙◌}
use mathlib.Core.List.{List, [], ◌∷◌, ◌++◌, map, append_assoc}
use lib.Dec.{T, ltb, ltb→lt}
use lib.ListN.{length, get_or}
use Rattle.base.specs.Pick.{pick}
use Rattle.base.specs.Part.{part}
use Rattle.base.specs.Runs.{joined, starts, all}
use Rattle.base.specs.Text.{bytes}
use Rattle.base.proofs.Table.{both_left, both_right}
use Rattle.inputs.specs.declared.Kind.{Kind}
use Rattle.farm.specs.declared.Label.{Label}
use Rattle.farm.specs.Labels.{text}
use Rattle.line_parts.specs.Fields.{each}
use Rattle.line_parts.specs.Paths.{path_of}
use Rattle.line_parts.specs.Owners.{owner_of}
use Rattle.line_parts.specs.Middles.{Entry, middle_of, middles}
use Rattle.line_parts.proofs.Middles.{no_entry, middle-is}
use Rattle.cuts.specs.declared.Cuts.{Cuts}
use Rattle.cuts.specs.Names.{rows, texts, cut_number}
use Rattle.lines_cuts.specs.Lines.{cut_line, cut_lines, cuts_listing}
use Rattle.lines_cuts.specs.Numbered.{entries, put_together, numbered, HasMiddles}

line-is : (label path : List ℕ) (e : Entry) (off by : ℕ)
    → put_together (owner_of label path) (middle_of e) off by
    ≡ pick (ltb 0 by) (cut_line label (path ++ e.under) e.name off by) []
unfolding owner_of put_together cut_line
line-is label path e off by = simp append_assoc

module _ (label path offs bys : List ℕ) where
  abbrev in_full : ℕ → List ℕ
  in_full n =
      let e = get_or entries n no_entry in
      pick (ltb 0 (get_or bys n 0)) (cut_line label (path ++ e.under) e.name (get_or offs n 0) (get_or bys n 0)) []

  in_full_lem : (n : ℕ) → n < length entries
      → put_together (owner_of label path) (part (joined (middles entries)) (get_or (starts 0 (middles entries)) n 0)
      (get_or (starts 0 (middles entries)) (n + 1) 0)) (get_or offs n 0) (get_or bys n 0) ≡ in_full n
  in_full_lem n h =
      let m = middle-is entries n h in
      ap (λ (t : List ℕ). put_together (owner_of label path) t (get_or offs n 0) (get_or bys n 0)) m
      ∙ line-is label path (get_or entries n no_entry) (get_or offs n 0) (get_or bys n 0)

  numbered_is : (ns : List ℕ) → T (all (λ (n : ℕ). ltb n (length entries)) ns)
      → numbered (owner_of label path) (joined (middles entries)) (starts 0 (middles entries)) offs bys ns
      ≡ each in_full ns
  unfolding numbered
  numbered_is [] t = refl
  numbered_is (n ∷ ns) t =
      let known = all (λ (n : ℕ). ltb n (length entries)) ns in
      let d = in_full_lem n (ltb→lt _ _ (both_left (ltb n (length entries)) known t)) in
      let e = numbered_is ns (both_right (ltb n (length entries)) known t) in
      rw (d, e)

abbrev pub table : List ℕ
table = joined (middles entries)

abbrev pub middle_starts : List ℕ
middle_starts = starts 0 (middles entries)

abbrev pub numbers : List ℕ
numbers = map cut_number texts

pub cuts-known : {offs bys : List ℕ} → length offs ≡ length rows → length bys ≡ length rows
    → HasMiddles table middle_starts offs bys numbers
cuts-known n m =
    record {
      tabled = record {
        texts = middles entries;
        table_is = refl;
        starts_are = refl;
        short = tt;
        as_many = n;
        are_numbers = tt;
      };
      as_many = m ∙ sym n;
    }

as-listed : (label : List ℕ) (k : Kind) (c : Cuts)
    → numbered (owner_of label (bytes (path_of k))) table middle_starts c.cut_off c.divisor numbers
    ≡ cut_lines label k c
unfolding cut_lines
as-listed label k c = numbered_is label (bytes (path_of k)) c.cut_off c.divisor numbers tt ∙ simp append_assoc

pub cuts_are : (l : Label) (k : Kind) (c : Cuts) {owner : List ℕ} → owner ≡ owner_of (text l) (bytes (path_of k))
    → numbered owner table middle_starts c.cut_off c.divisor numbers ≡ cuts_listing l k c
cuts_are l k c d = rw d (as-listed (text l) k c)
