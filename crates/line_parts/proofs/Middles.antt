-- Where the middle of a line stands in the table, and which it is. Assumes nothing.
use Prim.Native.Nat.{ℕ, zero, suc, ◌+◌, ◌≤◌, ◌<◌}
use mathlib.Core.Path.{◌≡◌, refl, ap, ◌∙◌}
use mathlib.Core.List.{List, [], ◌∷◌}
use native.Mathlib.Nat.{le_of_suc-le-suc}
use native.Mathlib.Omega.{arith}
use lib.Dec.{ltb, leb, ltb→lt, leb→le}
use lib.ListN.{length, get_or, length-map}
use Rattle.base.specs.Part.{part}
use Rattle.base.specs.Runs.{joined, starts}
use Rattle.base.proofs.Runs.{Run, run_at, all-at}
use Rattle.line_parts.specs.Middles.{Entry, middle_of, middles, Tabled}

length-starts : (n : ℕ) (ls : List (List ℕ)) → length (starts n ls) ≡ suc (length ls)
length-starts n [] = refl
length-starts n (l ∷ ls) = ap suc (length-starts (n + length l) ls)

-- the middle of n stands in the table, from its start to the next
pub record Stands (longest count : ℕ) (table from : List ℕ) (n : ℕ) : Type 0 where
  pub a-number : n < count
  pub a-start : n + 1 < length from
  pub in_order : get_or from n 0 ≤ get_or from (n + 1) 0
  pub inside : get_or from (n + 1) 0 ≤ length table
  pub short : get_or from (n + 1) 0 ≤ get_or from n 0 + longest

pub stands : {longest count : ℕ} {table from lines : List ℕ} → Tabled longest count table from lines → (k : ℕ)
    → k < length lines → Stands longest count table from (get_or lines k 0)
stands {longest} {count} {table} {from} {lines} known k h =
    record {
      a-number = omega (arith, below, known.as_many);
      a-start = omega (arith, below, starts-long);
      in_order = omega (arith, r.long);
      inside = r.inside;
      short = omega (arith, r.long, long);
    }
  where
    n : ℕ
    n = get_or lines k 0

    below : n < length known.texts
    below = ltb→lt _ _ (all-at (λ (n : ℕ). ltb n (length known.texts)) lines known.are_numbers k 0 h)

    r : Run table (get_or known.texts n []) (get_or from n 0) (get_or from (n + 1) 0)
    r = rw (known.table_is, known.starts_are) (run_at known.texts n below)

    long : length (get_or known.texts n []) ≤ longest
    long = leb→le _ _ (all-at (λ (t : List ℕ). leb (length t) longest) known.texts known.short n [] below)

    starts-long : length from ≡ suc (length known.texts)
    starts-long = ap length known.starts_are ∙ length-starts 0 known.texts

-- ---- the middles of entries

abbrev pub no_entry : Entry
no_entry = record { under = []; name = [] }

middle-at : (es : List Entry) (n : ℕ) → n < length es → get_or (middles es) n [] ≡ middle_of (get_or es n no_entry)
middle-at [] n h = absurd (omega arith)
middle-at (e ∷ es) zero h = refl
middle-at (e ∷ es) (suc n) h = middle-at es n (le_of_suc-le-suc h)

-- what stands in the table from the start of n to the next
pub middle-is : (es : List Entry) (n : ℕ) → n < length es
    → part (joined (middles es)) (get_or (starts 0 (middles es)) n 0) (get_or (starts 0 (middles es)) (n + 1) 0)
    ≡ middle_of (get_or es n no_entry)
unfolding part
middle-is es n h = (run_at (middles es) n (omega (arith, length-map es middle_of))).part-is ∙ middle-at es n h
