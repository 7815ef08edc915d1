-- From the counts to the call's answer: how long the mended file and the list are, and what is left in both slices.
-- Assumes nothing.
use Rattle.std.specs.Prelude.{Ok}
use Prim.Native.Nat.{ℕ, ◌+◌, ◌-◌, ◌*◌, ◌<◌, ◌≤◌}
use mathlib.Core.Path.{◌≡◌, sym, ap, ap₂, ◌∙◌}
use mathlib.Core.Bool.{Bool, true, false, and-false}
use mathlib.Core.List.{List, ◌++◌}
use native.Mathlib.Omega.{arith}
use lib.Dec.{leb}
use lib.ListN.{length, take, drop, length-append, length-drop}
use borrow.Author.Tests.{le-leb, lt-leb}
use Rattle.base.specs.Pick.{pick}
use Rattle.base.specs.Wrote.{Wrote}
use Rattle.base.proofs.Writes.{wrote-append, wrote_in_front, wrote-keeps-length}
use Rattle.base.specs.Refused.{refuse}
use Rattle.farm.specs.declared.Refusal.TheVariants.{BufferTooShort}
use Rattle.spreadsheet.specs.Faults.{marked}
use Rattle.spreadsheet.specs.Mended.{entries, mended_from, changes_from, text_start, mark_change, mended_of, changes_of}
use Rattle.mend.specs.Answer.{room, over, Mends}
use Rattle.spreadsheet.proofs.Starts.{start-inside, start-passed, crs_few, changes-are, change_many}
use Rattle.spreadsheet.proofs.Lengths.{entries-length, entries-append, mended_length}

module _ (s : List ℕ) (m : Bool) (em : m ≡ marked s) (f : ℕ) (ef : f ≡ text_start m) where
  module _ (n : ℕ) (en : n ≡ length (changes_from (take f s) (drop f s))) where
    text-is : mended_from (take f s) (drop f s) ≡ mended_of s
    unfolding mended_of
    text-is = rw (ef, em)

    pub mended_long : length s - f + n ≡ length (mended_of s)
    mended_long = omega (arith, en, ap length text-is, mended_length (take f s) (drop f s), length-drop f s)

    module _ (k : ℕ) (ek : k ≡ pick m 1 0) where
      list-long : 2 * (k + n) ≡ length (entries (changes_of s))
      list-long = omega (arith, change_many s m em f ef n en k ek, entries-length (changes_of s))

      list-is : entries (mark_change m) ++ entries (changes_from (take f s) (drop f s)) ≡ entries (changes_of s)
      list-is =
          sym (entries-append (mark_change m) (changes_from (take f s) (drop f s)))
          ∙ ap entries (changes-are s m em f ef n en)

      -- ---- what the writers ask

      pub text-fits : (out : List ℕ) → length s - f + n ≤ length out
          → length (mended_from (take f s) (drop f s)) ≤ length out
      text-fits out h = omega (arith, mended_long, ap length text-is)

      both_long : length (entries (mark_change m)) + length (entries (changes_from (take f s) (drop f s))) ≡ 2 * (k + n)
      both_long =
          omega (
            arith,
            list-long,
            ap length list-is,
            length-append (entries (mark_change m))
                (entries (changes_from (take f s) (drop f s))),
          )

      module _ (list : List ℕ) (h : 2 * (k + n) ≤ length list) where
        pub mark-fits : length (entries (mark_change m)) ≤ length list
        mark-fits = omega (arith, both_long)

        pub list-fits : (mid : List ℕ) (at : ℕ) → Wrote list 0 (entries (mark_change m)) mid at
            → at + length (entries (changes_from (take f s) (drop f s))) ≤ length mid
        list-fits mid at w = omega (arith, w.past, both_long, wrote-keeps-length w)

      module _ (out list : List ℕ) where
        -- ---- how it ends

        no_room : room s out list ≡ false → Mends s out list out list (refuse BufferTooShort 0)
        no_room e = record { file = rw e; changes = rw e; answer = rw e }

        pub out-short : length out < length s - f + n → Mends s out list out list (refuse BufferTooShort 0)
        out-short h =
            let e : leb (length (mended_of s)) (length out)
            ≡ false = lt-leb (length (mended_of s)) (length out) (omega (arith, mended_long)) in
            no_room (rw e)

        pub list-short : length list < 2 * (k + n) → Mends s out list out list (refuse BufferTooShort 0)
        list-short h =
            let e : leb (length (entries (changes_of s))) (length list)
            ≡ false = lt-leb (length (entries (changes_of s))) (length list) (omega (arith, list-long)) in
            no_room (rw e (and-false (leb (length (mended_of s)) (length out))))

        pub all-written : length s - f + n ≤ length out → 2 * (k + n) ≤ length list → (new-out : List ℕ) (a : ℕ)
            → Wrote out 0 (mended_from (take f s) (drop f s)) new-out a → (mid : List ℕ) (at : ℕ)
            → Wrote list 0 (entries (mark_change m)) mid at → (new-list : List ℕ) (b : ℕ)
            → Wrote mid at (entries (changes_from (take f s) (drop f s))) new-list b
            → Mends s out list new-out new-list (Ok (length s - f + n, k + n))
        all-written h h2 new-out a w mid at w1 new-list b w2 =
            let e1 : leb (length (mended_of s)) (length out)
            ≡ true = le-leb (length (mended_of s)) (length out) (omega (arith, mended_long)) in
            let e2 : leb (length (entries (changes_of s))) (length list)
            ≡ true = le-leb (length (entries (changes_of s))) (length list) (omega (arith, list-long)) in
            record {
              file = rw (e1, e2) (wrote_in_front w (text-fits out h) ∙ ap (λ (l : List ℕ). over l out) text-is);
              changes = rw (e1, e2)
                  (wrote_in_front (wrote-append w1 w2) (omega (arith, list-long, ap length list-is))
                  ∙ ap (λ (l : List ℕ). over l list) list-is);
              answer = rw (e1, e2) (ap₂ (λ (a b : ℕ). Ok (a, b)) mended_long (change_many s m em f ef n en k ek));
            }

pub ruleset mend_steps = (
  start-inside,
  start-passed,
  crs_few,
  change_many,
  text-fits,
  mark-fits,
  list-fits,
  out-short,
  list-short,
  all-written,
)
