-- The loops that write: what is still to be written from a place of the file on. Assumes nothing.
use Prim.Native.Nat.{ℕ, ◌+◌, ◌<◌, ◌≤◌}
use mathlib.Core.Path.{◌≡◌, sym, ap, subst, ◌∙◌}
use mathlib.Core.Bool.{Bool}
use mathlib.Core.List.{List, [], ◌++◌}
use native.Mathlib.Omega.{arith}
use lib.ListN.{length, get_or, take, drop, length-append}
use Rattle.base.specs.Wrote.{Wrote}
use Rattle.base.proofs.Rest.{rest_end}
use Rattle.base.proofs.ToCome.{ToCome, begun, gone_on, ended}
use Rattle.spreadsheet.specs.declared.Passed.{Passed}
use Rattle.spreadsheet.specs.Mended.{entries, mended_byte, change_at, mended_from, changes_from}
use Rattle.spreadsheet.specs.Passed.{passed_of, and_byte, bare_after}
use Rattle.spreadsheet.proofs.Passing.{goes-past, mended_at, changes-at}
use Rattle.spreadsheet.proofs.Lengths.{entries-append}

-- ---- the text written

pub record Writing (s : List ℕ) (from : ℕ) (old : List ℕ) (i : ℕ) (p : Passed) (now : List ℕ) (at : ℕ) : Type 0 where
  pub passed : p ≡ passed_of (take i s)
  pub written : ToCome old 0 (mended_from (take from s) (drop from s)) now (mended_from (take i s) (drop i s)) at
  pub room : length (mended_from (take from s) (drop from s)) ≤ length old

module _ (s : List ℕ) (from : ℕ) (old : List ℕ) where
  pub text-starts : (p : Passed) → p ≡ passed_of []
      → (passed_of (take from s) ≡ passed_of []) × (length (mended_from (take from s) (drop from s)) ≤ length old)
      → Writing s from old from p old 0
  text-starts p e b = record { passed = e ∙ sym b.0; written = begun; room = b.1 }

  module _ (i : ℕ) (p : Passed) (now : List ℕ) (at : ℕ) (inv : Writing s from old i p now at) where
    pub text_same : length now ≡ length old
    text_same = inv.written.same

    module _ (h : i < length s) (t : Bool) (et : t ≡ bare_after p (get_or s i 0)) where
      pub text-room : at + length (mended_byte t (get_or s i 0)) ≤ length now
      text-room =
          omega (
            arith,
            inv.written.adds-up,
            inv.written.same,
            inv.room,
            ap length (mended_at s i h p inv.passed t et),
            length-append (mended_byte t (get_or s i 0)) (mended_from (take (i + 1) s) (drop (i + 1) s)),
          )

      pub text-goes : (new : List ℕ) (next : ℕ) → Wrote now at (mended_byte t (get_or s i 0)) new next → (q : Passed)
          → q ≡ and_byte p (get_or s i 0) → Writing s from old (i + 1) q new next
      text-goes new next w q eq =
          record {
            passed = goes-past s i h p inv.passed q eq;
            written = gone_on
                (subst (λ (l : List ℕ). ToCome old 0 (mended_from (take from s) (drop from s)) now l at)
                (mended_at s i h p inv.passed t et) inv.written) w;
            room = inv.room;
          }

    pub text-ends : length s ≤ i → Wrote old 0 (mended_from (take from s) (drop from s)) now at
    unfolding mended_from
    text-ends h =
        ended
        (subst (λ (l : List ℕ). ToCome old 0 (mended_from (take from s) (drop from s)) now l at)
        (ap (mended_from (take i s)) (rest_end s i h)) inv.written)

pub ruleset text_steps = (text-starts, text_same, text-room, text-goes, text-ends)

-- ---- the list written

abbrev list_from : List ℕ → ℕ → List ℕ
list_from s i = entries (changes_from (take i s) (drop i s))

pub record Listing (s : List ℕ) (from : ℕ) (old : List ℕ) (start i : ℕ) (p : Passed) (now : List ℕ)
    (at : ℕ) : Type 0 where
  pub passed : p ≡ passed_of (take i s)
  pub written : ToCome old start (entries (changes_from (take from s) (drop from s))) now
      (entries (changes_from (take i s) (drop i s))) at
  pub room : start + length (entries (changes_from (take from s) (drop from s))) ≤ length old

module _ (s : List ℕ) (from : ℕ) (old : List ℕ) (start : ℕ) where
  pub list-starts : (p : Passed) → p ≡ passed_of []
      → (passed_of (take from s) ≡ passed_of [])
      × (start + length (entries (changes_from (take from s) (drop from s))) ≤ length old)
      → Listing s from old start from p old start
  list-starts p e b = record { passed = e ∙ sym b.0; written = begun; room = b.1 }

  module _ (i : ℕ) (p : Passed) (now : List ℕ) (at : ℕ) (inv : Listing s from old start i p now at) where
    pub list_same : length now ≡ length old
    list_same = inv.written.same

    module _ (h : i < length s) (t : Bool) (et : t ≡ bare_after p (get_or s i 0)) where
      first : list_from s i ≡ entries (change_at t i) ++ list_from s (i + 1)
      first =
          ap entries (changes-at s i h p inv.passed t et)
          ∙ entries-append (change_at t i) (changes_from (take (i + 1) s) (drop (i + 1) s))

      pub list-room : at + length (entries (change_at t i)) ≤ length now
      list-room =
          omega (
            arith,
            inv.written.adds-up,
            inv.written.same,
            inv.room,
            ap length first,
            length-append (entries (change_at t i)) (list_from s (i + 1)),
          )

      pub list-goes : (new : List ℕ) (next : ℕ) → Wrote now at (entries (change_at t i)) new next → (q : Passed)
          → q ≡ and_byte p (get_or s i 0) → Listing s from old start (i + 1) q new next
      list-goes new next w q eq =
          record {
            passed = goes-past s i h p inv.passed q eq;
            written = gone_on (subst (λ (l : List ℕ). ToCome old start (list_from s from) now l at) first
                inv.written) w;
            room = inv.room;
          }

    pub list-ends : length s ≤ i → Wrote old start (entries (changes_from (take from s) (drop from s))) now at
    unfolding changes_from
    list-ends h =
        ended
        (subst (λ (l : List ℕ). ToCome old start (list_from s from) now l at)
        (ap (λ (l : List ℕ). entries (changes_from (take i s) l)) (rest_end s i h)) inv.written)

pub ruleset list_steps = (list-starts, list_same, list-room, list-goes, list-ends)
