-- The loop that counts: what is still to be counted from a place of the file on. Assumes nothing.
use Prim.Native.Nat.{ℕ, ◌+◌, ◌<◌, ◌≤◌}
use mathlib.Core.Path.{◌≡◌, sym, ap, ◌∙◌}
use mathlib.Core.Bool.{Bool, true, false}
use mathlib.Core.List.{List, [], ◌++◌}
use native.Mathlib.Omega.{arith}
use lib.ListN.{length, get_or, take, drop}
use Rattle.base.specs.Pick.{pick}
use Rattle.base.proofs.Rest.{rest_end}
use Rattle.spreadsheet.specs.declared.Passed.{Passed}
use Rattle.spreadsheet.specs.Mended.{change_at, changes_from}
use Rattle.spreadsheet.specs.Passed.{passed_of, and_byte, bare_after}
use Rattle.spreadsheet.proofs.Passing.{goes-past, changes-at}

pub record Counting (s : List ℕ) (from i : ℕ) (p : Passed) (n : ℕ) : Type 0 where
  pub passed : p ≡ passed_of (take i s)
  pub to_come : n + length (changes_from (take i s) (drop i s)) ≡ length (changes_from (take from s) (drop from s))
  pub few : n ≤ i

at_most_one : (t : Bool) (k : ℕ) → k ≡ pick t 1 0 → k ≤ 1
at_most_one true k e = omega arith
at_most_one false k e = omega arith

module _ (s : List ℕ) (from : ℕ) where
  pub count-starts : (p : Passed) → p ≡ passed_of [] → passed_of (take from s) ≡ passed_of [] → Counting s from from p 0
  count-starts p e b = record { passed = e ∙ sym b; to_come = omega arith; few = omega arith }

  module _ (i : ℕ) (p : Passed) (n : ℕ) (inv : Counting s from i p n) where
    module _ (h : i < length s) (t : Bool) (et : t ≡ bare_after p (get_or s i 0)) (k : ℕ) (ek : k ≡ pick t 1 0)
        (q : Passed) (eq : q ≡ and_byte p (get_or s i 0)) where
      pub count-goes : Counting s from (i + 1) q (n + k)
      count-goes =
          record {
            passed = goes-past s i h p inv.passed q eq;
            to_come = omega (arith, inv.to_come, ap length (changes-at s i h p inv.passed t et), long t k ek);
            few = omega (arith, inv.few, at_most_one t k ek);
          }
        where
          long : (t : Bool) (k : ℕ) → k ≡ pick t 1 0
              → length (change_at t i ++ changes_from (take (i + 1) s) (drop (i + 1) s))
              ≡ k + length (changes_from (take (i + 1) s) (drop (i + 1) s))
          long true k e = omega arith
          long false k e = omega arith

    pub count-ends : length s ≤ i → n ≡ length (changes_from (take from s) (drop from s))
    unfolding changes_from
    count-ends h = omega (arith, inv.to_come, ap (λ (l : List ℕ). length (changes_from (take i s) l)) (rest_end s i h))

pub ruleset count_steps = (count-starts, count-goes, count-ends)
