-- A total's addends, added one by one: what is still to be added, and that the sum keeps within an i64. Assumes
-- nothing.
use Prim.Native.Nat.{ℕ, ◌+◌, ◌-◌, ◌*◌, ◌^◌, ◌≤◌, ◌<◌}
use mathlib.Core.Path.{◌≡◌, sym, ap, ◌∙◌}
use mathlib.Core.List.{List, []}
use native.Mathlib.Numerals.{add-one}
use native.Mathlib.Omega.{arith}
use lib.Dec.{leb, ltb, leb→le, ltb→lt}
use lib.ListN.{length, get_or, take, drop_of_length-le}
use lib.Seq.{slice, slice-cons, length-take-le}
use lib.IntN.{ℤ, pos, nat_abs, ◌+ℤ◌}
use mir.Syntax.{w64}
use mir.Val.{to_z, of_z}
use Rattle.cut_division.specs.Total.{add_up}
use Rattle.cut_division.proofs.Signed.{abs_add, back}
use Rattle.outputs.specs.Names.{totals, rows, addends}
use Rattle.base.specs.Runs.{joined, starts}
use Rattle.outputs.specs.Grams.{grams_at, GramsTo, figure_most, total_at}
use Rattle.base.proofs.Runs.{Run, run_at, all-at}

abbrev table : List ℕ
table = joined addends

-- the grams of the numbers from k to before the end, added to the sum, make the total
pub record Adding (g : List ℤ) (total : ℤ) (end k : ℕ) (sum : ℤ) : Type 0 where
  pub to_come : add_up ◌+ℤ◌ (grams_at g) sum (slice k end table) ≡ total
  pub room : nat_abs sum + (end - k) * figure_most < 2 ^ 63
  pub inside : end ≤ length table

pub run : (t : ℕ) → t < length totals
    → Run table (get_or addends t []) (get_or (starts 0 addends) t 0) (get_or (starts 0 addends) (t + 1) 0)
run t h = run_at addends t h

-- a total has at most three addends, and each is a name
few : (t : ℕ) → t < length totals → length (get_or addends t []) ≤ 3
few t h = leb→le _ _ (all-at (λ (l : List ℕ). leb (length l) 3) addends tt t [] h)

pub known : {g : List ℤ} {total : ℤ} {end k : ℕ} {sum : ℤ} → Adding g total end k sum → k < end
    → get_or table k 0 < length rows
known {end} {k} a h = ltb→lt _ _ (all-at (λ (n : ℕ). ltb n (length rows)) table tt k 0 (omega (arith, a.inside)))

module _ (g : List ℤ) (to : GramsTo figure_most g) where
  pub begun : (t : ℕ) → t < length totals
      → Adding g (total_at g t) (get_or (starts 0 addends) (t + 1) 0) (get_or (starts 0 addends) t 0) (pos 0)
  unfolding total_at
  begun t h =
      let r = run t h in
      record {
        to_come = ap (add_up ◌+ℤ◌ (grams_at g) (pos 0)) r.is;
        room = omega (arith, r.long, few t h);
        inside = r.inside;
      }

  module _ (total : ℤ) (end k : ℕ) (sum : ℤ) (a : Adding g total end k sum) (h : k < end) where
    abbrev n : ℕ
    n = get_or table k 0

    abbrev read : ℤ
    read = to_z w64 (of_z w64 (grams_at g n))

    was : read ≡ grams_at g n
    was = back (grams_at g n) (omega (arith, to.most n))

    pub one-fits : nat_abs sum + nat_abs read < 2 ^ 63
    one-fits = rw was (omega (arith, a.room, to.most n))

    pub one_more : (r : ℤ) → r ≡ sum +ℤ read → Adding g total end (k + 1) (to_z w64 (of_z w64 r))
    one_more r e =
        let s : r ≡ sum +ℤ grams_at g n = rw was at e in
        let b : to_z w64 (of_z w64 (sum +ℤ grams_at g n)) ≡ sum +ℤ grams_at g n =
        back (sum +ℤ grams_at g n) (omega (arith, a.room, to.most n, abs_add sum (grams_at g n))) in
        record {
          to_come = rw (s, b, add-one)
              (ap (add_up ◌+ℤ◌ (grams_at g) sum) (sym (slice-cons k end table 0 h a.inside)) ∙ a.to_come);
          room = rw (s, b) (omega (arith, a.room, to.most n, abs_add sum (grams_at g n)));
          inside = a.inside;
        }

  pub all-added : (total : ℤ) (end k : ℕ) (sum : ℤ) → Adding g total end k sum → end ≤ k → sum ≡ total
  all-added total end k sum a h =
      let l : length (take end table) ≤ k = omega (arith, length-take-le end table a.inside) in
      let e : slice k end table ≡ [] = drop_of_length-le (take end table) l in
      sym (ap (add_up ◌+ℤ◌ (grams_at g) sum) e) ∙ a.to_come
