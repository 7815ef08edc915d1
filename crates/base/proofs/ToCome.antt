-- Texts written one after the other into a buffer: what is still to be written, beside the whole. Assumes nothing.
use Prim.Native.Nat.{ℕ, ◌+◌}
use mathlib.Core.Path.{◌≡◌, refl, ap, ◌∙◌}
use mathlib.Core.List.{List, [], ◌++◌}
use native.Mathlib.Omega.{arith}
use lib.ListN.{length, length-append}
use lib.Seq.{sets}
use Rattle.base.specs.Wrote.{Wrote}
use Rattle.base.proofs.Writes.{sets_join, wrote-keeps-length}

-- `left`, stored from `next` on, would make `now` the buffer in which the whole is written from `start` on
pub record ToCome (old : List ℕ) (start : ℕ) (whole now left : List ℕ) (next : ℕ) : Type 0 where
  pub to_come : sets now next left ≡ sets old start whole
  pub adds-up : next + length left ≡ start + length whole
  pub same : length now ≡ length old

module _ {old whole : List ℕ} {start : ℕ} where
  pub begun : ToCome old start whole old whole start
  begun = record { to_come = refl; adds-up = refl; same = refl }

  pub gone_on : {now a b new : List ℕ} {next after : ℕ} → ToCome old start whole now (a ++ b) next
      → Wrote now next a new after
      → ToCome old start whole new b after
  gone_on {now} {a} {b} {next} {after} t w =
      record {
        to_come = ap (λ (m : List ℕ). sets m after b) w.bytes ∙ ap (λ (n : ℕ). sets (sets now next a) n b) w.past
            ∙ sets_join now next a b ∙ t.to_come;
        adds-up = omega (arith, w.past, t.adds-up, length-append a b);
        same = wrote-keeps-length w ∙ t.same;
      }

  pub ended : {now : List ℕ} {next : ℕ} → ToCome old start whole now [] next → Wrote old start whole now next
  ended t = record { bytes = t.to_come; past = omega (arith, t.adds-up) }
