-- The mended file has room in twice the file's length, so that what is read the second time is the mended file; and
-- nothing is said of a file that is too long. Assumes nothing.
use Prim.Native.Nat.{ℕ, ◌*◌, ◌<◌, ◌≤◌}
use mathlib.Core.Path.{◌≡◌, refl, ap, ◌∙◌}
use mathlib.Core.Bool.{Bool, true}
use mathlib.Core.List.{List}
use native.Mathlib.Omega.{arith}
use lib.Dec.{ltb}
use lib.ListN.{length, take, drop, length-drop}
use borrow.Author.Tests.{lt-ltb}
use Rattle.base.specs.Pick.{pick}
use Rattle.base.specs.Part.{part}
use Rattle.base.specs.Wrote.{Wrote}
use Rattle.base.proofs.Writes.{part-is}
use Rattle.limits.specs.declared.Source.{Source}
use Rattle.limits.specs.declared.Source.TheVariants.{StandardInput, Cooperative}
use Rattle.limits.specs.Limits.{input_bytes, cooperative_bytes, limits_of}
use Rattle.reader.specs.Files.{read_of}
use Rattle.gate.specs.Logs.{log_most, read_log}
use Rattle.spreadsheet.specs.Faults.{marked}
use Rattle.spreadsheet.specs.Mended.{mended_of, changes_of, text_start}
use Rattle.spreadsheet.specs.Passed.{text_from, crs_from}
use Rattle.spreadsheet.proofs.Lengths.{mended_length}
use Rattle.spreadsheet.proofs.Starts.{start-inside, start-passed, crs_few}
use Rattle.hints.specs.declared.Input.{Input}
use Rattle.hints.specs.declared.Input.TheVariants.{Farm, Log}
use Rattle.reach.specs.declared.Reach.{Reach}
use Rattle.reach.specs.declared.Reach.TheVariants.{TooLong}
use Rattle.reach.specs.Reach.{reach_of, further}
use Rattle.hints.specs.Hint.{farm_reach, log_reach, read_to, hint_of}

-- ---- the mended file, written

module _ (s : List ℕ) (m : Bool) (em : m ≡ marked s) (f : ℕ) (ef : f ≡ text_start m) where
  text-is : text_from s f ≡ mended_of s
  unfolding mended_of
  text-is = rw (ef, em)

  text-short : length (text_from s f) ≤ 2 * length s
  text-short =
      omega (
        arith,
        mended_length (take f s) (drop f s),
        length-drop f s,
        crs_few s m em f ef (length (crs_from s f)) refl,
      )

  module _ (out : List ℕ) where
    pub text-fits : 2 * length s ≤ length out → length (text_from s f) ≤ length out
    text-fits h = omega (arith, text-short)

    pub text-put : (new : List ℕ) (r : ℕ) → Wrote out 0 (text_from s f) new r → Wrote out 0 (mended_of s) new r
    text-put new r w = rw text-is at w

pub ruleset text_steps = (start-passed, text-fits, text-put)

-- ---- and read

mended_short : (s : List ℕ) → length (mended_of s) ≤ 2 * length s
mended_short s =
    omega (
      arith,
      ap length (text-is s (marked s) refl (text_start (marked s)) refl),
      text-short s (marked s) refl (text_start (marked s)) refl,
    )

module _ (s out : List ℕ) (h : 2 * length s ≤ length out) (new : List ℕ) (a : ℕ) (w : Wrote out 0 (mended_of s) new a)
  where
    pub hint_mended : (i : Input) (p : List ℕ) → p ≡ part new 0 a → (x y : Reach) → x ≡ read_to i s → y ≡ read_to i p
        → (n : ℕ) → n ≡ length (changes_of s) → (k : ℕ) → k ≡ pick (further x y) n 0 → k ≡ hint_of i s
    unfolding hint_of
    hint_mended i p ep x y ex ey n en k ek =
        let whole : p ≡ mended_of s = ep ∙ part-is w (omega (arith, w.past, mended_short s)) in
        ek ∙ (rw (ex, ey, en, whole))

-- ---- too long

module _ (s : List ℕ) (h : cooperative_bytes < length s) where
  farm-long : (source : Source) → farm_reach source s ≡ TooLong
  unfolding farm_reach limits_of read_of reach_of
  farm-long StandardInput =
      let e : ltb input_bytes (length s) ≡ true = lt-ltb input_bytes (length s) (omega arith) in rw e
  farm-long Cooperative =
      let e : ltb cooperative_bytes (length s) ≡ true = lt-ltb cooperative_bytes (length s) h in rw e

  log-long : log_reach s ≡ TooLong
  unfolding log_reach read_log reach_of
  log-long = let e : ltb log_most (length s) ≡ true = lt-ltb log_most (length s) (omega arith) in rw e

  pub hint_long : (i : Input) → 0 ≡ hint_of i s
  unfolding hint_of
  hint_long (Farm source) = rw (farm-long source)
  hint_long Log = rw log-long
