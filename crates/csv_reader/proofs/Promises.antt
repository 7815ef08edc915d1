-- The crate's promises: the reader finds exactly the grammar's records, in its places, and reports a break exactly
-- where none stands. Assumes nothing.
use Prim.Native.Nat.{ℕ, ◌<◌, ◌≤◌}
use mathlib.Core.List.{List, [], ◌∷◌}
use mathlib.Core.Logic.{◌↔◌}
use mathlib.Core.Path.{◌≡◌, refl, sym, ap, ◌∙◌}
use lib.ListN.{length, drop}
use native.Mathlib.Omega.{arith}
use Rattle.base.proofs.Rest.{rest_end}
use Rattle.base.proofs.Clash.{clash}
use Rattle.csv_reader.specs.declared.Fields.{Fields}
use Rattle.csv_reader.specs.declared.ReaderPlace.{ReaderPlace}
use Rattle.csv_reader.specs.declared.Step.{Step}
use Rattle.csv_reader.specs.declared.Step.TheVariants.{Record, Broken, End}
use Rattle.grammar.specs.Grammar.{FileOf, Front, Breaks, Fate}
use Rattle.grammar.specs.Reading.{Row, at_start, Reading, ◌then◌, end, whole, broken_after, reading_of, parts_of}
use Rattle.csv_reader.specs.Places.{step_of}
use Rattle.csv_reader.specs.Outcome.{ReadAs, Finds}
use Rattle.grammar.proofs.Agrees.{Read, as_row, stands_read, left-shorter}
use Rattle.grammar.proofs.Files.{file-read, read-file, whole-one, read-breaks, breaks-read}
use Rattle.csv_reader.proofs.Steps.{Says, says, next-reads}

-- one record alone can stand at the front of some bytes
record Same (cs ds : List (List ℕ)) (v w : List ℕ) : Type 0 where
  contents : cs ≡ ds
  left : v ≡ w

one-front : {cs ds : List (List ℕ)} {u v w : List ℕ} → Front cs u v → Front ds u w → Same cs ds v w
one-front f g = go (stands_read f) (stands_read g)
  where
    go : {cs ds : List (List ℕ)} {u v w : List ℕ} → Read u v cs → Read u w ds → Same cs ds v w
    go (as_row e) (as_row d) = record { contents = cc; left = cc }

module _ (s : List ℕ) (at : ℕ) where
  -- no record stands where one is broken, and none at the end of the file
  not-broken : {cs : List (List ℕ)} {v : List ℕ} → at_start (drop at s) ≡ Row.broken → Front cs (drop at s) v → ⊥
  not-broken e f = go (stands_read f) e
    where
      go : {cs : List (List ℕ)} {u v : List ℕ} → Read u v cs → at_start u ≡ Row.broken → ⊥
      go (as_row d) e = clash cc

  not-ended : {cs : List (List ℕ)} {v : List ℕ} → length s ≤ at → Front cs (drop at s) v → ⊥
  not-ended l f = omega (arith, left-shorter f, ap length (rest_end s at l))

  -- what is found is a record of the grammar: at its places stand its contents, and reading goes on past it
  pub found-stands : {f : Fields} {n : ReaderPlace} → step_of s at ≡ Record f n → ReadAs s at f n
  found-stands e = next-reads s at e

  -- every record of the grammar is found
  pub stands-found : {cs : List (List ℕ)} {left : List ℕ} → Front cs (drop at s) left → Finds s at cs left
  stands-found {cs} {left} x = go (step_of s at) refl (says s at)
    where
      go : (o : Step) → step_of s at ≡ o → Says s at o → Finds s at cs left
      go (Record f n) e (Says.found r) =
          let same = one-front r.stands x in
          record {
            fields = f;
            next = n;
            is = e;
            holds = r.holds ∙ ap parts_of same.contents;
            rest =
                sym same.left;
          }
      go Broken e (Says.broken _ b _) = absurd (not-broken b x)
      go End e (Says.ended l) = absurd (not-ended l x)

  -- a break is reported exactly where bytes are left and no record of the grammar stands
  pub broken-exactly : (step_of s at ≡ Broken) ↔
      ((at < length s) × ((cs : List (List ℕ)) (left : List ℕ) → Front cs (drop at s) left → ⊥))
  broken-exactly = (λ e. of-broken (rw e at (says s at)), λ h. go h.0 h.1 (step_of s at) refl (says s at))
    where
      of-broken : Says s at Broken
          → (at < length s) × ((cs : List (List ℕ)) (left : List ℕ) → Front cs (drop at s) left → ⊥)
      of-broken (Says.broken l b _) = (l, λ cs left f. not-broken b f)

      go : at < length s → ((cs : List (List ℕ)) (left : List ℕ) → Front cs (drop at s) left → ⊥) → (o : Step)
          → step_of s at ≡ o → Says s at o → step_of s at ≡ Broken
      go l none (Record f n) e (Says.found r) = absurd (none r.contents (drop n.at s) r.stands)
      go l none Broken e (Says.broken _ _ _) = e
      go l none End e (Says.ended m) = absurd (omega arith)

  -- and the end exactly where none are left
  pub end-exactly : (step_of s at ≡ End) ↔ (length s ≤ at)
  end-exactly = (λ e. of_end (rw e at (says s at)), λ l. go l (step_of s at) refl (says s at))
    where
      of_end : Says s at End → length s ≤ at
      of_end (Says.ended l) = l

      go : length s ≤ at → (o : Step) → step_of s at ≡ o → Says s at o → step_of s at ≡ End
      go l (Record f n) e (Says.found r) = absurd (omega (arith, r.past, r.fits))
      go l Broken e (Says.broken m _ _) = absurd (omega arith)
      go l End e (Says.ended _) = e

-- a file is read through, as these records, exactly where it is a file of the grammar of these records
pub file-exactly : (s : List ℕ) (rs : List (List (List ℕ))) → (reading_of s ≡ whole rs) ↔ FileOf rs s
file-exactly s rs = (read-file rs s, file-read)

-- a file has one reading
pub one-reading : (s : List ℕ) (rs rs' : List (List (List ℕ))) → FileOf rs s → FileOf rs' s → rs ≡ rs'
one-reading s rs rs' f g = whole-one rs rs' (sym (file-read f) ∙ file-read g)

-- a file breaks after these records exactly where they stand at its front and no record stands past them
pub breaks-exactly : (s : List ℕ) (rs : List (List (List ℕ))) → (reading_of s ≡ broken_after rs) ↔ Breaks rs s
breaks-exactly s rs = (read-breaks rs s, breaks-read rs s)

-- a reading ends in one of two ways
data Shape : Reading → Type 0 where
  kept : (rs : List (List (List ℕ))) → Shape (whole rs)
  broke : (rs : List (List (List ℕ))) → Shape (broken_after rs)

shape : (r : Reading) → Shape r
shape end = Shape.kept []
shape Reading.broken = Shape.broke []
shape (cs then r) = go (shape r)
  where
    go : {r : Reading} → Shape r → Shape (cs then r)
    go (Shape.kept rs) = Shape.kept (cs ∷ rs)
    go (Shape.broke rs) = Shape.broke (cs ∷ rs)

-- every file is one of the grammar, or breaks
pub fate : (s : List ℕ) → Fate s
fate s = go (reading_of s) refl (shape (reading_of s))
  where
    go : (r : Reading) → reading_of s ≡ r → Shape r → Fate s
    go r e (Shape.kept rs) = Fate.kept rs (read-file rs s e)
    go r e (Shape.broke rs) = Fate.broke rs (read-breaks rs s e)
