-- The reader's outcome at a position of the file, and what is read of the rest of the file from there. A loop over a
-- file's records keeps `g (reading_of (drop at s)) ≡ X` for a function g of its own; a turn of it opens the reading by
-- what `says` gives for the outcome. Assumes nothing.
use Prim.Native.Nat.{ℕ, zero, suc, ◌-◌, ◌+◌, ◌<◌, ◌≤◌}
use mathlib.Core.List.{List, [], ◌∷◌, ◌++◌, append_assoc}
use mathlib.Core.Bool.{Bool, true, false}
use mathlib.Core.Path.{◌≡◌, refl, sym, ap, ◌∙◌, subst}
use lib.Dec.{eqb, leb}
use lib.ListN.{length, get_or, drop, length-append, get_or-append, get_or-eq_default}
use lib.Seq.{drop-length, get_or-append_seam}
use native.Mathlib.Omega.{arith}
use borrow.Author.Tests.{leb-true, leb-false}
use Rattle.base.specs.Pick.{pick}
use Rattle.base.specs.Part.{part}
use Rattle.base.proofs.Rest.{rest_at, rest_end}
use Rattle.plain_fields.specs.declared.Place.{Place}
use Rattle.csv_reader.specs.declared.Fields.{Fields}
use Rattle.csv_reader.specs.declared.ReaderPlace.{ReaderPlace}
use Rattle.plain_fields.specs.declared.FieldEnd.{FieldEnd}
use Rattle.plain_fields.specs.declared.FieldEnd.TheVariants as ends
use Rattle.csv_reader.specs.declared.Step.{Step}
use Rattle.csv_reader.specs.declared.Step.TheVariants.{Record, Broken, End}
use Rattle.grammar.specs.Reading.{Row, row, with_field, at_start, Reading, end, reading_of, parts_of}
use Rattle.plain_fields.specs.Places.{held}
use Rattle.field_ends.specs.Places.{field_from}
use Rattle.csv_reader.specs.Places.{parts_at, reader, no_fields, and_field, row_from, step_of}
use Rattle.csv_reader.specs.Outcome.{InFile, Placed, ReadAs}
use Rattle.grammar.proofs.Cases.{by_test}
use Rattle.csv_reader.proofs.Contents.{FieldAt, field_at}
use Rattle.grammar.proofs.Agrees.{read-stands}
use Rattle.grammar.proofs.Files.{reading-row, reading-broken, reading-none}

-- the places of f hold these contents
record Holds (s : List ℕ) (f : Fields) (cs : List (List ℕ)) : Type 0 where
  count : f.count ≡ length cs
  first : held s f.first ≡ get_or cs 0 []
  second : held s f.second ≡ get_or cs 1 []
  third : held s f.third ≡ get_or cs 2 []
  fourth : held s f.fourth ≡ get_or cs 3 []

held-parts : {s : List ℕ} {f : Fields} {cs : List (List ℕ)} → Holds s f cs → parts_at s f ≡ parts_of cs
held-parts h = cc

-- one field more, at place p: what is held where the k-th field is kept
module _ (s : List ℕ) (p q : Place) (n k : ℕ) where
  more-held : (cs : List (List ℕ)) → n ≡ length cs → held s q ≡ get_or cs k []
      → held s (pick (eqb n k) p q) ≡ get_or (cs ++ (held s p ∷ [])) k []
  more-held cs all e =
      by_test (λ (x : Place). held s x ≡ get_or all_of k []) n k p q
      (λ h. let m : k ≡ length cs = omega arith in rw m (sym (get_or-append_seam cs (held s p) [] [])))
      (λ d. e ∙ other (leb (length cs) k) refl d)
    where
      all_of : List (List ℕ)
      all_of = cs ++ (held s p ∷ [])

      other : (t : Bool) → leb (length cs) k ≡ t → (n ≡ k → ⊥) → get_or cs k [] ≡ get_or all_of k []
      other true h d =
          let l : length cs ≤ k = leb-true _ _ h in
          let m : length all_of ≤ k = omega (arith, length-append cs (held s p ∷ []), l, d) in
          get_or-eq_default cs [] l ∙ sym (get_or-eq_default all_of [] m)
      other false h d = sym (get_or-append cs (held s p ∷ []) [] k (leb-false _ _ h))

  more-placed : InFile s p → InFile s q → InFile s (pick (eqb n k) p q)
  more-placed a b = by_test (InFile s) n k p q (λ _. a) (λ _. b)

none-held : (s : List ℕ) → Holds s no_fields []
unfolding part
none-held s = record { count = refl; first = refl; second = refl; third = refl; fourth = refl }

none-placed : (s : List ℕ) → Placed s no_fields
none-placed s = let z : InFile s no_fields.first = record { order = omega arith; fits = omega arith } in
    record { first = z; second = z; third = z; fourth = z }

module _ {s : List ℕ} {f : Fields} (p : Place) where
  and_held : {cs : List (List ℕ)} → Holds s f cs → Holds s (and_field f p) (cs ++ (held s p ∷ []))
  and_held {cs} h =
      record {
        count = simp length-append (omega (arith, h.count));
        first = more-held s p f.first f.count 0 cs h.count h.first;
        second = more-held s p f.second f.count 1 cs h.count h.second;
        third = more-held s p f.third f.count 2 cs h.count h.third;
        fourth = more-held s p f.fourth f.count 3 cs h.count h.fourth;
      }

  and_placed : Placed s f → InFile s p → Placed s (and_field f p)
  and_placed g a =
      record {
        first = more-placed s p f.first f.count 0 a g.first;
        second = more-placed s p f.second f.count 1 a g.second;
        third = more-placed s p f.third f.count 2 a g.third;
        fourth = more-placed s p f.fourth f.count 3 a g.fourth;
      }

-- a record that began at lo, of which the fields `done` were read: what is read of the rest of it, and what the reader
-- finds
data RestRead (s : List ℕ) (lo : ℕ) (done : List (List ℕ)) : Row → Step → Type 0 where
  found : {c : List ℕ} {cs : List (List ℕ)} {f : Fields} {n : ReaderPlace} → Holds s f (done ++ (c ∷ cs)) → Placed s f
      → lo < n.at → n.at ≤ length s
      → RestRead s lo done (row c cs (drop n.at s)) (Record f n)
  broken : RestRead s lo done Row.broken Broken

comma-told : {s : List ℕ} {lo : ℕ} {done : List (List ℕ)} (c : List ℕ) {R : Row} {o : Step}
    → RestRead s lo (done ++ (c ∷ [])) R o → RestRead s lo done (with_field c R) o
comma-told {s} {lo} {done} c (found {c = d} {cs = ds} {f = f} h g p l) =
    found (subst (Holds s f) (append_assoc done (c ∷ []) (d ∷ ds)) h) g p l
comma-told c broken = broken

module _ (s : List ℕ) (lo : ℕ) (below : lo < length s) where
  last-told : (f : Fields) (done : List (List ℕ)) → Holds s f done → Placed s f → (p : Place) → InFile s p → (n : ℕ)
      → lo < n → n ≤ length s
      → RestRead s lo done (row (held s p) [] (drop n s)) (Record (and_field f p) (reader n))
  last-told f done h g p a n l m = found {n = reader n} (and_held p h) (and_placed p g a) l m

  row_told : (k : ℕ) (f : Fields) (at : ℕ) (done : List (List ℕ)) → Holds s f done → Placed s f → lo ≤ at
      → at ≤ length s → length s - at < k
      → RestRead s lo done (at_start (drop at s)) (row_from k f at s)
  unfolding row_from
  row_told zero f at done h g l m w = absurd (omega arith)
  row_told (suc k) f at done h g l m w = go (field_from at (drop at s)) refl (field_at s at m) (row_told k)
    where
      go : (r : FieldEnd) → field_from at (drop at s) ≡ r → FieldAt s at r
          → ((f : Fields) (at : ℕ) (done : List (List ℕ)) → Holds s f done → Placed s f → lo ≤ at → at ≤ length s
          → length s - at < k
          → RestRead s lo done (at_start (drop at s)) (row_from k f at s))
          → RestRead s lo done (at_start (drop at s)) (row_from (suc k) f at s)
      go (ends.Comma p n) e (FieldAt.at-comma i q) ih =
          let a : InFile s p = record { order = i.order; fits = omega (arith, i) } in
          rw (row_from, e, q)
          (comma-told (held s p)
          (ih (and_field f p) n (done ++ (held s p ∷ [])) (and_held p h) (and_placed p g a) (omega (arith, i)) i.fits
          (omega (arith, i))))
      go (ends.Crlf p n) e (FieldAt.at-crlf i q) ih =
          rw (row_from, e, q) (last-told f done h g p (record { order = i.order; fits = omega (arith, i) }) n
          (omega (arith, i)) i.fits)
      go (ends.File p) e (FieldAt.at-end i q) ih =
          rw (row_from, e, q ∙ ap (row (held s p) []) (sym (drop-length s)))
          (last-told f done h g p (record { order = i.order; fits = omega (arith, i) }) (length s) below (omega arith))
      go ends.Broken e (FieldAt.broken q) ih = rw (row_from, e, q) broken

-- what each outcome says of the file
pub data Says (s : List ℕ) (at : ℕ) : Step → Type 0 where
  found : {f : Fields} {n : ReaderPlace} → ReadAs s at f n → Says s at (Record f n)
  broken : at < length s → at_start (drop at s) ≡ Row.broken → reading_of (drop at s) ≡ Reading.broken
      → Says s at Broken
  ended : length s ≤ at → Says s at End

module _ (s : List ℕ) (at : ℕ) where
  told-says : at < length s → {R : Row} {o : Step} → RestRead s at [] R o → at_start (drop at s) ≡ R → Says s at o
  told-says below {R} t e = go t (ap at_start (sym split) ∙ e)
    where
      b : ℕ
      b = get_or s at 0

      u : List ℕ
      u = drop (at + 1) s

      split : drop at s ≡ b ∷ u
      split = rest_at s at below

      go : {R : Row} {o : Step} → RestRead s at [] R o → at_start (b ∷ u) ≡ R → Says s at o
      go (RestRead.found {c} {cs} {n = n} h g p l) q =
          Says.found {n = n}
          (record {
            contents = c ∷ cs;
            stands = rw split (read-stands b u q);
            holds = held-parts h;
            placed = g;
            reads = rw split (reading-row b u q);
            past = p;
            fits = l;
          })
      go RestRead.broken q = Says.broken below (rw split q) (rw split (reading-broken b u q))

  pub says : Says s at (step_of s at)
  unfolding step_of
  says = go (leb (length s) at) refl
    where
      go : (t : Bool) → leb (length s) at ≡ t → Says s at (pick t End (row_from (suc (length s - at)) no_fields at s))
      go true e = Says.ended (leb-true (length s) at e)
      go false e =
          let l : at < length s = leb-false (length s) at e in
          told-says l (row_told s at l (suc (length s - at)) no_fields at [] (none-held s) (none-placed s) (omega arith)
          (omega arith) (omega arith)) refl

-- the reader finds a record at `at`
module _ (s : List ℕ) (at : ℕ) {f : Fields} {n : ReaderPlace} (e : step_of s at ≡ Record f n) where
  pub next-reads : ReadAs s at f n
  next-reads = go (rw e at (says s at))
    where
      go : Says s at (Record f n) → ReadAs s at f n
      go (Says.found x) = x

-- the end of the file
pub end_read : (s : List ℕ) (at : ℕ) → length s ≤ at → reading_of (drop at s) ≡ end
end_read s at l = rw (rest_end s at l) reading-none
