-- The loop over a file's records: what is read from here on, X, is what is read from the front. Each step opens the
-- reading by what stands at the place. Assumes nothing.
use Prim.Native.Nat.{ℕ, ◌+◌, ◌-◌, ◌≤◌, ◌<◌}
use mathlib.Core.Path.{◌≡◌, refl, sym, ap, ◌∙◌}
use mathlib.Core.Bool.{Bool, true, false}
use mathlib.Core.List.{List}
use native.Mathlib.Omega.{arith}
use lib.Dec.{leb, lit<}
use lib.ListN.{length, take, drop, set, replicate, length-set, length-replicate}
use borrow.Author.Tests.{leb-false}
use Rattle.base.specs.First.{first}
use Rattle.csv_reader.specs.declared.ReaderPlace.{ReaderPlace}
use Rattle.csv_reader.specs.declared.Step.{Step}
use Rattle.grammar.specs.Reading.{Parts, reading_of}
use Rattle.csv_reader.specs.Places.{parts_at}
use Rattle.csv_reader.proofs.Steps.{Says, says, end_read}
use Rattle.farm.specs.declared.Herd.{Herd}
use Rattle.farm.specs.declared.Farm.{Farm}
use Rattle.farm.specs.declared.Refusal.{Refusal}
use Rattle.farm.specs.declared.Refusal.TheVariants.{RecordBroken, EarlierLabel, NoRoomForHerd, InputMissing}
use Rattle.farm.specs.Prints.{print_of}
use Rattle.farm.specs.Limits.{herds_most}
use Rattle.farm.specs.Herds.{no_herd}
use Rattle.herd_tests.specs.Tests.{earlier_label, prints_of}
use Rattle.herd_tests.proofs.PrintsSoFar.{prints-stored}
use Rattle.progress.specs.declared.Effect.{Effect}
use Rattle.progress.specs.declared.Effect.TheVariants.{Adds, Wrong, Begins, Ends}
use Rattle.places.specs.declared.PlaceRead.{PlaceRead}
use Rattle.places.specs.Places.{read_by, read_at}
use Rattle.next_herd.specs.Farms.{lacking_with, herds_so_far}
use Rattle.next_herd.proofs.FarmSteps.{one-counted}
use Rattle.reader.specs.declared.files.Current.{Current}
use Rattle.reader.specs.declared.FileAnswer.{FileAnswer}
use Rattle.reader.specs.Files.{
  Progress,
  refused,
  accepted,
  nothing_read,
  record_tests,
  taken,
  closed,
  finished,
  read_from,
}
use Rattle.reader.proofs.Progress.{progress, Underway}
use Rattle.reader.proofs.Effects.{new_tests, beginning, with_current, EffectSays, effect_says}
use Rattle.reader.proofs.Effects.{labelled-again, farm-full, begins_another}
use Rattle.reader.proofs.FileSteps.{none_yet, stored, closed-farm, closed-lacking, input_missing, farm-read}

-- what is read from a place on, where the n-th record comes
abbrev pub on_from : ℕ → List ℕ → ReaderPlace → ℕ → Progress → FileAnswer
on_from most s place n p = read_from most n p (reading_of (drop place.at s))

-- ---- what stands at a place says what is read

data PlaceSays (most : ℕ) (s : List ℕ) (place : ReaderPlace) (n : ℕ) (p : Progress) : Effect → Herd → ReaderPlace
    → Type 0 where
  ends : {h : Herd} {next : ReaderPlace} → on_from most s place n p ≡ finished p
      → PlaceSays most s place n p Ends h next
  wrong : {refusal : Refusal} {h : Herd} {next : ReaderPlace} → on_from most s place n p ≡ refused n refusal
      → PlaceSays most s place n p (Wrong refusal) h next
  adds : {h : Herd} {next : ReaderPlace} → (p.herd ≡ no_herd → ⊥)
      → on_from most s place n p ≡ on_from most s next (n + 1) (with_current p h) → place.at < next.at
      → next.at ≤ length s
      → PlaceSays most s place n p Adds h next
  begins : {h : Herd} {next : ReaderPlace}
      → on_from most s place n p ≡ first (new_tests most n p h.label) (on_from most s next (n + 1) (beginning n p h))
      → place.at < next.at → next.at ≤ length s
      → PlaceSays most s place n p Begins h next

module _ (most : ℕ) (s : List ℕ) (place : ReaderPlace) (n : ℕ) (p : Progress) where
  effect_read : (x : Parts) (next : ReaderPlace)
      → on_from most s place n p ≡ first (record_tests most n p x) (on_from most s next (n + 1) (taken n p x))
      → place.at < next.at
      → next.at ≤ length s
      → {t : Effect} {h : Herd} → EffectSays most n p x t h → PlaceSays most s place n p t h next
  effect_read x next e past fits (EffectSays.wrong l) = PlaceSays.wrong (e ∙ l _)
  effect_read x next e past fits (EffectSays.adds some l k) =
      PlaceSays.adds some (e ∙ l _ ∙ ap (on_from most s next (n + 1)) k) past fits
  effect_read x next e past fits (EffectSays.begins {h} l k) =
      PlaceSays.begins
      (e ∙ l _ ∙ ap (λ (q : Progress). first (new_tests most n p h.label) (on_from most s next (n + 1) q)) k)
      past fits

  step-read : {o : Step} → Says s place.at o → let m = read_by s place p.herd o in
      PlaceSays most s place n p m.effect m.herd m.next
  unfolding read_from
  step-read (Says.found {f} {n = next} x) =
      let e : on_from most s place n p
      ≡ first (record_tests most n p (parts_at s f)) (on_from most s next (n + 1) (taken n p (parts_at s f))) =
      rw (x.reads, read_from, x.holds) in
      effect_read (parts_at s f) next e x.past x.fits (effect_says most n p (parts_at s f))
  step-read (Says.broken b a e) = PlaceSays.wrong {refusal = RecordBroken} (rw (e, read_from))
  step-read (Says.ended l) = PlaceSays.ends (rw (end_read s place.at l, read_from))

  place-says : let m = read_at s place p.herd in PlaceSays most s place n p m.effect m.herd m.next
  unfolding read_at
  place-says = step-read (says s place.at)

-- ---- how far the loop is

-- at a place where the n-th record comes: there is room for the herd being read, the first of the prints are those of
-- the herds' labels, and what is read from here on is what is read from the front
pub record Reached (most : ℕ) (s : List ℕ) (place : ReaderPlace) (hs : List Herd) (count : ℕ) (ps : List ℕ)
    (c : Current) (n : ℕ) : Type 0 where
  pub limit : most ≤ herds_most
  pub inside : place.at ≤ length s
  pub numbered : (0 < n) × (n ≤ place.at + 1)
  pub room : count < herds_most
  pub underway : Underway (progress (record { herds = hs; count = count }) c)
  pub herds-long : length hs ≡ herds_most
  pub prints-long : length ps ≡ herds_most
  pub printed : take count ps ≡ prints_of (take count hs)
  pub reads : on_from most s place n (progress (record { herds = hs; count = count }) c)
      ≡ read_from most 1 nothing_read (reading_of s)

pub at_front : (most : ℕ) → most ≤ herds_most → (s : List ℕ) {place : ReaderPlace} → place.at ≡ 0 → {h : Herd}
    → h ≡ no_herd → {g : Herd} → g ≡ no_herd
    → Reached most s place (replicate herds_most h) 0 (replicate herds_most 0)
    (record { herd = g; first = 0; lacking = 0 }) 1
at_front most limit s e {h} q w =
    record {
      limit = limit;
      inside = omega arith;
      numbered = (omega arith, omega arith);
      room = lit< tt;
      underway = Underway.not_yet (rw (q, w));
      herds-long = length-replicate herds_most h;
      prints-long = length-replicate {A = ℕ} herds_most 0;
      printed = refl;
      reads = rw (e, q, w);
    }

-- ---- one place

-- it takes the record
data Taken : Effect → Type 0 where
  on-adds : Taken Adds
  on-begins : Taken Begins

module _ (most : ℕ) (s : List ℕ) (place : ReaderPlace) (hs : List Herd) (count : ℕ) (ps : List ℕ) (c : Current) (n : ℕ)
    (x : Reached most s place hs count ps c n) {m : PlaceRead} (w : m ≡ read_at s place c.herd) where
  -- the farm of the herds that are closed
  abbrev f : Farm
  f = record { herds = hs; count = count }

  abbrev X : FileAnswer
  X = read_from most 1 nothing_read (reading_of s)

  place_is : {u : Effect} → m.effect ≡ u → PlaceSays most s place n (progress f c) u m.herd m.next
  place_is z = rw (sym w, z) at (place-says most s place n (progress f c))

  module _ (z : m.effect ≡ Ends) {k : ℕ} (q : k ≡ lacking_with c.lacking c.herd c.first) where
    read_through : {r : FileAnswer} → r ≡ finished (progress f c) → r ≡ X
    read_through {r} v = go (place_is z)
      where
        go : PlaceSays most s place n (progress f c) Ends m.herd m.next → r ≡ X
        go (PlaceSays.ends e) = v ∙ sym e ∙ x.reads

    pub read-lacking : (k ≡ 0 → ⊥) → {r : FileAnswer} → r ≡ refused k InputMissing → r ≡ X
    read-lacking some v = read_through (input_missing f c x.underway q some v)

    pub read_whole : k ≡ 0 → {j : ℕ} → j ≡ herds_so_far count c.first
        → accepted (record { herds = set hs count c.herd; count = j }) ≡ X
    read_whole none v = read_through (farm-read f c x.underway q none v)

  pub read-wrong : {refusal : Refusal} → m.effect ≡ Wrong refusal → {r : FileAnswer} → r ≡ refused n refusal → r ≡ X
  read-wrong {refusal} z {r} v = go (place_is z)
    where
      go : PlaceSays most s place n (progress f c) (Wrong refusal) m.herd m.next → r ≡ X
      go (PlaceSays.wrong e) = v ∙ sym e ∙ x.reads

  past_it : {u : Effect} → Taken u → m.effect ≡ u → (place.at < m.next.at) × (m.next.at ≤ length s)
  past_it t z = go t (place_is z)
    where
      go : {u : Effect} → Taken u → PlaceSays most s place n (progress f c) u m.herd m.next
          → (place.at < m.next.at) × (m.next.at ≤ length s)
      go Taken.on-adds (PlaceSays.adds some e past fits) = (past, fits)
      go Taken.on-begins (PlaceSays.begins e past fits) = (past, fits)

  module _ (z : m.effect ≡ Adds) where
    pub adds-less : length s - m.next.at < length s - place.at
    adds-less = omega (arith, past_it Taken.on-adds z)

    pub added : Reached most s m.next hs count ps
        (record { herd = m.herd; first = c.first; lacking = c.lacking }) (n + 1)
    added =
        let y = past_it Taken.on-adds z in
        record {
          limit = x.limit;
          inside = y.1;
          numbered = (omega arith, omega (arith, y, x.numbered));
          room = x.room;
          underway = go (place_is z) x.underway;
          herds-long = x.herds-long;
          prints-long = x.prints-long;
          printed = x.printed;
          reads = on (place_is z);
        }
      where
        on : PlaceSays most s place n (progress f c) Adds m.herd m.next
            → on_from most s m.next (n + 1) (with_current (progress f c) m.herd) ≡ X
        on (PlaceSays.adds some e past fits) = sym e ∙ x.reads

        go : PlaceSays most s place n (progress f c) Adds m.herd m.next → Underway (progress f c)
            → Underway (with_current (progress f c) m.herd)
        go (PlaceSays.adds some e past fits) (Underway.reading k) = Underway.reading k
        go (PlaceSays.adds some e past fits) (Underway.not_yet k) = absurd (some (ap (λ (p : Progress). p.herd) k))

  -- a record of another label
  module _ (z : m.effect ≡ Begins) where
    pub read-earlier : {b : Bool} → b ≡ earlier_label (take count hs) m.herd.label → b ≡ true
        → {r : FileAnswer} → r ≡ refused n EarlierLabel → r ≡ X
    read-earlier {b} q t {r} v = go (place_is z)
      where
        go : PlaceSays most s place n (progress f c) Begins m.herd m.next → r ≡ X
        go (PlaceSays.begins e past fits) =
            v ∙ sym (labelled-again most n (progress f c) m.herd.label _ (sym q ∙ t)) ∙ sym e ∙ x.reads

    pub begins-less : length s - m.next.at < length s - place.at
    begins-less = omega (arith, past_it Taken.on-begins z)

    module _ (new : earlier_label (take count hs) m.herd.label ≡ false) {b : Bool}
        (v : b ≡ leb most (herds_so_far count c.first)) where
      so_far : {t : Bool} → b ≡ t → leb most (closed (progress f c)).farm.count ≡ t
      so_far y = rw (closed-farm x.underway) (sym v ∙ y)

      pub read-full : b ≡ true → {r : FileAnswer} → r ≡ refused n NoRoomForHerd → r ≡ X
      read-full y {r} q = go (place_is z)
        where
          go : PlaceSays most s place n (progress f c) Begins m.herd m.next → r ≡ X
          go (PlaceSays.begins e past fits) =
              q ∙ sym (farm-full most n (progress f c) m.herd.label _ new (so_far y)) ∙ sym e ∙ x.reads

      pub begun : b ≡ false → {k : ℕ} → k ≡ herds_so_far count c.first → {lacking' : ℕ}
          → lacking' ≡ lacking_with c.lacking c.herd c.first → {p : ℕ} → p ≡ print_of c.herd.label
          → Reached most s m.next (set hs count c.herd) k (set ps count p)
          (record { herd = m.herd; first = n; lacking = lacking' }) (n + 1)
      begun y {k} q {lacking'} t {p} u =
          let g = past_it Taken.on-begins z in
          let below : k < most = rw q (leb-false most (herds_so_far count c.first) (sym v ∙ y)) in
          record {
            limit = x.limit;
            inside = g.1;
            numbered = (omega arith, omega (arith, g, x.numbered));
            room = omega (arith, x.limit);
            underway = Underway.reading (λ e. omega (arith, x.numbered));
            herds-long = rw length-set x.herds-long;
            prints-long = rw length-set x.prints-long;
            printed = prints x.underway;
            reads = on (place_is z);
          }
        where
          prints : Underway (progress f c) → take k (set ps count p) ≡ prints_of (take k (set hs count c.herd))
          prints (Underway.not_yet e) = rw (q, none_yet e)
          prints (Underway.reading r) =
              rw (q, sym (one-counted count c.first r))
              (prints-stored ps hs count x.printed x.prints-long x.herds-long x.room c.herd u)

          is : progress (stored f c.herd k) (record { herd = m.herd; first = n; lacking = lacking' })
              ≡ beginning n (progress f c) m.herd
          is = rw (t, q, closed-farm x.underway, closed-lacking x.underway)

          on : PlaceSays most s place n (progress f c) Begins m.herd m.next
              → on_from most s m.next (n + 1)
              (progress (stored f c.herd k) (record { herd = m.herd; first = n; lacking = lacking' })) ≡ X
          on (PlaceSays.begins e past fits) = ap (on_from most s m.next (n + 1)) is
              ∙ sym (begins_another most n (progress f c) m.herd.label _ new (so_far y)) ∙ sym e ∙ x.reads

pub ruleset read_steps =
    (at_front, read-lacking, read_whole, read-wrong, adds-less, added, read-earlier, begins-less, read-full, begun)
