-- The steps of the writing calls on a file: a farm that is read passes the record checks, so what the calls on its
-- records give is what the calls on the file give. Assumes nothing.
use Rattle.base.specs.declared.refusals.Refused.{Refused}
use Rattle.std.specs.Prelude.{Ok, Err}
use Prim.Native.Nat.{ℕ, zero, suc, ◌+◌, ◌*◌, ◌<◌, ◌≤◌}
use mathlib.Core.Path.{◌≡◌, refl, sym, ap, ◌∙◌}
use mathlib.Core.Bool.{Bool, false}
use mathlib.Core.List.{List, [], ◌∷◌}
use native.Mathlib.Omega.{arith}
use lib.ListN.{length, get_or, length-append, length-replicate, length-take}
use lib.Seq.{get_or-take}
use borrow.Author.Tests.{lt-ltb, le-ltb, le-leb}
use mir.Syntax.{w64}
use mir.Val.{Fits}
use Rattle.base.specs.Wrote.{Wrote}
use Rattle.base.proofs.Each.{each-get_or}
use Rattle.base.specs.Refused.{refuse}
use Rattle.farm.specs.Limits.{herds_most}
use Rattle.farm.specs.declared.Herd.{Herd}
use Rattle.farm.specs.declared.Farm.{Farm}
use Rattle.farm.specs.declared.Refusal.{Refusal}
use Rattle.checks.specs.Checks.{check_herd, check_farm, herds_of}
use Rattle.farm.specs.Herds.{no_herd}
use Rattle.farm.specs.Answers.{Accepted, Checked}
use Rattle.checks.proofs.Accepts.{farm-count, farm-each}
use Rattle.limits.specs.declared.Source.{Source}
use Rattle.limits.specs.Limits.{limits_of}
use Rattle.reader.specs.declared.FileAnswer.{FileAnswer}
use Rattle.reader.specs.Files.{read_of, accepted}
use Rattle.rules_theorems.proofs.Allowed.{allowed-fit}
use Rattle.rules_theorems.proofs.Accepts.{accepts-exactly}
use Rattle.rules_theorems.proofs.Passing.{accepted-passes}
use Rattle.written.specs.Answer.{leaves, answers, Answered, Written}
use Rattle.written.proofs.Answers.{written}
use Rattle.views.specs.declared.View.{View}
use Rattle.views.specs.Views.{viewed, has_limit}
use Rattle.views.specs.Rooms.{herd_view_room, behind_room, view_room}
use Rattle.views.proofs.FarmSteps.{has-none}
use Rattle.contracts.specs.Listings.{Called, herd_call, totals_call, accepted_call}
use Rattle.contracts.specs.Listings.{file_herd_call, file_totals_call, file_call}
use Rattle.contracts.proofs.RecordSteps.{accepted-answered}

-- what stands past the end does not matter inside a list
inside : {A : Type 0} (l : List A) (i : ℕ) (d e : A) → i < length l → get_or l i d ≡ get_or l i e
inside [] i d e h = absurd (omega arith)
inside (a ∷ l) zero d e h = refl
inside (a ∷ l) (suc i) d e h = inside l i d e (omega arith)

-- an empty listing leaves the buffer, whatever its length
empty-leaves : (old : List ℕ) → old ≡ leaves [] old
unfolding leaves
empty-leaves old = rw (le-leb 0 (length old) (omega arith))

empty-answers : (old : List ℕ) → Ok 0 ≡ answers [] old
unfolding answers
empty-answers old = rw (le-leb 0 (length old) (omega arith))

module _ (source : Source) (s : List ℕ) (a : FileAnswer) (q : a ≡ read_of (limits_of source) s) where
  module _ (e : a.checked ≡ Accepted) where
    pub as-accepted : read_of (limits_of source) s ≡ accepted a.farm
    as-accepted = sym q ∙ as_is a.checked e
      where
        as_is : (k : Checked) → k ≡ Accepted → record { checked = k; farm = a.farm } ≡ accepted a.farm
        as_is k w = rw w

    pub passes : check_farm a.farm ≡ Accepted
    passes = accepted-passes source s a.farm as-accepted

    long : length a.farm.herds ≡ herds_most
    long =
        let k = ((accepts-exactly source s a.farm).0 as-accepted).says in
        ap (λ (f : Farm). length f.herds) k.is
        ∙ simp (length-append, length-replicate) (omega (arith, k.most, allowed-fit source))

    pub in_array : (i : ℕ) → i < a.farm.count → i < herds_most
    in_array i h = omega (arith, farm-count a.farm passes)

    pub place-fits : (i : ℕ) → i < a.farm.count → Fits w64 (i * 104)
    place-fits i h = omega (arith, farm-count a.farm passes)

    pub herd-at : (i : ℕ) (d : Herd) → i < a.farm.count
        → get_or a.farm.herds i d ≡ get_or a.farm.herds i no_herd
    herd-at i d h = inside a.farm.herds i d no_herd (omega (arith, long, farm-count a.farm passes))

    herd-passes : (i : ℕ) (d : Herd) → i < a.farm.count → check_herd (get_or a.farm.herds i d) ≡ Accepted
    herd-passes i d h =
        let l : i < length (herds_of a.farm) =
        omega (arith, length-take a.farm.count a.farm.herds, long, farm-count a.farm passes) in
        rw (← get_or-take a.farm.count a.farm.herds i d h)
        (each-get_or (herds_of a.farm) i d (farm-each a.farm passes) l)

    pub is-file-herd : (v : View) (i : ℕ) (d : Herd) (old new : List ℕ) (r : Written) → i < a.farm.count
        → Called (herd_call v (get_or a.farm.herds i d)) old new r → Called (file_herd_call source v s i) old new r
    unfolding file_herd_call herd_call
    is-file-herd v i d old new r h w =
        let p = herd-passes i d h in
        let same = herd-at i d h in
        record {
          buffer = rw (as-accepted, lt-ltb i a.farm.count h, ← same) (rw p at w.buffer);
          answer = rw (as-accepted, lt-ltb i a.farm.count h, ← same) (rw p at w.answer);
        }

    pub is-past-herds : (v : View) (i : ℕ) (old : List ℕ) → a.farm.count ≤ i
        → Called (file_herd_call source v s i) old old (Ok 0)
    unfolding file_herd_call
    is-past-herds v i old h =
        record {
          buffer = rw (as-accepted, le-ltb i a.farm.count h) (empty-leaves old);
          answer = rw (as-accepted, le-ltb i a.farm.count h) (empty-answers old);
        }

    pub is-file-totals : (old new : List ℕ) (r : Written) → Called (totals_call a.farm) old new r
        → Called (file_totals_call source s) old new r
    unfolding file_totals_call totals_call
    is-file-totals old new r w =
        record {
          buffer = rw as-accepted (rw passes at w.buffer);
          answer =
              rw as-accepted (rw passes at w.answer);
        }

    pub is-file-limited : (v : View) (old new : List ℕ) (r : Written) → Called (accepted_call v a.farm) old new r
        → Called (file_call source v s) old new r
    unfolding file_call accepted_call
    is-file-limited v old new r w =
        record { buffer = rw as-accepted w.buffer; answer = rw as-accepted w.answer }

    -- a view that has no limit
    pub is-file_view : (v : View) (b : Bool) → b ≡ has_limit v → b ≡ false → (old new : List ℕ) (r : Written)
        → Answered (viewed v a.farm) old new r → Called (file_call source v s) old new r
    is-file_view v b is t old new r w =
        is-file-limited v old new r
        (accepted-answered v a.farm _ refl (sym (has-none v a.farm b is t)) old new r w)

    -- straight into a buffer that has the room
    pub herds-fit : Fits w64 (a.farm.count * herd_view_room)
    herds-fit = omega (arith, farm-count a.farm passes)

    pub room_fits : Fits w64 (a.farm.count * herd_view_room + behind_room)
    room_fits = omega (arith, farm-count a.farm passes)

    pub is-file-put : (v : View) (b : Bool) → b ≡ has_limit v → b ≡ false → (old new : List ℕ) (r : ℕ)
        → view_room a.farm.count ≤ length old → Wrote old 0 (viewed v a.farm) new r
        → r ≤ view_room a.farm.count → Called (file_call source v s) old new (Ok r)
    is-file-put v b is t old new r room w h = is-file_view v b is t old new (Ok r) (written refl w (omega arith))

  module _ (why : Refused Refusal) (e : a.checked ≡ Err why) (old : List ℕ) where
    pub refusing : (read_of (limits_of source) s).checked ≡ Err why
    refusing = rw q at e

    pub is-herd_unread : (v : View) (i : ℕ) (r : Written) → r ≡ Err why
        → Called (file_herd_call source v s i) old old r
    unfolding file_herd_call
    is-herd_unread v i r same = record { buffer = rw refusing; answer = rw refusing same }

    pub is-totals_unread : (r : Written) → r ≡ Err why → Called (file_totals_call source s) old old r
    unfolding file_totals_call
    is-totals_unread r same = record { buffer = rw refusing; answer = rw refusing same }

    pub is_view_unread : (v : View) (r : Written) → r ≡ Err why → Called (file_call source v s) old old r
    unfolding file_call
    is_view_unread v r same = record { buffer = rw refusing; answer = rw refusing same }

pub ruleset file_steps =
    (in_array, place-fits, is-file-herd, is-past-herds, is-file-totals, is-herd_unread, is-totals_unread)

pub ruleset view_steps = (passes, herds-fit, room_fits, is-file-limited, is-file-put, is-file_view, is_view_unread)
