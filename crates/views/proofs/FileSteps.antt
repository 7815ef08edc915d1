-- A file in a view: a farm that is read passes the record checks, so it is listed without them, and it has no more
-- herds than its source allows. Assumes nothing.
use Rattle.base.specs.declared.refusals.Refused.{Refused}
use Rattle.std.specs.Prelude.{Ok, Err}
use Prim.Native.Nat.{ℕ, ◌≤◌}
use mathlib.Core.Path.{◌≡◌, sym, ap, ◌∙◌}
use mathlib.Core.Bool.{Bool, false}
use mathlib.Core.List.{List}
use native.Mathlib.Nat.{le_trans}
use native.Mathlib.Omega.{arith}
use Rattle.base.specs.Wrote.{Wrote}
use Rattle.base.proofs.Writes.{wrote_as}
use Rattle.base.specs.Refused.{refuse}
use Rattle.farm.specs.declared.Farm.{Farm}
use Rattle.farm.specs.declared.Refusal.{Refusal}
use Rattle.farm.specs.Answers.{Accepted, Checked}
use Rattle.checks.specs.Checks.{check_farm}
use Rattle.limits.specs.declared.Source.{Source}
use Rattle.limits.specs.declared.Source.TheVariants.{StandardInput, Cooperative}
use Rattle.limits.specs.declared.Limits.{Limits}
use Rattle.limits.specs.Limits.{limits_of}
use Rattle.reader.specs.declared.FileAnswer.{FileAnswer}
use Rattle.reader.specs.Files.{read_of, accepted}
use Rattle.rules_theorems.proofs.Allowed.{as-allowed}
use Rattle.rules_theorems.proofs.Accepts.{accepts-exactly}
use Rattle.rules_theorems.proofs.Passing.{accepted-passes}
use Rattle.views.specs.declared.View.{View}
use Rattle.views.specs.Views.{viewed, has_limit, view_checked, checked_for}
use Rattle.views.specs.Rooms.{view_room, output_room}
use Rattle.views.specs.Program.{Put, PutFile, listed, refused}
use Rattle.views.proofs.FarmSteps.{has-none}
use Rattle.written.specs.Answer.{Written}

-- a source has room for as many herds as it allows
pub room_of_lem : (source : Source) (herds : ℕ) → herds ≤ (limits_of source).herds
    → view_room herds ≤ output_room source
unfolding limits_of
room_of_lem StandardInput herds h = omega (arith, h)
room_of_lem Cooperative herds h = omega (arith, h)

module _ (source : Source) (s : List ℕ) (a : FileAnswer) (q : a ≡ read_of (limits_of source) s) where
  module _ (e : a.checked ≡ Accepted) where
    as-accepted : read_of (limits_of source) s ≡ accepted a.farm
    as-accepted = sym q ∙ as_is a.checked e
      where
        as_is : (k : Checked) → k ≡ Accepted → record { checked = k; farm = a.farm } ≡ accepted a.farm
        as_is k w = rw w

    pub passes : check_farm a.farm ≡ Accepted
    passes = accepted-passes source s a.farm as-accepted

    within : view_room a.farm.count ≤ output_room source
    within =
        let k = ((accepts-exactly source s a.farm).0 as-accepted).says in
        let count = ap (λ (f : Farm). f.count) k.is in
        let most = ap (λ (l : Limits). l.herds) (as-allowed source) in
        room_of_lem source a.farm.count (omega (arith, count, most, k.most))

    pub has_room : (room : ℕ) → output_room source ≤ room → view_room a.farm.count ≤ room
    has_room room h = le_trans within h

    is-text : (v : View) → viewed v a.farm ≡ viewed v (read_of (limits_of source) s).farm
    is-text v = ap (λ x. viewed v x.farm) q

    found : (v : View) {k : Checked} → view_checked v a.farm ≡ k
        → checked_for v (read_of (limits_of source) s).checked (read_of (limits_of source) s).farm ≡ k
    found v h = rw as-accepted h

    pub is-limited : (v : View) (old new : List ℕ) (r : Written)
        → Put (view_room a.farm.count) (view_checked v a.farm) (viewed v a.farm) old new r
        → PutFile source v s old new r
    is-limited v old new (Ok n) (listed k w h) = listed (found v k) (wrote_as (is-text v) w) (le_trans h within)
    is-limited v old new (Err why) (refused k) = refused (found v k)

    pub is-listed : (v : View) (b : Bool) → b ≡ has_limit v → b ≡ false → (old new : List ℕ) (n : ℕ)
        → Wrote old 0 (viewed v a.farm) new n → n ≤ view_room a.farm.count → PutFile source v s old new (Ok n)
    is-listed v b is t old new n w h =
        listed (found v (sym (has-none v a.farm b is t))) (wrote_as (is-text v) w) (le_trans h within)

  pub is-refused : (v : View) (why : Refused Refusal) (old : List ℕ) → a.checked ≡ Err why
      → PutFile source v s old old (Err why)
  is-refused v why old e =
      let k : checked_for v (read_of (limits_of source) s).checked (read_of (limits_of source) s).farm
      ≡ Err why = rw (sym (ap (λ x. x.checked) q) ∙ e) in
      refused k

pub ruleset file_steps = (passes, has_room, is-limited, is-listed, is-refused)
