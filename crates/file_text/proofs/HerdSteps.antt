-- The steps of the loop over a herd's inputs that puts a record for each, in the form that a place of the code wants.
-- Assumes nothing.
use Prim.Native.Nat.{ℕ, ◌+◌, ◌≤◌, ◌<◌}
use mathlib.Core.Path.{◌≡◌, ap, subst}
use mathlib.Core.List.{List, [], ◌++◌}
use native.Mathlib.Omega.{arith}
use lib.ListN.{length, get_or, drop, length-append}
use Rattle.base.specs.Wrote.{Wrote}
use Rattle.base.proofs.ToCome.{ToCome, begun, gone_on, ended}
use Rattle.inputs.specs.Inputs.{rows_of, count_of, row_at, form_of}
use Rattle.farm.specs.declared.Herd.{Herd}
use Rattle.farm.specs.Limits.{slots}
use Rattle.farm.specs.Labels.{text}
use Rattle.farm.specs.Herds.{no_slot}
use Rattle.farm.proofs.Left.{left_end}
use Rattle.farm.proofs.Slots.{count_most}
use Rattle.herd_tests.proofs.SlotSteps.{row-at, slot_at}
use Rattle.value_texts.specs.Values.{value_text}
use Rattle.file_text.specs.Files.{record_text, inputs_text, herd_file}

-- what is still to be put where i inputs are
abbrev pub rest_of : Herd → ℕ → List ℕ
rest_of h i = inputs_text (text h.label) (drop i (rows_of h.kind)) (drop i h.slots)

pub few_slots : (h : Herd) {count : ℕ} → count ≡ count_of h.kind → count ≤ slots
few_slots h q = omega (arith, q, count_most h.kind)

pub herd-begun : (h : Herd) {old : List ℕ} {start : ℕ} → ToCome old start (herd_file h) old (rest_of h 0) start
unfolding herd_file
herd-begun h = begun

module _ (h : Herd) (i : ℕ) {count : ℕ} (q : count ≡ count_of h.kind) {old now : List ℕ} {start next : ℕ}
    (t : ToCome old start (herd_file h) now (rest_of h i) next) where
  module _ (long : length h.slots ≡ slots) (b : i < count) where
    rest-is : rest_of h i
        ≡ record_text (text h.label) (row_at h.kind i) (value_text (form_of h.kind i) (get_or h.slots i no_slot).given)
        ++ rest_of h (i + 1)
    unfolding inputs_text form_of
    rest-is = rw (row-at h i q long b, slot_at h i q long b)

    pub record_room_lem : start + length (herd_file h) ≤ length old
        → next + length (record_text (text h.label) (row_at h.kind i)
        (value_text (form_of h.kind i) (get_or h.slots i no_slot).given)) ≤ length now
    record_room_lem r =
        let text' = record_text (text h.label) (row_at h.kind i)
        (value_text (form_of h.kind i) (get_or h.slots i no_slot).given) in
        omega (arith, r, t.adds-up, t.same, ap length rest-is, length-append text' (rest_of h (i + 1)))

    pub record_put : {new : List ℕ} {after : ℕ}
        → Wrote now next (record_text (text h.label) (row_at h.kind i)
        (value_text (form_of h.kind i) (get_or h.slots i no_slot).given)) new after
        → ToCome old start (herd_file h) new (rest_of h (i + 1)) after
    record_put w = gone_on (subst (λ (l : List ℕ). ToCome old start (herd_file h) now l next) rest-is t) w

    pub slot-inside : i < count_of h.kind
    slot-inside = omega (arith, q, b)

  pub herd-put : count ≤ i → Wrote old start (herd_file h) now next
  unfolding inputs_text
  herd-put b = ended (subst (λ (l : List ℕ). ToCome old start (herd_file h) now l next) none_left t)
    where
      none_left : rest_of h i ≡ []
      none_left = rw (left_end (rows_of h.kind) i (omega (arith, q, b)))

pub ruleset herd_steps = (few_slots, herd-begun, record_room_lem, record_put, slot-inside, herd-put)
