-- What a record does to a herd, from the calls that look at it: each law in the form that a place of src/lib.rt
-- wants. Assumes nothing.
use Rattle.std.specs.Prelude.{Err, Ok}
use Prim.Native.Nat.{ℕ, ◌<◌}
use mathlib.Core.Path.{◌≡◌, refl, sym, ◌∙◌, ap}
use mathlib.Core.Bool.{Bool, true, false, not}
use lib.ListN.{get_or, set, replicate}
use Rattle.inputs.specs.declared.Kind.{Kind}
use Rattle.farm.specs.declared.Label.{Label}
use Rattle.farm.specs.declared.Given.{Given}
use Rattle.farm.specs.declared.Herd.{Herd}
use Rattle.farm.specs.declared.Refusal.{Refusal}
use Rattle.farm.specs.Limits.{slots}
use Rattle.farm.specs.Labels.{same_label}
use Rattle.farm.specs.Herds.{is_missing, no_slot}
use Rattle.records.specs.declared.Entry.{Entry}
use Rattle.records.specs.Entries.{HasSlot}
use Rattle.progress.specs.declared.Effect.TheVariants.{Begins, Wrong}
use Rattle.progress.specs.declared.HerdAfter.{HerdAfter}
use Rattle.progress.specs.Herds.{with_input, new_herd, has_input, after, adding_to, effect_of}

-- ---- a slot

pub slot-taken : (h : Herd) (slot : ℕ) {r : Bool} → r ≡ is_missing (get_or h.slots slot no_slot).given
    → not r ≡ has_input h slot
slot-taken h slot e = rw e

pub herd-new : (l : Label) (k : Kind) (slot : ℕ) (g : Given)
    → ◌≡◌ {A = Herd} (record { label = l; kind = k; slots = set (replicate slots no_slot) slot (record { given = g }) })
    (new_herd l k slot g)
unfolding new_herd with_input
herd-new l k slot g = refl

-- ---- what a record does to the herd being read

module _ (h : Herd) (e : Entry) where
  pub effect_wrong : {refusal : Refusal} → e.read ≡ Err refusal → after (Wrong refusal) h ≡ effect_of h e
  unfolding effect_of
  effect_wrong t = simp (effect_of, t)

  module _ {k : Kind} {i : ℕ} {g : Given} (t : e.read ≡ Ok (k, i, g)) where
    pub slot-inside : HasSlot e.read → i < slots
    slot-inside l = go (rw t at l)
      where
        go : {k : Kind} {i : ℕ} {g : Given} → HasSlot (Ok (k, i, g)) → i < slots
        go (HasSlot.gives b) = b

    module _ {r : Bool} (w : r ≡ same_label h.label e.label) where
      pub effect_own : r ≡ true → {x : HerdAfter} → x ≡ adding_to h k i g → x ≡ effect_of h e
      unfolding effect_of
      effect_own y q = simp (effect_of, t, sym w ∙ y) q

      pub effect_begins : r ≡ false → {x : Herd} → x ≡ new_herd e.label k i g → after Begins x ≡ effect_of h e
      unfolding effect_of
      effect_begins y q = simp (effect_of, t, sym w ∙ y) (ap (after Begins) q)

pub ruleset effect_steps = (effect_wrong, slot-inside, effect_own, effect_begins)
