-- What a record does to the herd being read: it adds an input, begins another herd, or is refused with 10 or 11. It
-- mirrors the code for its contracts; what 10 and 11 mean is said of the records in `rules_theorems/specs`, and proved
-- to be the same there.
use Rattle.std.specs.Prelude.{ℕ, Bool, not, [], ◌∷◌, get_or, set, replicate, Err, Ok}
use Rattle.base.specs.Pick.{pick}
use Rattle.base.specs.First.{◌when◌, first}
use Rattle.inputs.specs.declared.Kind.{Kind}
use Rattle.inputs.specs.Inputs.{same_kind}
use Rattle.farm.specs.declared.Label.{Label}
use Rattle.farm.specs.declared.Given.{Given}
use Rattle.farm.specs.declared.Herd.{Herd}
use Rattle.farm.specs.declared.Refusal.TheVariants.{OtherKind, GivenAlready}
use Rattle.farm.specs.Limits.{slots}
use Rattle.farm.specs.Labels.{same_label}
use Rattle.farm.specs.Herds.{is_missing, no_slot}
use Rattle.records.specs.declared.Entry.{Entry}
use Rattle.records.specs.Entries.{RecordRead}
use Rattle.progress.specs.declared.Effect.{Effect}
use Rattle.progress.specs.declared.Effect.TheVariants.{Adds, Begins, Wrong}
use Rattle.progress.specs.declared.HerdAfter.{HerdAfter}

-- the herd with a value in a slot
unfoldable pub with_input : Herd → ℕ → Given → Herd
with_input h slot g = record { label = h.label; kind = h.kind; slots = set h.slots slot (record { given = g }) }

-- a herd of which this is the first record
unfoldable pub new_herd : Label → Kind → ℕ → Given → Herd
new_herd l k slot g = with_input (record { label = l; kind = k; slots = replicate slots no_slot }) slot g

-- the herd has a value in the slot already
abbrev pub has_input : Herd → ℕ → Bool
has_input h slot = not (is_missing (get_or h.slots slot no_slot).given)

abbrev pub after : Effect → Herd → HerdAfter
after e h = record { effect = e; herd = h }

-- a record of the herd's own label: 10, 11, or one input more
unfoldable pub adding_to : Herd → Kind → ℕ → Given → HerdAfter
adding_to h k slot g =
    first (after (Wrong OtherKind) h when not (same_kind h.kind k) ∷ after (Wrong GivenAlready) h when has_input h slot
    ∷ [])
    (after Adds (with_input h slot g))

-- what a record of this label does that says this
abbrev pub effect_by : Herd → Label → RecordRead → HerdAfter
effect_by h l (Err refusal) = after (Wrong refusal) h
effect_by h l (Ok (k, slot, g)) =
    pick (same_label h.label l) (adding_to h k slot g) (after Begins (new_herd l k slot g))

unfoldable pub effect_of : Herd → Entry → HerdAfter
effect_of h e = effect_by h e.label e.read
