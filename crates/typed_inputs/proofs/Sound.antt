-- A herd's record that passes the checks gives sound inputs: what stands in a slot is a value of the form of its input,
-- so each number is in its range (01, "Ranges"). Assumes nothing.
use Prim.Native.Nat.{ℕ, zero, suc, ◌≤◌, ◌<◌}
use Prim.Native.String.{String}
use mathlib.Core.Path.{◌≡◌, refl}
use mathlib.Core.Bool.{true}
use mathlib.Core.List.{List, [], ◌∷◌}
use native.Mathlib.Omega.{arith}
use lib.IntN.{nat_abs}
use lib.ListN.{length, get_or, length-take}
use lib.Seq.{get_or-take}
use Rattle.std.proofs.Common.{zero-le}
use borrow.Author.Tests.{leb-true, ltb-true}
use Rattle.base.proofs.Clash.{clash}
use Rattle.base.proofs.Each.{each-get_or}
use Rattle.inputs.specs.declared.Kind.{Kind}
use Rattle.inputs.specs.declared.Kind.TheVariants as kinds
use Rattle.tables.specs.Standards.{standards}
use Rattle.names.specs.declared.ValueList.{ValueList as NameList}
use Rattle.names.specs.declared.ValueList.TheVariants.{Categories}
use Rattle.names.specs.Names.{size_of}
use Rattle.inputs.specs.declared.Form.{Form}
use Rattle.inputs.specs.declared.Form.TheVariants.{Number, OrStandard, NoStandard, Signed as ASigned, OneOf}
use Rattle.inputs.specs.Inputs.{Row, rows_of, no_row}
use Rattle.farm.specs.declared.Given.{Given}
use Rattle.farm.specs.declared.Given.TheVariants.{Missing, Standard, Value, Signed}
use Rattle.farm.specs.declared.Slot.{Slot}
use Rattle.farm.specs.Limits.{herds_most}
use Rattle.farm.specs.declared.Herd.{Herd}
use Rattle.farm.specs.declared.Farm.{Farm}
use Rattle.fits.specs.Fits.{fits}
use Rattle.checks.specs.Checks.{check_herd, check_farm, herds_of}
use Rattle.checks.specs.Accepts.{Passes}
use Rattle.farm.specs.Herds.{no_slot}
use Rattle.farm.specs.Answers.{Accepted}
use Rattle.checks.proofs.Accepts.{passes, farm-count, farm-each}
use Rattle.amounts.specs.Units.{percent}
use Rattle.kinds.specs.Sound.{EnteredTo, standard, number, Sound, roughage, cattle, pigs}
use Rattle.typed_inputs.specs.Typed.{number_in, signed_in, entered_in, given_at}
use Rattle.typed_inputs.specs.Typed.{place_named, number_named, signed_named, entered_named}
use Rattle.typed_inputs.specs.Typed.{roughage_of, outdoor_of, cattle_of, pigs_of, typed_as, typed_of}

-- ---- a slot

-- the most that a number of the form may be
abbrev most_of : Form → ℕ
most_of (Number d m) = m
most_of (OrStandard d m) = m
most_of (NoStandard d m) = m
most_of (ASigned m) = m
most_of (OneOf names) = size_of names

value-to : (form : Form) (v : ℕ) → fits form (Value v) ≡ true → v ≤ most_of form
value-to (Number d m) v e = leb-true v m e
value-to (OrStandard d m) v e = leb-true v m e
value-to (NoStandard d m) v e = leb-true v m e
value-to (ASigned m) v e = clash cc
value-to (OneOf names) v e = omega (arith, ltb-true v (size_of names) e)

number-to : (form : Form) (g : Given) → fits form g ≡ true → number_in g ≤ most_of form
number-to form Missing e = zero-le
number-to form Standard e = zero-le
number-to form (Value v) e = value-to form v e
number-to form (Signed v) e = zero-le

signed-to : (m : ℕ) (g : Given) → fits (ASigned m) g ≡ true → nat_abs (signed_in g) ≤ m
signed-to m Missing e = zero-le
signed-to m Standard e = zero-le
signed-to m (Value v) e = zero-le
signed-to m (Signed v) e = leb-true (nat_abs v) m e

entered-to : (form : Form) (g : Given) → fits form g ≡ true → EnteredTo (most_of form) (entered_in g)
entered-to form Missing e = number zero-le
entered-to form Standard e = standard
entered-to form (Value v) e = number (value-to form v e)
entered-to form (Signed v) e = number zero-le

-- ---- the slot of each input

fits-at : (rows : List Row) (slots : List Slot) (i : ℕ) → Passes rows slots → i < length rows
    → fits (get_or rows i no_row).form (get_or slots i no_slot).given ≡ true
fits-at (row ∷ rows) (s ∷ slots) zero (Passes.next m f p) h = f
fits-at (row ∷ rows) (s ∷ slots) (suc i) (Passes.next m f p) h = fits-at rows slots i p (omega arith)
fits-at (row ∷ rows) [] i p h = elim p [ ]
fits-at [] slots i p h = absurd (omega arith)

module _ (k : Kind) (h : Herd) (p : Passes (rows_of k) h.slots) (name : String) where
  abbrev slot : ℕ
  slot = place_named name (rows_of k)

  abbrev form : Form
  form = (get_or (rows_of k) slot no_row).form

  number-named : slot < length (rows_of k) → number_named k name h ≤ most_of form
  number-named l = number-to form (given_at h slot) (fits-at (rows_of k) h.slots slot p l)

  signed-named : (m : ℕ) → slot < length (rows_of k) → form ≡ ASigned m → nat_abs (signed_named k name h) ≤ m
  signed-named m l e = signed-to m (given_at h slot) (rw e at (fits-at (rows_of k) h.slots slot p l))

  entered-named : slot < length (rows_of k) → EnteredTo (most_of form) (entered_named k name h)
  entered-named l = entered-to form (given_at h slot) (fits-at (rows_of k) h.slots slot p l)

-- ---- each kind

typed_as_lem : (k : Kind) (h : Herd) → Passes (rows_of k) h.slots → Sound (typed_as k h)
unfolding roughage_of outdoor_of cattle_of pigs_of
typed_as_lem kinds.Roughage h p =
    let n = number-named kinds.Roughage h p in
    let e = entered-named kinds.Roughage h p in
    roughage (record {
      animals = n "animals" (omega arith);
      grams = e "inp_n_excretion" (omega arith);
      fraction = e "tan_fraction" (omega arith);
      free = signed-named kinds.Roughage h p "free_correction_factor" percent (omega arith) refl;
      days = n "grazing_days" (omega arith);
      hours = n "grazing_hours" (omega arith);
    })
typed_as_lem kinds.Cattle h p =
    let n = number-named kinds.Cattle h p in
    cattle (record {
      animals = n "animals" (omega arith);
      grams = n "inp_n_excretion" (omega arith);
      fraction = number (n "tan_fraction" (omega arith));
      outdoor =
          record {
            yard = n "yard_days" (omega arith);
            free = signed-named kinds.Cattle h p "free_correction_factor" percent (omega arith) refl;
            days = n "grazing_days" (omega arith);
            hours = n "grazing_hours" (omega arith);
          };
    })
typed_as_lem kinds.Pigs h p =
    let n = number-named kinds.Pigs h p in
    pigs (record {
      animals = n "animals" (omega arith);
      grams = n "inp_n_excretion" (omega arith);
      fraction = n "tan_fraction" (omega arith);
      free = signed-named kinds.Pigs h p "free_correction_factor" percent (omega arith) refl;
    })
typed_as_lem kinds.DairyCow h p =
    let n = number-named kinds.DairyCow h p in
    cattle (record {
      animals = n "animals" (omega arith);
      grams = n "inp_n_excretion" (omega arith);
      fraction = entered-named kinds.DairyCow h p "tan_fraction" (omega arith);
      outdoor =
          record {
            yard = n "yard_days" (omega arith);
            free = signed-named kinds.DairyCow h p "free_correction_factor" percent (omega arith) refl;
            days = n "grazing_days" (omega arith);
            hours = n "grazing_hours" (omega arith);
          };
    })

-- ---- no category is past the last

place-below : (names : NameList) (g : Given) → 0 < size_of names → fits (OneOf names) g ≡ true
    → number_in g < size_of names
place-below names Missing some e = some
place-below names Standard some e = some
place-below names (Value v) some e = ltb-true v (size_of names) e
place-below names (Signed v) some e = some

pub category-known : (h : Herd) → check_herd h ≡ Accepted → h.kind ≡ kinds.Roughage
    → (roughage_of h).animalcategory < length standards
unfolding roughage_of
category-known h e k =
    let p : Passes (rows_of kinds.Roughage) h.slots = rw k at (passes h e) in
    let at = place_named "animalcategory" (rows_of kinds.Roughage) in
    place-below Categories (given_at h at) (omega arith) (fits-at (rows_of kinds.Roughage) h.slots at p (omega arith))

pub typed_sound : (h : Herd) → check_herd h ≡ Accepted → Sound (typed_of h)
unfolding typed_of
typed_sound h e = typed_as_lem h.kind h (passes h e)

-- the herds of a farm that passes them
module _ (f : Farm) (accepted : check_farm f ≡ Accepted) (long : length f.herds ≡ herds_most) where
  pub herd-sound : (i : ℕ) → i < f.count → (d : Herd) → Sound (typed_of (get_or f.herds i d))
  herd-sound i b d =
      let l : i < length (herds_of f) = omega (arith, length-take f.count f.herds, farm-count f accepted) in
      rw (← get_or-take f.count f.herds i d b) (typed_sound _ (each-get_or (herds_of f) i d (farm-each f accepted) l))
