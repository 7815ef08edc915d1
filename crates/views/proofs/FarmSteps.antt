-- A farm put together herd by herd, in any view: what is still to be written is the texts of the herds from i on. And
-- what a view with a limit is refused with. Assumes nothing.
use Rattle.base.specs.declared.refusals.Refused.{Refused}
use Rattle.std.specs.Prelude.{Ok, Err}
use Prim.Native.Nat.{ℕ, ◌+◌, ◌*◌, ◌≤◌, ◌<◌}
use mathlib.Core.Path.{◌≡◌, refl, sym, ap, ◌∙◌}
use mathlib.Core.Bool.{Bool, true, false}
use mathlib.Core.List.{List}
use native.Mathlib.Omega.{arith}
use lib.ListN.{length, get_or, drop, length-take}
use Rattle.base.specs.Wrote.{Wrote}
use Rattle.base.proofs.Clash.{clash}
use Rattle.base.proofs.Each.{each-get_or}
use Rattle.base.proofs.Writes.{wrote_as}
use Rattle.base.proofs.ToCome.{ToCome, begun}
use Rattle.base.specs.Refused.{refuse}
use Rattle.farm.specs.Limits.{herds_most}
use Rattle.farm.specs.declared.Herd.{Herd}
use Rattle.farm.specs.declared.Farm.{Farm}
use Rattle.farm.specs.declared.Refusal.{Refusal}
use Rattle.farm.proofs.Left.{left_at, left_end}
use Rattle.farm.specs.Answers.{Accepted, Checked}
use Rattle.checks.specs.Checks.{check_herd, check_farm, herds_of}
use Rattle.checks.proofs.Accepts.{farm-count, farm-each}
use Rattle.line_parts.specs.Fields.{each}
use Rattle.line_parts.proofs.OneByOne.{entry-put, all-entries-put}
use Rattle.lines_figures.specs.Lines.{farm_listing}
use Rattle.views.specs.declared.View.{View}
use Rattle.views.specs.declared.View.TheVariants.{Figures, Notes, Cuts, Reasons, Sentences, File}
use Rattle.file_text.specs.Files.{file_of}
use Rattle.file_length.specs.Limit.{file_checked}
use Rattle.views.specs.Views.{herd_text, viewed, has_limit, view_checked, is_figures}
use Rattle.views.specs.Rooms.{herd_view_room}
use Rattle.views.specs.Program.{Put, listed, refused}

-- the herds of a farm that the checks accept are accepted
pub passes : (f : Farm) → check_farm f ≡ Accepted → (i : ℕ) → i < length (herds_of f) → (d : Herd)
    → check_herd (get_or (herds_of f) i d) ≡ Accepted
passes f accepted i b d = each-get_or (herds_of f) i d (farm-each f accepted) b

pub few_herds : (f : Farm) → check_farm f ≡ Accepted → f.count ≤ herds_most
few_herds f accepted = farm-count f accepted

-- the texts of i herds were written
pub record Putting (v : View) (f : Farm) (old : List ℕ) (i : ℕ) (now : List ℕ) (at : ℕ) : Type 0 where
  pub few : f.count ≤ herds_most
  pub within : i ≤ f.count
  pub written : ToCome old 0 (each (herd_text v) (herds_of f)) now (each (herd_text v) (drop i (herds_of f))) at
  pub short : at ≤ i * herd_view_room

module _ (v : View) (f : Farm) (accepted : check_farm f ≡ Accepted) (old : List ℕ) where
  pub starts : Putting v f old 0 old 0
  starts = record { few = farm-count f accepted; within = omega arith; written = begun; short = omega arith }

  module _ (i : ℕ) (now : List ℕ) (at : ℕ) (inv : Putting v f old i now at) where
    module _ (b : i < length (herds_of f)) where
      inside : i < f.count
      inside = omega (arith, b, length-take f.count f.herds)

      pub has_room : f.count * herd_view_room ≤ length old → at + herd_view_room ≤ length now
      has_room room = omega (arith, room, inside, inv.short, inv.written.same)

      pub goes_on : (d : Herd) (new : List ℕ) (next : ℕ)
          → Wrote now at (herd_text v (get_or (herds_of f) i d)) new next → next ≤ at + herd_view_room
          → Putting v f old (i + 1) new next
      goes_on d new next w r =
          record {
            few = inv.few;
            within = omega (arith, inside);
            written = entry-put (herd_text v) inv.written (left_at (herds_of f) i d b) w;
            short = omega (arith, inv.short);
          }

    pub ends : length (herds_of f) ≤ i
        → Wrote old 0 (each (herd_text v) (herds_of f)) now at × (at ≤ f.count * herd_view_room)
    ends b = (
      all-entries-put (herd_text v) inv.written (left_end (herds_of f) i b),
      omega (arith, inv.short, inv.within),
    )

pub ruleset farm_steps = (starts, has_room, passes, goes_on)

-- ---- the view

by-herds : (v : View) (f : Farm) → is_figures v ≡ false → each (herd_text v) (herds_of f) ≡ viewed v f
unfolding viewed
by-herds Figures f e = clash cc
by-herds Notes f e = refl
by-herds Cuts f e = refl
by-herds Reasons f e = refl
by-herds Sentences f e = refl
by-herds File f e = refl

by-figures : (v : View) (f : Farm) → is_figures v ≡ true → farm_listing f ≡ viewed v f
unfolding viewed
by-figures Figures f e = refl
by-figures Notes f e = clash cc
by-figures Cuts f e = clash cc
by-figures Reasons f e = clash cc
by-figures Sentences f e = clash cc
by-figures File f e = clash cc

module _ (v : View) (f : Farm) (b : Bool) (q : b ≡ is_figures v) (old new : List ℕ) (r : ℕ) where
  pub as-figures : b ≡ true → Wrote old 0 (farm_listing f) new r → Wrote old 0 (viewed v f) new r
  as-figures t w = wrote_as (by-figures v f (sym q ∙ t)) w

  pub as-herds : b ≡ false → Wrote old 0 (each (herd_text v) (herds_of f)) new r → Wrote old 0 (viewed v f) new r
  as-herds t w = wrote_as (by-herds v f (sym q ∙ t)) w

pub ruleset view_steps = (as-figures, as-herds)

-- ---- the limit of a view

by-file : (v : View) (f : Farm) → has_limit v ≡ true → file_of (herds_of f) ≡ viewed v f
unfolding viewed herd_text file_of
by-file Figures f e = clash cc
by-file Notes f e = clash cc
by-file Cuts f e = clash cc
by-file Reasons f e = clash cc
by-file Sentences f e = clash cc
by-file File f e = refl

module _ (v : View) (f : Farm) (b : Bool) (q : b ≡ has_limit v) where
  pub is-limited : b ≡ true → (k : Checked) → k ≡ file_checked (file_of (herds_of f)) → k ≡ view_checked v f
  unfolding view_checked
  is-limited t k e = e ∙ rw (← q, t) (ap file_checked (by-file v f (sym q ∙ t)))

  pub has-none : b ≡ false → Accepted ≡ view_checked v f
  unfolding view_checked
  has-none t = rw (← q, t)

pub ruleset limit_steps = (is-limited, has-none)

module _ (v : View) (f : Farm) (k : Checked) (q : k ≡ view_checked v f) where
  pub is-put : k ≡ Accepted → (room : ℕ) (old new : List ℕ) (n : ℕ) → Wrote old 0 (viewed v f) new n → n ≤ room
      → Put room (view_checked v f) (viewed v f) old new (Ok n)
  is-put e room old new n w h = listed (sym q ∙ e) w h

  pub is-not : (room : ℕ) (old : List ℕ) (why : Refused Refusal) → k ≡ Err why
      → Put room (view_checked v f) (viewed v f) old old (Err why)
  is-not room old why e = refused (sym q ∙ e)

pub ruleset put_steps = (is-put, is-not)
