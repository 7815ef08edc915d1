-- The steps of the notes, each in the form that a place of the code wants. Assumes nothing.
use Prim.Native.Nat.{ℕ, suc, ◌+◌, ◌*◌, ◌≤◌, ◌<◌}
use mathlib.Core.Path.{◌≡◌, refl, sym, ap, ◌∙◌}
use mathlib.Core.Bool.{Bool, true, false, not}
use native.Mathlib.Omega.{arith}
use lib.Dec.{ltb, eqb}
use lib.IntN.{ℤ, pos, negsuc}
use mir.Syntax.{w64}
use mir.Val.{Fits, SFits, to_z, of_z}
use mir.Facts.{to_z-of_z}
use borrow.Author.Tests.{lt-ltb, le-ltb, ne_eqb}
use Rattle.base.proofs.Clash.{clash}
use Rattle.cut_division.proofs.Products.{mul-fits}
use Rattle.cut_division.proofs.Signs.{back}
use Rattle.tables.specs.Standards.{standard_of, share_Nsol, dairy_standard, dairy_share}
use Rattle.tables.proofs.Standards.{standard-most}
use Rattle.amounts.specs.Units.{ten_thousandths}
use Rattle.kinds.specs.declared.Entered.{Entered}
use Rattle.kinds.specs.declared.Entered.TheVariants.{Standard, Number}
use Rattle.kinds.specs.declared.Roughage.{Roughage}
use Rattle.kinds.specs.declared.CattleKind.{CattleKind}
use Rattle.kinds.specs.declared.CattleKind.TheVariants.{OtherCattle, DairyCow}
use Rattle.kinds.specs.declared.Cattle.{Cattle}
use Rattle.kinds.specs.declared.Pigs.{Pigs}
use Rattle.kinds.specs.Sound.{EnteredTo, standard, number, most_grams}
use Rattle.kinds.proofs.OfKind.{of_kind}
use Rattle.yard.specs.Yard.{share_lowered}
use Rattle.housing.specs.Housing.{above_ceiling}
use Rattle.notes.specs.Notes.{
  off_standard,
  off_share,
  free_entered,
  cattle_off_standard,
  cattle_off_share,
  noted,
  roughage_notes,
  cattle_notes,
  pigs_notes,
}

-- a number that was entered is in range
pub entered-most : (m : ℕ) (e : Entered) (n : ℕ) → EnteredTo m e → e ≡ Number n → n ≤ m
entered-most m (Number k) n (number h) q = let w : k ≡ n = cc in omega arith
entered-most m Standard n standard q = clash cc

-- the products of the comparison fit
pub entered-fits : (k : ℕ) (e : Entered) (grams : ℕ) → k ≤ 13 → EnteredTo most_grams e → e ≡ Number grams
    → Fits w64 (k * grams)
entered-fits k e grams h s q = mul-fits 13 200000 tt h (entered-most most_grams e grams s q)

pub standard-fits : (k s : ℕ) → k ≤ 13 → s ≤ most_grams → Fits w64 (k * s)
standard-fits k s h most = mul-fits 13 200000 tt h most

pub fraction-fits : (e : Entered) (fraction : ℕ) → EnteredTo ten_thousandths e → e ≡ Number fraction
    → Fits w64 (fraction + 2000)
fraction-fits e fraction s q = omega (arith, entered-most ten_thousandths e fraction s q)

pub share-fits : (share : ℕ) → share ≤ ten_thousandths → Fits w64 (share + 2000)
share-fits share most = omega arith

pub n-standard : (s : ℕ) (e : Entered) → e ≡ Standard → false ≡ off_standard s e
n-standard s e q = rw q

pub tan-standard : (share : ℕ) (e : Entered) → e ≡ Standard → false ≡ off_share share e
tan-standard share e q = rw q

module _ (s : ℕ) (e : Entered) (grams : ℕ) (q : e ≡ Number grams) where
  pub n-below : 10 * grams < 7 * s → true ≡ off_standard s e
  n-below h = rw (q, lt-ltb (10 * grams) (7 * s) h)

  pub n-other : 7 * s ≤ 10 * grams → ltb (13 * s) (10 * grams) ≡ off_standard s e
  n-other h = rw (q, le-ltb (10 * grams) (7 * s) h)

module _ (share : ℕ) (e : Entered) (fraction : ℕ) (q : e ≡ Number fraction) where
  pub tan-below : fraction + 2000 < share → true ≡ off_share share e
  tan-below h = rw (q, lt-ltb (fraction + 2000) share h)

  pub tan-other : share ≤ fraction + 2000 → ltb (share + 2000) fraction ≡ off_share share e
  tan-other h = rw (q, le-ltb (fraction + 2000) share h)

-- the bits of a number are 0 where it is 0, and nowhere else
pub free-bits : (free : ℤ) → SFits w64 free → not (eqb (of_z w64 free) 0) ≡ free_entered free
free-bits (pos n) f = refl
free-bits (negsuc n) f =
    rw (
      ne_eqb (of_z w64 (negsuc n)) 0 (λ e. never (sym (to_z-of_z f) ∙ ap (to_z w64) e)),
      ne_eqb (suc n) 0 (λ e. omega arith),
    ) refl
  where
    never : negsuc n ≡ pos 0 → ⊥
    never e = clash cc

-- where a caller hands on a factor that it has
pub free-noted : (free : ℤ) → SFits w64 free → (r : Bool) → r ≡ free_entered (back free) → r ≡ free_entered free
free-noted free f r e = e ∙ ap free_entered (to_z-of_z f)

-- the notes of each kind
pub are-roughage-notes : (r : Roughage) (n tan free above : Bool)
    → {s : ℕ} → s ≡ standard_of r.animalcategory
    → n ≡ off_standard s r.inp_n_excretion → tan ≡ off_share share_Nsol r.tan_fraction
    → free ≡ free_entered r.free_correction_factor → above ≡ above_ceiling r
    → noted n tan free false above ≡ roughage_notes r
are-roughage-notes r n tan free above es en et ef ea = rw (en, es, et, ef, ea) refl

pub are-cattle-notes : (c : Cattle) (n tan free share : Bool)
    → n ≡ cattle_off_standard c.kind c.inp_n_excretion → tan ≡ cattle_off_share c.kind c.tan_fraction
    → free ≡ free_entered c.outdoor.free_correction_factor → share ≡ share_lowered c.outdoor
    → noted n tan free share false ≡ cattle_notes c
are-cattle-notes c n tan free share en et ef es = rw (en, et, ef, es) refl

-- by the kind of cattle
module _ (k : CattleKind) where
  pub none_other : (grams : ℕ) → k ≡ OtherCattle → false ≡ cattle_off_standard k grams
  none_other grams e = rw e

  pub none-other-tan : (entered : Entered) → k ≡ OtherCattle → false ≡ cattle_off_share k entered
  none-other-tan entered e = rw e

  pub off_dairy : (grams : ℕ) {r : Bool} → k ≡ DairyCow → r ≡ off_standard dairy_standard (Number grams)
      → r ≡ cattle_off_standard k grams
  off_dairy grams e q = rw e q

  pub off_dairy_tan : (entered : Entered) {r : Bool} → k ≡ DairyCow → r ≡ off_share dairy_share entered
      → r ≡ cattle_off_share k entered
  off_dairy_tan entered e q = rw e q

pub ruleset cattle_kinds = (none_other, off_dairy)

pub ruleset cattle_tan_kinds = (none-other-tan, off_dairy_tan)

-- the standards are within what may be entered
pub category-within : (category s : ℕ) → s ≡ standard_of category → s ≤ most_grams
category-within category s q = rw q (omega (arith, standard-most category))

pub entered-within : {grams : ℕ} → grams ≤ most_grams → EnteredTo most_grams (Number grams)
entered-within h = number h

pub are-pigs-notes : (p : Pigs) (free : Bool) → free ≡ free_entered p.free_correction_factor
    → noted false false free false false ≡ pigs_notes p
are-pigs-notes p free ef = rw ef refl

pub ruleset note_steps = (
  entered-fits,
  standard-fits,
  fraction-fits,
  share-fits,
  n-standard,
  tan-standard,
  n-below,
  n-other,
  tan-below,
  tan-other,
)

pub ruleset herd_steps = (
  note_steps,
  free-bits,
  free-noted,
  are-roughage-notes,
  are-cattle-notes,
  are-pigs-notes,
  cattle_kinds,
  cattle_tan_kinds,
  category-within,
  entered-within,
  of_kind,
)
