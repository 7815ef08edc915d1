-- 01, "Notes", and those of 02, W3 and W9: each a yes or no beside a herd's figures. `standard` gives none, and a kind
-- that lacks the input gives none.
use Rattle.std.specs.Prelude.{ℕ, ◌+◌, ◌*◌, Bool, false, not, ◌||◌, List, [], ◌∷◌, ltb, eqb, ℤ, nat_abs, length}
use Rattle.tables.specs.Standards.{standard_of, share_Nsol, dairy_standard, dairy_share}
use Rattle.kinds.specs.declared.Entered.{Entered}
use Rattle.kinds.specs.declared.Entered.TheVariants.{Standard, Number}
use Rattle.kinds.specs.declared.Roughage.{Roughage}
use Rattle.kinds.specs.declared.CattleKind.{CattleKind}
use Rattle.kinds.specs.declared.CattleKind.TheVariants.{OtherCattle, DairyCow}
use Rattle.kinds.specs.declared.Cattle.{Cattle}
use Rattle.kinds.specs.declared.Pigs.{Pigs}
use Rattle.kinds.specs.declared.Inputs.{Inputs}
use Rattle.kinds.specs.declared.Inputs.TheVariants as kinds
use Rattle.amounts.specs.Units.{tenths}
use Rattle.excretion.specs.Excretion.{least_of_standard, most_of_standard, most_off_share}
use Rattle.yard.specs.Yard.{share_lowered}
use Rattle.housing.specs.Housing.{above_ceiling}
use Rattle.notes.specs.declared.Notes.{Notes}

-- 2.84 and 2.2, n_excretion_animal: below 0.7 or above 1.3 of the page's standard, in tenths
abbrev pub off_standard : ℕ → Entered → Bool
off_standard standard Standard = false
off_standard standard (Number grams) =
    ltb (tenths * grams) (least_of_standard * standard) || ltb (most_of_standard * standard) (tenths * grams)

-- 2.84, tan_excretion, and 2.2, tan_content: off the page's share_Nsol by more than 0.2, in ten-thousandths
abbrev pub off_share : ℕ → Entered → Bool
off_share share Standard = false
off_share share (Number fraction) = ltb (fraction + most_off_share) share || ltb (share + most_off_share) fraction

-- 2.18, 2.33, 2.60, 2.86: the free factor is not 0, and below zero it is not either
abbrev pub free_entered : ℤ → Bool
free_entered free = not (eqb (nat_abs free) 0)

-- the fifth: the housing's factor is above the ceiling (02, W3)
abbrev pub noted : Bool → Bool → Bool → Bool → Bool → Notes
noted n tan free share above =
    record {
      n_off_standard = n;
      tan_off_standard = tan;
      free_factor = free;
      share_lowered = share;
      factor_above_1 = above;
    }

abbrev pub roughage_notes : Roughage → Notes
roughage_notes r =
    noted (off_standard (standard_of r.animalcategory) r.inp_n_excretion)
    (off_share share_Nsol r.tan_fraction)
    (free_entered r.free_correction_factor) false (above_ceiling r)

-- 2.2 (02, W9); 01 has no such note on other cattle, though 2.22 has
abbrev pub cattle_off_standard : CattleKind → ℕ → Bool
cattle_off_standard OtherCattle grams = false
cattle_off_standard DairyCow grams = off_standard dairy_standard (Number grams)

abbrev pub cattle_off_share : CattleKind → Entered → Bool
cattle_off_share OtherCattle entered = false
cattle_off_share DairyCow entered = off_share dairy_share entered

-- the share is lowered: 2.34 and 2.19, share_excretion_with_grazing
abbrev pub cattle_notes : Cattle → Notes
cattle_notes c =
    noted (cattle_off_standard c.kind c.inp_n_excretion) (cattle_off_share c.kind c.tan_fraction)
    (free_entered c.outdoor.free_correction_factor) (share_lowered c.outdoor) false

-- neither standards nor a yard
abbrev pub pigs_notes : Pigs → Notes
pigs_notes p = noted false false (free_entered p.free_correction_factor) false false

-- of a record that is refused
abbrev pub no_notes : Notes
no_notes = noted false false false false false

unfoldable pub notes_of : Inputs → Notes
notes_of (kinds.Roughage r) = roughage_notes r
notes_of (kinds.Cattle c) = cattle_notes c
notes_of (kinds.Pigs p) = pigs_notes p

-- ---- the notes one after the other, in 01's order, and then that of 02, W3

abbrev pub in_order : Notes → List Bool
in_order n =
    n.n_off_standard ∷ n.tan_off_standard ∷ n.free_factor ∷ n.share_lowered ∷ n.factor_above_1 ∷ []

-- how many there are
abbrev pub note_count : ℕ
note_count = length (in_order no_notes)
