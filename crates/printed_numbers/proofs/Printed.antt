-- Every parameter of the formulas is the decimal that 001 prints: one test of the whole table, which antt computes,
-- carried to each row. Assumes nothing.
use Rattle.std.specs.Prelude.{None, Some}
use Prim.Native.Nat.{ℕ, ◌^◌}
use mathlib.Core.Bool.{Bool, false, ◌&&◌}
use mathlib.Core.List.{map}
use mathlib.Core.Path.{◌≡◌, refl, ap}
use lib.Dec.{T, eqb, eqb→eq}
use Rattle.base.specs.Text.{bytes}
use Rattle.base.specs.Each.{Each}
use Rattle.base.proofs.Each.{each-passed}
use Rattle.base.proofs.Table.{both_left, both_right}
use Rattle.numbers.specs.Reading.{number_of, any_number_of, zero_from, whole_from}
use Rattle.digits.specs.Digits.{point_from, fraction_from, Number}
use Rattle.names.specs.Names.{categories}
use Rattle.tables.specs.Standards.{standard_of}
use Rattle.printed_numbers.specs.Printed.{Printed, table, IsPrinted, standards, soluble_shares, keyed, name}

abbrev pub is_value : ℕ → Number → Bool
is_value n (Some v) = eqb v n
is_value n None = false

pub is-value : (n : ℕ) (r : Number) → T (is_value n r) → r ≡ Some n
is-value n (Some v) t = ap Some (eqb→eq v n t)
is-value n None t = absurd t

abbrev unit_right : Printed → Bool
unit_right p = eqb (10 ^ p.unit.decimals) p.unit.in_one

abbrev text_right : Printed → Bool
text_right p = is_value p.parameter (number_of (bytes p.text) p.unit.decimals p.parameter)

abbrev right : Printed → Bool
right p = unit_right p && text_right p

right-printed : (p : Printed) → T (right p) → IsPrinted p
right-printed p t =
    record {
      unit_is = eqb→eq _ _ (both_left (unit_right p) (text_right p) t);
      reads = is-value p.parameter _ (both_right (unit_right p) (text_right p) t);
    }

pub every-parameter-printed : Each IsPrinted table
unfolding number_of any_number_of zero_from whole_from point_from fraction_from standard_of
every-parameter-printed = each-passed right right-printed table tt

-- the standards and the soluble shares stand in the order of 01's categories, under their keys
pub standards-named : map (λ p. name p.place) standards ≡ map (keyed "standard_N_excretion_") categories
standards-named = refl

pub shares-named : map (λ p. name p.place) soluble_shares ≡ map (keyed "share_Nsol_") categories
shares-named = refl
