-- The reasons on both sides of every edge: herds, and what each is told. proofs/Rows.antt computes them from the
-- definitions. To be believed.
use Rattle.std.specs.Prelude.{ℕ, ◌≡◌, List, [], ◌∷◌, pos}
use Prim.Native.String.{String}
use Rattle.kinds.specs.declared.ExerciseYard.{ExerciseYard}
use Rattle.kinds.specs.declared.ExerciseYard.TheVariants.{NotAvailable, NotSupplied, Partly, Exclusively}
use Rattle.kinds.specs.declared.Floor.TheVariants.{Solid}
use Rattle.kinds.specs.declared.Outdoor.{Outdoor}
use Rattle.notes.specs.Rows.{outdoors}
use Rattle.reasons.specs.Reasons.{word, why_of}

-- the word of the reason, the days with both, and the shares in tenths: as chosen, and on those days
pub record Line : Type 0 where
  pub reason : String
  pub days : ℕ
  pub chosen : ℕ
  pub share : ℕ

pub record Row : Type 0 where
  pub herd : Outdoor
  pub told : Line

-- so many yard days and grazing days; the days with both are those by which they pass 365
abbrev with_days : ExerciseYard → ℕ → ℕ → Outdoor
with_days yard yard-days days = outdoors yard-days yard Solid (pos 0) days 120

infix 68 ◌is_told◌
abbrev ◌is_told◌ : Outdoor → Line → Row
o is_told l = record { herd = o; told = l }

abbrev line : String → ℕ → ℕ → ℕ → Line
line reason days chosen share = record { reason = reason; days = days; chosen = chosen; share = share }

-- what the theorem says of a row
abbrev pub line_of : Row → Line
line_of r = let w = why_of r.herd in line (word w.reason) w.days w.chosen w.share

abbrev pub Right : Row → Type 0
Right r = line_of r ≡ r.told

abbrev pub table : List Row
table =
    -- the last day without both, and the first with
    with_days Exclusively 165 200 is_told line "no_such_days" 0 6 6
    ∷ with_days Exclusively 166 200 is_told line "lowered" 1 6 2
    -- no such days come first, also where no yard is available
    ∷ with_days NotAvailable 165 200 is_told line "no_such_days" 0 0 0
    ∷ with_days NotAvailable 166 200 is_told line "not_available" 1 0 0
    -- a share of 0.2 is not lowered, nor is one below it
    ∷ with_days NotSupplied 166 200 is_told line "as_chosen" 1 1 1
    ∷ with_days Partly 166 200 is_told line "as_chosen" 1 2 2
    -- 01, rows 1 to 3
    ∷ with_days Partly 365 200 is_told line "as_chosen" 200 2 2
    ∷ with_days Exclusively 365 200 is_told line "lowered" 200 6 2
    ∷ with_days Exclusively 365 0 is_told line "no_such_days" 0 6 6
    -- every day of the year
    ∷ with_days Exclusively 365 365 is_told line "lowered" 365 6 2
    ∷ []
