-- 02, W11: what a step makes of a farm's herds and of the totals that are stored beside them. "only the named herd's
-- record changes, the others keep their order, an added herd goes last, a replaced one stays in its place. Add and
-- replace name the herd by the new record's own label"; "each total moves by exactly the old and the new herd's
-- figures." To be believed.
use Rattle.std.specs.Prelude.{ℕ, List, [], ◌∷◌, ◌++◌, map, length, ℤ, ◌+ℤ◌, ◌-ℤ◌}
use Rattle.base.specs.Pick.{pick}
use Rattle.farm.specs.declared.Label.{Label}
use Rattle.farm.specs.declared.Herd.{Herd}
use Rattle.farm.specs.Labels.{same_label}
use Rattle.outputs.specs.declared.Totals.{Totals}
use Rattle.outputs.specs.Names.{totals}
use Rattle.outputs.specs.Grams.{grams_at, by_number, farm_total}
use Rattle.model.specs.Answers.{herd_figures}
use Rattle.books.specs.declared.Step.{Step}
use Rattle.books.specs.declared.Step.TheVariants.{Add, Replace, Remove}

-- ---- the herds

-- the new record in the place of the herd of its label; the herds without the one of a label
unfoldable pub replaced : Herd → List Herd → List Herd
replaced h [] = []
replaced h (x ∷ xs) = pick (same_label x.label h.label) (h ∷ xs) (x ∷ replaced h xs)

unfoldable pub removed : Label → List Herd → List Herd
removed l [] = []
removed l (x ∷ xs) = pick (same_label x.label l) xs (x ∷ removed l xs)

-- the herds after a step; of the herd that a removal is handed only the label counts
abbrev pub herds_after : Step → Herd → List Herd → List Herd
herds_after Add h hs = hs ++ (h ∷ [])
herds_after Replace h hs = replaced h hs
herds_after Remove h hs = removed h.label hs

-- ---- the totals

-- the herd of this label, where there is one
unfoldable pub named : Label → List Herd → List Herd
named l [] = []
named l (x ∷ xs) = pick (same_label x.label l) (x ∷ []) (named l xs)

-- the herd that a step brings, and the one that it takes away
abbrev pub brings : Step → Herd → List Herd
brings Add h = h ∷ []
brings Replace h = h ∷ []
brings Remove h = []

abbrev pub takes : Step → Herd → List Herd → List Herd
takes Add h hs = []
takes Replace h hs = named h.label hs
takes Remove h hs = named h.label hs

-- a total of these herds alone, by its number
abbrev pub total_of : List Herd → ℕ → ℤ
total_of hs n = farm_total (map herd_figures hs) n

-- totals from which these herds' were taken, and to which these herds' were added
unfoldable pub moved : List Herd → List Herd → Totals → Totals
moved gone come t =
    record { grams = by_number (length totals) (λ n. (grams_at t.grams n -ℤ total_of gone n) +ℤ total_of come n) }

abbrev pub totals_after : Step → Herd → List Herd → Totals → Totals
totals_after step h hs t = moved (takes step h hs) (brings step h) t
