-- Reasons as they are printed, computed from the definitions: a herd for each, as its record and as its sentence; the
-- third label has a comma. Assumes nothing.
use Prim.Native.Nat.{ℕ}
use Prim.Native.String.{String}
use mathlib.Core.Path.{◌≡◌, refl}
use mathlib.Core.List.{List, [], ◌∷◌}
use Rattle.base.specs.Text.{bytes}
use Rattle.decimal.specs.Writing.{width, whole_of}
use Rattle.line_parts.specs.Fields.{has_comma, label_field, each}
use Rattle.reasons.specs.declared.Reason.{Reason}
use Rattle.reasons.specs.declared.Reason.TheVariants.{NoSuchDays, NotAvailable, AsChosen, Lowered}
use Rattle.reasons.specs.declared.Why.{Why}
use Rattle.lines_reasons.specs.Lines.{tenths_of, numbers_of, why_record, days_words, shares_words, why_sentence}

abbrev why : Reason → ℕ → ℕ → ℕ → Why
why reason days chosen share = record { reason = reason; days = days; chosen = chosen; share = share }

-- a label, and what the herd is told: the reason, the days with both, and the shares in tenths
abbrev herds : List (String × Why)
herds =
    ("Heifers", why Lowered 180 6 2)
    ∷ ("Bulls", why AsChosen 85 2 2)
    ∷ ("Calves, young", why NotAvailable 55 0 0)
    ∷ ("Oxen", why NoSuchDays 0 6 6)
    ∷ []

pub told : each (λ (h : String × Why). why_record (bytes h.0) h.1) herds
    ≡ each bytes
    ("Heifers,lowered,180,0.2\r\n"
    ∷ "Bulls,as_chosen,85,0.2\r\n"
    ∷ "\"Calves, young\",not_available,55,0.0\r\n"
    ∷ "Oxen,no_such_days,0,0.6\r\n"
    ∷ [])
unfolding why_record numbers_of tenths_of label_field has_comma whole_of width
told = refl

pub told_in_words : each (λ (h : String × Why). why_sentence (bytes h.0) h.1) herds
    ≡ each bytes
    ("Heifers: with both yard and pasture on 180 of 365 days, the yard's share on such days is 0.2, "
    ∷ "lowered from the chosen share of 0.6.\r\n"
    ∷ "Bulls: with both yard and pasture on 85 of 365 days, the yard's share on such days is 0.2, "
    ∷ "the same as the chosen share of 0.2.\r\n"
    ∷ "\"Calves, young\": with both yard and pasture on 55 of 365 days, the yard's share on such days is 0.0, "
    ∷ "since no yard is available and the chosen share is 0.0.\r\n"
    ∷ "Oxen: with both yard and pasture on 0 of 365 days, the yard's share on such days is 0.6, "
    ∷ "since there is no such day and the chosen share stays 0.6.\r\n"
    ∷ [])
unfolding why_sentence days_words shares_words tenths_of label_field has_comma whole_of width
told_in_words = refl
