-- The reason of a herd with a yard as a record: label, reason, days with both, the yard's share on those days. Other
-- herds have none. To be believed.
use Rattle.std.specs.Prelude.{ℕ, List, [], ◌∷◌, None, Some}
use Rattle.base.specs.Text.{bytes}
use Rattle.decimal.specs.Writing.{whole_of}
use Rattle.farm.specs.declared.Herd.{Herd}
use Rattle.farm.specs.Labels.{text}
use Rattle.typed_inputs.specs.Typed.{typed_of}
use Rattle.reasons.specs.declared.Why.{Why}
use Rattle.reasons.specs.Reasons.{word, told_of, YardReason}
use Rattle.lines_reasons.specs.Lines.{tenths_of}

abbrev pub why_fields : List ℕ → Why → List (List ℕ)
why_fields label w = label ∷ bytes (word w.reason) ∷ whole_of w.days ∷ tenths_of w.share ∷ []

abbrev pub told_records : List ℕ → YardReason → List (List (List ℕ))
told_records label (Some w) = why_fields label w ∷ []
told_records label None = []

abbrev pub herd_why_records : Herd → List (List (List ℕ))
herd_why_records h = told_records (text h.label) (told_of (typed_of h))
