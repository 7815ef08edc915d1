-- 02, W2: the reason of a herd with a yard as a record: `Heifers,lowered,180,0.2`, label, quoted as in the
-- listing, reason, days with both, the yard's share on those days; or as a sentence that an adviser can read aloud,
-- with the chosen share too. CRLF after each; other herds have none. To be believed.
use Rattle.std.specs.Prelude.{ℕ, ◌/◌, ◌%◌, List, [], ◌++◌, None, Some}
use Prim.Native.String.{String}
use Rattle.base.specs.Text.{bytes}
use Rattle.decimal.specs.Writing.{whole_of}
use Rattle.farm.specs.declared.Herd.{Herd}
use Rattle.farm.specs.Labels.{text}
use Rattle.typed_inputs.specs.Typed.{typed_of}
use Rattle.line_parts.specs.Fields.{label_field}
use Rattle.reasons.specs.declared.Reason.{Reason}
use Rattle.reasons.specs.declared.Reason.TheVariants.{NoSuchDays, NotAvailable, AsChosen, Lowered}
use Rattle.reasons.specs.declared.Why.{Why}
use Rattle.reasons.specs.Reasons.{word, told_of, YardReason}
use Rattle.lines_reasons.specs.declared.Wording.{Wording}
use Rattle.lines_reasons.specs.declared.Wording.TheVariants.{Record, Sentence}

-- so many tenths, with one decimal
unfoldable pub tenths_of : ℕ → List ℕ
tenths_of n = whole_of (n / 10) ++ bytes "." ++ whole_of (n % 10)

-- ---- a record

-- a reason's field, between its commas
abbrev pub reason_field : Reason → List ℕ
reason_field r = bytes "," ++ bytes (word r) ++ bytes ","

-- days with both, share
unfoldable pub numbers_of : ℕ → ℕ → List ℕ
numbers_of days share = whole_of days ++ bytes "," ++ tenths_of share ++ bytes "\r\n"

unfoldable pub why_record : List ℕ → Why → List ℕ
why_record label w = label_field label ++ reason_field w.reason ++ numbers_of w.days w.share

-- ---- a sentence

-- of how many days it speaks
abbrev pub opening : String
opening = ": with both yard and pasture on "

abbrev pub middle : String
middle = " of 365 days, the yard's share on such days is "

unfoldable pub days_words : ℕ → List ℕ
days_words days = bytes opening ++ whole_of days ++ bytes middle

-- the share, why it is that, and the chosen share
abbrev pub because : Reason → String
because NoSuchDays = ", since there is no such day and the chosen share stays "
because NotAvailable = ", since no yard is available and the chosen share is "
because AsChosen = ", the same as the chosen share of "
because Lowered = ", lowered from the chosen share of "

unfoldable pub shares_words : Why → List ℕ
shares_words w = tenths_of w.share ++ bytes (because w.reason) ++ tenths_of w.chosen ++ bytes ".\r\n"

unfoldable pub why_sentence : List ℕ → Why → List ℕ
why_sentence label w = label_field label ++ days_words w.days ++ shares_words w

-- ---- a herd

abbrev pub why_text : Wording → List ℕ → Why → List ℕ
why_text Record label w = why_record label w
why_text Sentence label w = why_sentence label w

abbrev pub told_text : Wording → List ℕ → YardReason → List ℕ
told_text wording label (Some w) = why_text wording label w
told_text wording label None = []

abbrev pub herd_why : Wording → Herd → List ℕ
herd_why wording h = told_text wording (text h.label) (told_of (typed_of h))
