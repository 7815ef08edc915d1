-- How long a herd's line can be: the room that the writers ask for. No reader has to believe it.
use Rattle.std.specs.Prelude.{ℕ, ◌+◌, length}
use Rattle.base.specs.Text.{bytes}
use Rattle.decimal.specs.Rooms.{digits_most}
use Rattle.line_parts.specs.Bounds.{longest_field}
use Rattle.reasons.specs.declared.Reason.TheVariants.{NoSuchDays, NotAvailable}
use Rattle.lines_reasons.specs.Lines.{reason_field, opening, middle, because}

abbrev pub longest_tenths : ℕ
longest_tenths = digits_most + 1 + digits_most

abbrev pub longest_reason : ℕ
longest_reason = length (reason_field NotAvailable)

abbrev pub longest_numbers : ℕ
longest_numbers = digits_most + 1 + longest_tenths + 2

abbrev pub longest_because : ℕ
longest_because = length (bytes (because NoSuchDays))

abbrev pub longest_days : ℕ
longest_days = length (bytes opening) + digits_most + length (bytes middle)

abbrev pub longest_shares : ℕ
longest_shares = longest_tenths + longest_because + longest_tenths + 3

-- a sentence, which is longer than a record
abbrev pub longest_line : ℕ
longest_line = longest_field + longest_days + longest_shares
