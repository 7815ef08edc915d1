-- 02, W10: "date as YYYY-MM-DD". Any four digits are a year. To be believed; proofs/DateTexts.antt shows that just
-- these texts are read.
use Rattle.std.specs.Prelude.{ℕ, ◌≡◌, List, ◌++◌, length}
use Rattle.base.specs.Text.{bytes}
use Rattle.numbers.specs.Numbers.{Digits, value}
use Rattle.calendar.specs.declared.Date.{Date}
use Rattle.calendar.specs.Calendar.{date}

-- the text says this date, whether there is such a day or not
pub data IsDate : List ℕ → Date → Type 0 where
  is : {y m d : List ℕ} → Digits y → length y ≡ 4 → Digits m → length m ≡ 2 → Digits d → length d ≡ 2
      → IsDate (y ++ bytes "-" ++ m ++ bytes "-" ++ d) (date (value y) (value m) (value d))
