-- 02, W10, as statements about a log's records: what one record says, which days are a year's log, and what they come
-- to. Which records a log has is the grammar of crate `grammar`. Nothing here goes through a log; proofs/Accepts.antt
-- shows that the reader accepts exactly the logs that keep these rules. To be believed; the limits stand here a second
-- time on purpose, apart from those that the code goes by.
use Rattle.std.specs.Prelude.{ℕ, ◌+◌, ◌≤◌, ◌≡◌, List, [], map, length, get_or}
use Rattle.grammar.specs.Grammar.{FileOf}
use Rattle.numbers.specs.Numbers.{IsNumber}
use Rattle.rules_theorems.specs.Lists.{Pairs}
use Rattle.first_refusal.specs.Records.{Record}
use Rattle.calendar.specs.declared.Date.{Date}
use Rattle.calendar.specs.Calendar.{year_dates}
use Rattle.dates.specs.Texts.{IsDate}
use Rattle.outdoors.specs.declared.Day.{Day}
use Rattle.outdoors.specs.declared.Outdoors.{Outdoors}
use Rattle.outdoors.specs.Outdoors.{outdoors_of}

-- ---- limits

-- "The two hours of a day may add up to 24 at most", in tenths
abbrev pub hours_most : ℕ
hours_most = 240

-- a log is a file of 01's limit
abbrev pub log_most : ℕ
log_most = 65536

-- ---- one record: "date as YYYY-MM-DD, hours on pasture, hours on yard, hours with up to one decimal"

-- a record's fields; one that is not there is empty
abbrev pub date_text : Record → List ℕ
date_text cs = get_or cs 0 []

abbrev pub pasture_text : Record → List ℕ
pasture_text cs = get_or cs 1 []

abbrev pub yard_text : Record → List ℕ
yard_text cs = get_or cs 2 []

-- the hours that a record gives, in tenths
pub record HoursAre (cs : Record) (pasture yard : ℕ) : Type 0 where
  pub hours_on_pasture : IsNumber (pasture_text cs) 1 pasture
  pub yard_hours : IsNumber (yard_text cs) 1 yard
  pub most : pasture + yard ≤ hours_most

pub record RecordSays (cs : Record) (d : Day) : Type 0 where
  pub three : length cs ≡ 3
  pub hours : HoursAre cs d.pasture d.yard
  pub date : IsDate (date_text cs) d.date

-- ---- a log

abbrev pub dates_of : List Day → List Date
dates_of days = map (λ d. d.date) days

-- "Dates run from 1 January without gaps to 31 December": the records say days, and their dates are those of a year
pub record LogOf (rs : List Record) (days : List Day) : Type 0 where
  pub says : Pairs RecordSays rs days
  pub year : ℕ
  pub dates : dates_of days ≡ year_dates year

-- a log of no more bytes, whose days come to this
pub record KeepsLog (s : List ℕ) (o : Outdoors) : Type 0 where
  pub short : length s ≤ log_most
  pub records : List Record
  pub reads : FileOf records s
  pub days : List Day
  pub log : LogOf records days
  pub is : o ≡ outdoors_of days
