-- What a caller is told of a step by value: what was decided, and the book afterwards. No reader has to believe it:
-- what a step gives is `TakesStep` of crate `books`.
use Rattle.std.specs.Prelude.{Err}
use Rattle.books.specs.declared.Book.{Book}
use Rattle.books.specs.declared.StepAnswer.{StepAnswer}
use Rattle.books.specs.declared.Stepped.{Stepped}
use Rattle.books.specs.Rules.{Decided, Done}

abbrev pub told : Decided → Book → Stepped → Book
told Done book s = record { count = s.farm.count; totals = s.totals }
told (Err refusal) book s = book

abbrev pub told_of : Book → Stepped → StepAnswer
told_of book s = record { decided = s.decided; book = told s.decided book s }
