-- `hints::hint` meets its contract: nothing for a file that is too long, else by way of a slice that has room.
-- Assumes nothing.
use Rattle.hints.proofs.Rooms.{hint_long}
use borrow.Author.Rules.{rules}
use Rattle.hints.proofs.hint.Goals as goal

pub returns-then-s-gt-FILE_MOST : goal.returns-then-s-gt-FILE_MOST
returns-then-s-gt-FILE_MOST c = search (rules, hint_long)
