-- `streams::write_some` meets its contract: the call took no more than the text has.
use Rattle.std.proofs.Common.{rules}
use Rattle.streams.proofs.Moves.{answer_counted}
use Rattle.streams.proofs.write_some.Goals as goal

pub returns : goal.returns
returns g c = answer_counted _ c.write_some.result c.write_some.ensures.bound c.meaning.ensures
