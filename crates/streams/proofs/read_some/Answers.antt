-- `streams::read_some` meets its contract: the call gave no more than the slice has.
use Rattle.std.proofs.Common.{rules}
use Rattle.streams.proofs.Moves.{read_counted}
use Rattle.streams.proofs.read_some.Goals as goal

pub returns : goal.returns
returns g c = read_counted _ c.read.new.buf c.read.result (search rules) c.read.ensures.bound c.meaning.ensures
