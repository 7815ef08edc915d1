-- `farm::labels::byte_ok` meets its contract: the tests are the definition's, in its order. Assumes nothing.
use Rattle.farm.proofs.LabelSteps.{byte_in, byte_out}
use Rattle.farm.proofs.labels.byte_ok.Goals as goal

pub returns-then-b-le-HIGHEST : goal.returns-then-b-le-HIGHEST
returns-then-b-le-HIGHEST c = byte_in _ c.if-b-le-HIGHEST.true.0 c.if-b-le-HIGHEST.true.1

pub returns-else-b-le-HIGHEST : goal.returns-else-b-le-HIGHEST
returns-else-b-le-HIGHEST c = cc (byte_out _ c.if-b-le-HIGHEST.either)
