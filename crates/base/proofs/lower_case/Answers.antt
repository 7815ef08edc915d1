-- `base::lower_case` meets its contract, by what the library says of a small letter. Assumes nothing.
use Rattle.base.proofs.Parts.{lower-is}
use Rattle.base.proofs.lower_case.Goals as goal

pub returns : goal.returns
returns c = lower-is _ _ c.to_ascii_lowercase.ensures.cases
