-- `shown_bytes::put_octal` meets its contract: the backslash and the three digits. Assumes nothing.
use Rattle.shown_bytes.specs.Shown.{octal}
use borrow.Author.Rules.{rules}
use Rattle.shown_bytes.proofs.put_octal.Goals as goal

pub returns : goal.returns
unfolding octal
returns c = search rules
