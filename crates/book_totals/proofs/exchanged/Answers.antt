-- `book_totals::exchanged` meets its contract: what is within 16's bound, less a part and more by a part, fits. Assumes
-- nothing.
use Rattle.book_totals.proofs.Parts.{less-fits, more-fits, more-is}
use Rattle.book_totals.proofs.exchanged.Goals as goal

pub overflow_sub-result : goal.overflow_sub-result
overflow_sub-result c = less-fits c.args.x c.args.y c.args.z c.requires.0 c.requires.1 c.requires.2

pub overflow_add-result : goal.overflow_add-result
overflow_add-result c = more-fits c.args.x c.args.y c.args.z c.requires.0 c.requires.1 c.requires.2

pub returns : goal.returns
returns c = more-is c.args.x c.args.y c.args.z c.requires.0 c.requires.1 c.requires.2
