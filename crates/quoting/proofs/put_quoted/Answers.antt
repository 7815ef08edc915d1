-- `quoting::put_quoted` meets its contract: the quote, the bytes, the quote. Assumes nothing.
use Rattle.quoting.proofs.Steps.{all-put}
use Rattle.quoting.proofs.put_quoted.Goals as goal

pub returns : goal.returns
returns c =
    all-put _ _ _ _ _ _ _ _ _ _ c.form_of-form.ensures c.put_opening-a.ensures c.put_units-b.ensures
    c.put_closing.ensures
