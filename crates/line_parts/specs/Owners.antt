-- What a line begins with, as the code goes about it. No reader has to believe it.
use Rattle.std.specs.Prelude.{ℕ, List, ◌++◌}
use Rattle.base.specs.Text.{bytes}
use Rattle.line_parts.specs.Fields.{label_field}

-- the label's field, a comma, and the path
unfoldable pub owner_of : List ℕ → List ℕ → List ℕ
owner_of label path = label_field label ++ bytes "," ++ path
