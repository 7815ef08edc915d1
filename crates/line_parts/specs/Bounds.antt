-- How long the beginning of a line can be. The code's buffers are this long, and its contracts ask for this room; no
-- reader has to believe it.
use Rattle.std.specs.Prelude.{ℕ, ◌+◌}

abbrev pub longest_label : ℕ
longest_label = 16

-- two quotes more
abbrev pub longest_field : ℕ
longest_field = longest_label + 2

abbrev pub longest_path : ℕ
longest_path = 28

-- whose line it is: the label's field, a comma, and the path
abbrev pub longest_owner : ℕ
longest_owner = longest_field + 1 + longest_path
