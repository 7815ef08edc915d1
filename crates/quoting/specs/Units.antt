-- How the code goes through a name: a letter of two bytes at a time, or one byte; and how long a shown name can be. No
-- reader has to believe it.
use Rattle.std.specs.Prelude.{ℕ, ◌+◌, ◌*◌, Bool, false, List, [], ◌∷◌, get_or, take}
use Rattle.base.specs.Pick.{pick}
use Rattle.shown_bytes.specs.declared.Form.{Form}
use Rattle.shown_bytes.specs.declared.Form.TheVariants.{Plain}
use Rattle.shown_bytes.specs.Shown.{letter, form_needed, shown, byte_most}

-- a letter of two bytes stands in front
abbrev pub paired : List ℕ → Bool
paired [] = false
paired (b ∷ []) = false
paired (b ∷ c ∷ rest) = letter b c

abbrev pub unit_of : List ℕ → ℕ
unit_of s = pick (paired s) 2 1

abbrev pub unit_form : List ℕ → Form
unit_form s = pick (paired s) Plain (form_needed (get_or s 0 0))

abbrev pub unit_shown : Form → List ℕ → List ℕ
unit_shown f s = pick (paired s) (take 2 s) (shown f (get_or s 0 0))

-- the most for each byte, and three around them
abbrev pub quoted_most : ℕ → ℕ
quoted_most n = byte_most * n + 3
