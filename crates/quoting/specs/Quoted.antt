-- A name as a message shows it: in the form that its worst byte asks for. Letters that UTF-8 writes in two bytes stand
-- as they are. To be believed.
use Rattle.std.specs.Prelude.{ℕ, List, [], ◌∷◌, ◌++◌}
use Rattle.base.specs.Pick.{pick}
use Rattle.base.specs.Text.{bytes}
use Rattle.shown_bytes.specs.declared.Form.{Form}
use Rattle.shown_bytes.specs.declared.Form.TheVariants.{Plain, Quoted, Escaped}
use Rattle.shown_bytes.specs.Shown.{letter, form_needed, worse, shown}

-- ---- which form

-- the worst that a byte asks for, where letters ask for nothing
unfoldable pub form_from : List ℕ → Form
form_from [] = Plain
form_from (b ∷ []) = form_needed b
form_from (b ∷ c ∷ rest) = pick (letter b c) (form_from rest) (worse (form_needed b) (form_from (c ∷ rest)))

-- a name of no bytes would not be seen without quotes
unfoldable pub form_of : List ℕ → Form
form_of [] = Quoted
form_of (b ∷ rest) = form_from (b ∷ rest)

-- ---- the name

unfoldable pub shown_from : Form → List ℕ → List ℕ
shown_from f [] = []
shown_from f (b ∷ []) = shown f b
shown_from f (b ∷ c ∷ rest) = pick (letter b c) (b ∷ c ∷ shown_from f rest) (shown f b ++ shown_from f (c ∷ rest))

abbrev pub opening : Form → List ℕ
opening Plain = []
opening Quoted = bytes "'"
opening Escaped = bytes "$'"

abbrev pub closing : Form → List ℕ
closing Plain = []
closing Quoted = bytes "'"
closing Escaped = bytes "'"

unfoldable pub quoted : List ℕ → List ℕ
quoted s = opening (form_of s) ++ shown_from (form_of s) s ++ closing (form_of s)
