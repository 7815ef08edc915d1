-- A byte of a name as a message shows it, in the words of bash's manual ("QUOTING"): plain where it means nothing to a
-- shell; in single quotes, between which every byte but a quote is taken as it is; and where a terminal would not print
-- it, between $' and ', where a backslash and three octal digits are a byte. To be believed.
use Rattle.std.specs.Prelude.{ℕ, ◌+◌, ◌/◌, ◌%◌, Bool, true, false, List, [], ◌∷◌, eqb, leb, ltb}
use Rattle.base.specs.Pick.{pick, if◌is◌then◌else◌}
use Rattle.base.specs.Text.{bytes}
use Rattle.shown_bytes.specs.declared.Form.{Form}
use Rattle.shown_bytes.specs.declared.Form.TheVariants.{Plain, Quoted, Escaped}

abbrev pub between : ℕ → ℕ → ℕ → Bool
between low b high = pick (ltb b low) false (leb b high)

-- + , - . / digits and : stand together in ASCII, and so do @ and the capital letters
unfoldable pub harmless : ℕ → Bool
harmless b = pick (between 43 b 58) true (pick (between 64 b 90) true (pick (between 97 b 122) true (eqb b 95)))

-- from the space to ~
abbrev pub printable : ℕ → Bool
printable b = between 32 b 126

-- U+00A0 to U+07FF: C2 before A0 to BF, C3 to DF before 80 to BF; C2 before 80 to 9F is a control character
abbrev pub after_c2 : ℕ → Bool
after_c2 c = between 160 c 191

abbrev pub after_others : ℕ → Bool
after_others c = between 128 c 191

unfoldable pub letter : ℕ → ℕ → Bool
letter b c = if b is 194 then after_c2 c else pick (between 194 b 223) (after_others c) false

-- the form that a byte asks for
unfoldable pub form_needed : ℕ → Form
form_needed b = pick (harmless b) Plain (pick (printable b) Quoted Escaped)

-- the one of two that serves for both
abbrev pub worse : Form → Form → Form
worse Plain g = g
worse Quoted Plain = Quoted
worse Quoted Quoted = Quoted
worse Quoted Escaped = Escaped
worse Escaped g = Escaped

-- ---- a byte in its form

-- a backslash and three octal digits
unfoldable pub octal : ℕ → List ℕ
octal b = 92 ∷ (48 + b / 64 % 8) ∷ (48 + b / 8 % 8) ∷ (48 + b % 8) ∷ []

-- a quote by closing the quotes, a quote behind a backslash, and opening them again
unfoldable pub in_quotes : ℕ → List ℕ
in_quotes b = if b is 39 then bytes "'\\''" else b ∷ []

-- printable, and neither a quote nor a backslash
unfoldable pub stays : ℕ → Bool
stays b = if b is 39 then false else (if b is 92 then false else printable b)

unfoldable pub escaped : ℕ → List ℕ
escaped b = pick (stays b) (b ∷ []) (octal b)

abbrev pub shown : Form → ℕ → List ℕ
shown Plain b = b ∷ []
shown Quoted b = in_quotes b
shown Escaped b = escaped b

-- so many bytes at most
abbrev pub byte_most : ℕ
byte_most = 4
