-- 01, The farm file: "The label has 1 to 16 bytes from 32 to 126, byte 34 excepted." And the label that a text is, when
-- two labels are one, and a label that says nothing. To be believed.
use Rattle.std.specs.Prelude.{ℕ, List, [], ◌∷◌, ◌++◌, Bool, true, not, ◌&&◌, length, take, replicate, leb, eqb}
use Rattle.base.specs.Part.{same_bytes}
use Rattle.farm.specs.declared.Label.{Label}
use Rattle.farm.specs.Limits.{label_most}

unfoldable pub byte_ok : ℕ → Bool
byte_ok b = leb 32 b && (leb b 126 && not (eqb b 34))

abbrev pub all_ok : List ℕ → Bool
all_ok [] = true
all_ok (b ∷ rest) = byte_ok b && all_ok rest

-- the bytes in use
abbrev pub text : Label → List ℕ
text l = take l.len l.bytes

-- a length past the most is bad, whatever the bytes
unfoldable pub label_ok : Label → Bool
label_ok l = leb 1 l.len && (leb l.len label_most && all_ok (text l))

-- of one length that a label may have, with the same bytes in use
unfoldable pub same_label : Label → Label → Bool
same_label a b = eqb a.len b.len && (leb a.len label_most && same_bytes (text a) (text b))

-- the label that a text is: as many of its bytes as fit, zeros behind them, and its own length; past the most that is
-- no good label
unfoldable pub label_of : List ℕ → Label
label_of s = record { bytes = take label_most (s ++ replicate label_most 0); len = length s }

-- a label that says nothing
abbrev pub no_label : Label
no_label = record { bytes = replicate label_most 0; len = 0 }
