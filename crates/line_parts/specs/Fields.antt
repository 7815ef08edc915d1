-- 01, The listing: "A label with a comma is quoted, no other field is." And texts one after the other. To be believed.
use Rattle.std.specs.Prelude.{ℕ, Bool, true, false, List, [], ◌∷◌, ◌++◌}
use Rattle.base.specs.Pick.{pick, if◌is◌then◌else◌}
use Rattle.base.specs.Text.{bytes}
use Rattle.grammar.specs.Grammar.{comma}

unfoldable pub has_comma : List ℕ → Bool
has_comma [] = false
has_comma (b ∷ rest) = if b is comma then true else has_comma rest

-- a label as a field
unfoldable pub label_field : List ℕ → List ℕ
label_field label = pick (has_comma label) (bytes "\"" ++ label ++ bytes "\"") label

-- what a list's entries have, one after the other: texts, or records
abbrev pub each : {A B : Type 0} → (A → List B) → List A → List B
each f [] = []
each f (x ∷ xs) = f x ++ each f xs
