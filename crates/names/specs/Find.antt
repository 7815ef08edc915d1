-- Which name of its list a text is, counted from 0.
use Rattle.std.specs.Prelude.{List, ℕ}
use Rattle.words.specs.Find.{find_text, Found}
use Rattle.names.specs.declared.ValueList.{ValueList}
use Rattle.names.specs.Names.{names_of}

unfoldable pub find_name : ValueList → List ℕ → Found
find_name names s = find_text (names_of names) s
