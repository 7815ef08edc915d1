-- The word at a place of a list, and the name of a value at a place of its list; past the last there is none. To be
-- believed.
use Rattle.std.specs.Prelude.{ℕ, List, [], get_or}
use Rattle.base.specs.Text.{bytes}
use Rattle.words.specs.Find.{words_of}
use Rattle.names.specs.declared.ValueList.{ValueList}
use Rattle.names.specs.Names.{names_of}

-- of words that are one text and have these lengths
unfoldable pub word_at : List ℕ → List ℕ → ℕ → List ℕ
word_at words lengths place = get_or (words_of words lengths) place []

unfoldable pub name_text : ValueList → ℕ → List ℕ
name_text names place = bytes (get_or (names_of names) place "")
