-- Where the words of a text are a list's names, they find the name that a text is. Assumes nothing.
use Prim.Native.Nat.{ℕ}
use mathlib.Core.Path.{◌≡◌}
use mathlib.Core.List.{List, map}
use Rattle.base.specs.Text.{bytes}
use Rattle.base.specs.Part.{same_bytes}
use Rattle.words.specs.Find.{first_from, words_of, Found}
use Rattle.words.proofs.Words.{words_found}
use Rattle.names.specs.declared.ValueList.{ValueList}
use Rattle.names.specs.Names.{names_of}
use Rattle.names.specs.Find.{find_name}

pub find_words : (names : ValueList) (s : List ℕ) {list : ValueList} (words lengths : List ℕ) {r : Found} → names ≡ list
    → r ≡ first_from (same_bytes s) 0 (words_of words lengths)
    → words_of words lengths ≡ map bytes (names_of list) → r ≡ find_name names s
unfolding find_name
find_words names s {list} words lengths e h w = rw e (words_found (names_of list) s words lengths h w)
