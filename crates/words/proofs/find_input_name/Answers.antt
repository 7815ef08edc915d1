-- `words::find_input_name` meets its contract: the words of its text are the list's. Assumes nothing.
use borrow.Author.Rules.{rules}
use Rattle.words.specs.Find.{input_names, words_of, room_of}
use Rattle.words.proofs.Words.{words_found}
use Rattle.words.proofs.find_input_name.Goals as goal

pub find_word-requires : goal.find_word-requires
unfolding words_of room_of
find_word-requires c = search (rules, words_found input_names)

pub returns : goal.returns
unfolding words_of room_of
returns c = search (rules, words_found input_names)
