-- `file_text::put_input` meets its contract: the words of each kind's table are its inputs. Assumes nothing.
use borrow.Author.Rules.{rules}
use Rattle.words.specs.Find.{words_of, room_of}
use Rattle.file_text.specs.Files.{input_text}
use Rattle.file_text.proofs.Parts.{input_steps}
use Rattle.file_text.proofs.put_input.Goals as goal

pub put_word-requires : goal.put_word-requires
unfolding words_of room_of input_text
put_word-requires c = search (rules, input_steps)

pub put_word-requires-in-Cattle : goal.put_word-requires-in-Cattle
unfolding words_of room_of input_text
put_word-requires-in-Cattle c = search (rules, input_steps)

pub put_word-requires-in-Pigs : goal.put_word-requires-in-Pigs
unfolding words_of room_of input_text
put_word-requires-in-Pigs c = search (rules, input_steps)

pub put_word-requires-in-DairyCow : goal.put_word-requires-in-DairyCow
unfolding words_of room_of input_text
put_word-requires-in-DairyCow c = search (rules, input_steps)

pub returns-in-Roughage : goal.returns-in-Roughage
unfolding words_of room_of input_text
returns-in-Roughage c = search (rules, input_steps)

pub returns-in-Cattle : goal.returns-in-Cattle
unfolding words_of room_of input_text
returns-in-Cattle c = search (rules, input_steps)

pub returns-in-Pigs : goal.returns-in-Pigs
unfolding words_of room_of input_text
returns-in-Pigs c = search (rules, input_steps)

pub returns-in-DairyCow : goal.returns-in-DairyCow
unfolding words_of room_of input_text
returns-in-DairyCow c = search (rules, input_steps)
