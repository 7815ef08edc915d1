-- `word_texts::put_word` meets its contract: the word stands where it starts. Assumes nothing.
use borrow.Author.Rules.{rules}
use Rattle.word_texts.proofs.Words.{put_steps}
use Rattle.word_texts.proofs.put_word.Goals as goal

pub returns-then-lengths-place : goal.returns-then-lengths-place
returns-then-lengths-place c = search (rules, put_steps)

pub overflow_add-to : goal.overflow_add-to
overflow_add-to c = search (rules, put_steps)

pub slice_bounds-put-end : goal.slice_bounds-put-end
slice_bounds-put-end c = search (rules, put_steps)

pub put-requires : goal.put-requires
put-requires c = search (rules, put_steps)

pub returns : goal.returns
returns c = search (rules, put_steps)
