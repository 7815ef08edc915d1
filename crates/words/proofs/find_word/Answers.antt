-- `words::find_word` meets its contract: a word lies inside the text, and what the search finds is kept from each word
-- to the next. Assumes nothing.
use borrow.Author.Rules.{rules}
use Rattle.words.proofs.Words.{room_steps, word_steps}
use Rattle.words.proofs.find_word.Goals as goal

pub slice_bounds-same-start : goal.slice_bounds-same-start
slice_bounds-same-start c = search (rules, room_steps)

pub slice_bounds-same-end : goal.slice_bounds-same-end
slice_bounds-same-end c = search (rules, room_steps)

pub returns-then-same : goal.returns-then-same
returns-then-same c = search (rules, word_steps)

pub loop-place-preserved : goal.loop-place-preserved
loop-place-preserved c = search (rules, room_steps, word_steps)

pub returns : goal.returns
returns c = search (rules, word_steps)
