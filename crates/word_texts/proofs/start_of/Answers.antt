-- `word_texts::start_of` meets its contract: what is passed and what is left make the whole. Assumes nothing.
use lib.Seq.{length-take-le}
use borrow.Author.Rules.{rules}
use Rattle.word_texts.proofs.Words.{start_steps}
use Rattle.word_texts.proofs.start_of.Goals as goal

pub loop-len-preserved : goal.loop-len-preserved
loop-len-preserved c = search (rules, start_steps)

pub returns : goal.returns
returns c =
    let within = length-take-le c.args.place c.args.lengths.now c.requires.0 in
    search (rules, start_steps, within)
