-- `file_length::herd_length` meets its contract: the scratch has room for any herd. Assumes nothing.
use Rattle.file_length.proofs.Steps.{herd-room}
use borrow.Author.Rules.{rules}
use Rattle.file_length.proofs.herd_length.Goals as goal

pub put_herd-requires : goal.put_herd-requires
put_herd-requires c = search (rules, herd-room)
