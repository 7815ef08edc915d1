-- `file_text::put_herd` meets its contract: each turn puts the record of the next input. Assumes nothing.
use Rattle.base.proofs.ToCome.{ToCome}
use Rattle.file_text.specs.Files.{herd_file}
use Rattle.file_text.proofs.HerdSteps.{rest_of}
use Rattle.file_text.proofs.put_herd.Given as goal

abbrev pub invariant-loop-slot : goal.invariant-loop-slot
invariant-loop-slot l = ToCome l.initial.out l.at (herd_file l.herd) l.out (rest_of l.herd l.slot) l.next
