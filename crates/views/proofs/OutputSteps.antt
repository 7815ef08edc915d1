-- What the program prints: what was listed, or the refusal's line in its place. Assumes nothing.
use Rattle.base.specs.declared.refusals.Refused.{Refused}
use Rattle.std.specs.Prelude.{Ok, Err}
use Prim.Native.Nat.{ℕ, ◌≤◌}
use mathlib.Core.Path.{◌≡◌, ap, ◌∙◌}
use mathlib.Core.List.{List}
use native.Mathlib.Nat.{le_trans}
use lib.Dec.{lit≤}
use Rattle.base.specs.Wrote.{Wrote}
use Rattle.base.proofs.Clash.{clash}
use Rattle.base.specs.Refused.{refuse}
use Rattle.farm.specs.declared.Refusal.{Refusal}
use Rattle.farm.specs.Refusals.{number}
use Rattle.limits.specs.declared.Source.{Source}
use Rattle.limits.specs.declared.Source.TheVariants.{StandardInput, Cooperative}
use Rattle.refusal_line.specs.Lines.{refusal_line}
use Rattle.refusal_line.specs.Rooms.{line_room}
use Rattle.views.specs.declared.View.{View}
use Rattle.views.specs.Rooms.{output_room}
use Rattle.views.specs.Program.{output_of, read_for, PutFile, listed, refused, PutOutput}
use Rattle.written.specs.Answer.{Written}

-- what has room for any view has room for a refusal's line
pub line-within : (source : Source) → line_room ≤ output_room source
line-within StandardInput = lit≤ tt
line-within Cooperative = lit≤ tt

pub prints-listed : (source : Source) (v : View) (s old mid : List ℕ) (put : Written) → PutFile source v s old mid put
    → (n : ℕ)
    → put ≡ Ok n → PutOutput source v s old mid (record { ended = Ok n; length = n })
unfolding output_of
prints-listed source v s old mid (Ok m) (listed k w h) n e =
    let d : m ≡ n = cc in
    record { bytes = rw (k, ← d) w; room = rw (← d) h; ended = rw k }
prints-listed source v s old mid (Err why) (refused k) n e = clash cc

pub prints-refused : (source : Source) (v : View) (s old mid : List ℕ) (put : Written) → PutFile source v s old mid put
    → (why : Refused Refusal) → put ≡ Err why → (new : List ℕ) (k : ℕ)
    → Wrote mid 0 (refusal_line (number why.0) why.1) new k → k ≤ line_room
    → PutOutput source v s old new (record { ended = Err why; length = k })
unfolding output_of
prints-refused source v s old mid (Ok m) (listed r w h) why e new k w' b = clash cc
prints-refused source v s old mid (Err other) (refused r) why e new k w' b =
    let p : other ≡ why = cc in
    let q : read_for source v s ≡ Err why = r ∙ ap Err p in
    record { bytes = rw q w'; room = le_trans b (line-within source); ended = rw q }

pub ruleset output_steps = (prints-listed, prints-refused)
