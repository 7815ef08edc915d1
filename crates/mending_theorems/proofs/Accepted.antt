-- An accepted file has no mark at its front: its first byte is a quote, or one of the first herd's label. Assumes
-- nothing.
use Prim.Native.Nat.{ℕ, ◌≤◌}
use mathlib.Core.Path.{◌≡◌, refl}
use mathlib.Core.Bool.{false}
use mathlib.Core.List.{List, [], ◌∷◌, ◌++◌, append_assoc, append-nil}
use native.Mathlib.Omega.{arith}
use lib.ListN.{length}
use borrow.Author.Tests.{ne_eqb}
use Rattle.base.specs.Part.{same_bytes}
use Rattle.base.specs.Each.{Each}
use Rattle.grammar.specs.Grammar.{FieldOf, RecordOf, FileOf}
use Rattle.inputs.specs.declared.Kind.{Kind}
use Rattle.farm.specs.declared.Given.{Given}
use Rattle.farm.specs.declared.Herd.{Herd}
use Rattle.farm.specs.declared.Farm.{Farm}
use Rattle.limits.specs.declared.Limits.{Limits}
use Rattle.rules_theorems.specs.Lists.{Pairs}
use Rattle.first_refusal.specs.Records.{Record}
use Rattle.rules_theorems.specs.Rules.{LabelByte, GoodLabel, RecordSays, Gives, HerdOf, StandTogether, KeepsRules}
use Rattle.spreadsheet.specs.Faults.{marked}

-- the first byte, where there is one, is of ASCII
data Low : List ℕ → Type 0 where
  none : Low []
  low : {b : ℕ} {rest : List ℕ} → b ≤ 126 → Low (b ∷ rest)

unmarked : {s : List ℕ} → Low s → marked s ≡ false
unfolding marked same_bytes
unmarked none = refl
unmarked (low {b} h) = rw (ne_eqb b 239 (λ e. omega arith))

-- ---- the first record has a good label

data First : List Record → Type 0 where
  none : First []
  some : {label : List ℕ} {cs : Record} {rs : List Record} → GoodLabel label → First ((label ∷ cs) ∷ rs)

says_first : {cs : Record} {label : List ℕ} {kind : Kind} {slot : ℕ} {given : Given} {rs : List Record}
    → RecordSays cs label kind slot given → First (cs ∷ rs)
says_first (RecordSays.says good names value) = some good

herd-first : {h : Herd} {rs : List Record} {inputs : List ℕ} (rest : List Record) → Pairs (Gives h) rs inputs
    → 1 ≤ length rs → First (rs ++ rest)
herd-first rest Pairs.none n = absurd (omega arith)
herd-first rest (Pairs.more g p) n = says_first g.says

farm_first : {rs : List Record} {hs : List Herd} → StandTogether HerdOf rs hs → First rs
farm_first StandTogether.none = none
farm_first (StandTogether.more {rest = rest} h s) = herd-first rest h.part.each h.part.some

-- ---- and so the file a low first byte

label-low : (label after : List ℕ) → GoodLabel label → Low (label ++ after)
label-low [] after g = absurd (omega (arith, g.some))
label-low (b ∷ label) after g = go g.bytes
  where
    go : Each LabelByte (b ∷ label) → Low (b ∷ label ++ after)
    go (Each.more p ps) = low p.high

field-low : {label t : List ℕ} (after : List ℕ) → FieldOf label t → GoodLabel label → Low (t ++ after)
field-low after (FieldOf.plain {c} p) g = label-low c after g
field-low after (FieldOf.quoted i) g = low {b = 34} (omega arith)

record_low : {label t : List ℕ} {cs : Record} (after : List ℕ) → RecordOf (label ∷ cs) t → GoodLabel label
    → Low (t ++ after)
record_low after (RecordOf.last f) g = field-low after f g
record_low after (RecordOf.more {t = t} {u} f r) g =
    rw (append_assoc t (44 ∷ u) after) (field-low (44 ∷ u ++ after) f g)

file-low : {rs : List Record} {s : List ℕ} → First rs → FileOf rs s → Low s
file-low g FileOf.none = none
file-low (some g) (FileOf.last {t = t} r n) = rw (append-nil t) at (record_low [] r g)
file-low (some g) (FileOf.more {u = u} r f) = record_low (13 ∷ 10 ∷ u) r g

pub accepted-unmarked : {limits : Limits} (s : List ℕ) (f : Farm) → KeepsRules limits s f → marked s ≡ false
accepted-unmarked s f k = unmarked (file-low (farm_first k.says.stand) k.reads)
