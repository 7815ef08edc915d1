-- `line_parts::labels::put_label` meets its contract: a quote, the label and a quote where there is a comma, else the
-- label. Assumes nothing.
use Prim.Native.Nat.{◌≤◌}
use mathlib.Core.Path.{ap, ◌∙◌}
use native.Mathlib.Omega.{arith}
use lib.ListN.{length}
use Rattle.base.proofs.Writes.{wrote_as, wrote-append}
use Rattle.line_parts.specs.Bounds.{longest_label}
use Rattle.line_parts.specs.Fields.{label_field}
use Rattle.line_parts.proofs.LabelField.{comma-any, quoted, bare, text-is, text-short}
use borrow.Author.Rules.{rules}
use Rattle.line_parts.proofs.labels.put_label.Goals as goal

-- what is lent is the label's text, and short
pub put-b-requires : goal.put-b-requires
put-b-requires c =
    let s : length c.part_of-bytes.result.now ≤ longest_label =
    text-short c.args.label _ c.part_of-bytes.ensures (search rules) in
    search rules

pub put_byte-requires : goal.put_byte-requires
put_byte-requires c =
    let s : length c.part_of-bytes.result.now ≤ longest_label =
    text-short c.args.label _ c.part_of-bytes.ensures (search rules) in
    search rules

pub returns-then-contains : goal.returns-then-contains
returns-then-contains c =
    let s : length c.part_of-bytes.result.now ≤ longest_label =
    text-short c.args.label _ c.part_of-bytes.ensures (search rules)
    in (
      wrote_as (quoted _ _ (c.contains.ensures.value ∙ comma-any _) c.if-contains.true
          ∙ ap label_field (text-is c.args.label _ c.part_of-bytes.ensures))
          (wrote-append (wrote-append c.put_byte-a.ensures c.put-b.ensures) c.put_byte.ensures),
      omega (arith, c.put_byte.ensures.past, c.put-b.ensures.past, c.put_byte-a.ensures.past),
    )

pub put-requires : goal.put-requires
put-requires c =
    let s : length c.part_of-bytes.result.now ≤ longest_label =
    text-short c.args.label _ c.part_of-bytes.ensures (search rules) in
    search rules

pub returns-else-contains : goal.returns-else-contains
returns-else-contains c =
    let s : length c.part_of-bytes.result.now ≤ longest_label =
    text-short c.args.label _ c.part_of-bytes.ensures (search rules)
    in (
      wrote_as (bare _ _ (c.contains.ensures.value ∙ comma-any _) c.if-contains.false
          ∙ ap label_field (text-is c.args.label _ c.part_of-bytes.ensures)) c.put.ensures,
      omega (arith, c.put.ensures.past),
    )
