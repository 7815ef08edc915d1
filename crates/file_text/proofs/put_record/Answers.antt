-- `file_text::put_record` meets its contract, by its calls, one after the other. Assumes nothing.
use mathlib.Core.Path.{ap}
use native.Mathlib.Omega.{arith}
use lib.ListN.{length}
use Rattle.base.proofs.Writes.{wrote_as, wrote-append}
use Rattle.inputs.specs.declared.Form.{Form}
use Rattle.inputs.specs.Inputs.{row_at, form_of}
use Rattle.farm.specs.Labels.{text}
use Rattle.value_texts.specs.Values.{value_text}
use Rattle.file_text.proofs.Parts.{input-long, record_length, record_is}
use Rattle.file_text.proofs.put_record.Goals as goal

-- how long the record is, part by part, and the value by the form that was found
pub put_label-a-requires : goal.put_label-a-requires
put_label-a-requires c =
    let parts = record_length (text c.args.label) (row_at c.args.kind c.args.slot)
    (value_text (form_of c.args.kind c.args.slot) c.args.given)
    in omega (arith, input-long c.args.kind c.args.slot c.requires.0)

pub put_byte-b-requires : goal.put_byte-b-requires
put_byte-b-requires c =
    let parts = record_length (text c.args.label) (row_at c.args.kind c.args.slot)
    (value_text (form_of c.args.kind c.args.slot) c.args.given)
    in omega arith

pub put_input-c-requires : goal.put_input-c-requires
put_input-c-requires c =
    let parts = record_length (text c.args.label) (row_at c.args.kind c.args.slot)
    (value_text (form_of c.args.kind c.args.slot) c.args.given)
    in (c.requires.0, omega arith)

pub put_byte-d-requires : goal.put_byte-d-requires
put_byte-d-requires c =
    let parts = record_length (text c.args.label) (row_at c.args.kind c.args.slot)
    (value_text (form_of c.args.kind c.args.slot) c.args.given)
    in omega arith

pub put_value-e-requires : goal.put_value-e-requires
put_value-e-requires c =
    let parts = record_length (text c.args.label) (row_at c.args.kind c.args.slot)
    (value_text (form_of c.args.kind c.args.slot) c.args.given)
    in
    omega (
      arith,
      ap (λ (x : Form). length (value_text x c.args.given)) c.form_of.ensures,
      c.put_label-a.ensures.0.past,
      c.put_byte-b.ensures.past,
      c.put_input-c.ensures.past,
      c.put_byte-d.ensures.past,
    )

pub put-requires : goal.put-requires
put-requires c =
    let parts = record_length (text c.args.label) (row_at c.args.kind c.args.slot)
    (value_text (form_of c.args.kind c.args.slot) c.args.given)
    in
    omega (
      arith,
      ap (λ (x : Form). length (value_text x c.args.given)) c.form_of.ensures,
      c.put_label-a.ensures.0.past,
      c.put_byte-b.ensures.past,
      c.put_input-c.ensures.past,
      c.put_byte-d.ensures.past,
      c.put_value-e.ensures.past,
    )

pub returns : goal.returns
returns c =
    wrote_as (record_is _ _ _)
    (wrote-append (wrote-append (wrote-append (wrote-append
    (wrote-append c.put_label-a.ensures.0 c.put_byte-b.ensures) c.put_input-c.ensures) c.put_byte-d.ensures)
    (wrote_as (ap (λ (x : Form). value_text x c.args.given) c.form_of.ensures) c.put_value-e.ensures))
    c.put.ensures)
