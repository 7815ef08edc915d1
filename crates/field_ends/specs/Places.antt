-- 01, The farm file: where a field stands in it and how it ends, which is what the reader goes by. The same reading as
-- in `grammar/specs/Reading`, with positions for contents; `csv/proofs/Contents` shows that the bytes at these places
-- are the contents.
use Rattle.std.specs.Prelude.{ℕ, ◌+◌, List, [], ◌∷◌}
use Rattle.base.specs.Pick.{if◌is◌then◌else◌}
use Rattle.grammar.specs.Grammar.{comma, quote, cr}
use Rattle.plain_fields.specs.declared.FieldEnd.{FieldEnd}
use Rattle.plain_fields.specs.declared.FieldEnd.TheVariants as ends
use Rattle.plain_fields.specs.Places.{place, line_from, plain_from}

-- inside quotes; and past a quote there, at `at`, that closes the field or is the first of two
unfoldable mutual
  pub quoted_from : ℕ → ℕ → List ℕ → FieldEnd
  quoted_from from at [] = ends.Broken
  quoted_from from at (b ∷ rest) =
      if b is quote then closed_from from at rest else
      quoted_from from (at + 1) rest

  pub closed_from : ℕ → ℕ → List ℕ → FieldEnd
  closed_from from at [] = ends.File (place from at)
  closed_from from at (b ∷ rest) =
      if b is comma then ends.Comma (place from at) (at + 1 + 1) else
      if b is cr then line_from (place from at) (at + 1 + 1 + 1) rest else
      if b is quote then quoted_from from (at + 1 + 1) rest else
      ends.Broken

-- the field that begins at `at`
unfoldable pub field_from : ℕ → List ℕ → FieldEnd
field_from at [] = plain_from at at []
field_from at (b ∷ rest) =
    if b is quote then quoted_from (at + 1) (at + 1) rest else
    plain_from at at (b ∷ rest)
