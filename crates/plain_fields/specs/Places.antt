-- 01, The farm file: where an unquoted field stands in it and how it ends. The same reading as in
-- `grammar/specs/Reading`, with positions for contents.
use Rattle.std.specs.Prelude.{ℕ, ◌+◌, List, [], ◌∷◌, Bool, true, eqb}
use Rattle.base.specs.Pick.{pick, if◌is◌then◌else◌}
use Rattle.base.specs.Part.{part}
use Rattle.grammar.specs.Grammar.{comma, quote, cr, lf}
use Rattle.plain_fields.specs.declared.Place.{Place}
use Rattle.plain_fields.specs.declared.FieldEnd.{FieldEnd}
use Rattle.plain_fields.specs.declared.FieldEnd.TheVariants as ends

abbrev pub place : ℕ → ℕ → Place
place a e = record { from = a; to = e }

-- the bytes at a place
abbrev pub held : List ℕ → Place → List ℕ
held s p = part s p.from p.to

-- past a CR that ends the field p: LF must follow, and reading goes on past it, at `next`
unfoldable pub line_from : Place → ℕ → List ℕ → FieldEnd
line_from p next [] = ends.Broken
line_from p next (b ∷ rest) = if b is lf then ends.Crlf p next else ends.Broken

-- a byte that is no text of an unquoted field: it ends the field, or breaks it
unfoldable pub ends_plain : ℕ → Bool
ends_plain b =
    if b is comma then true else
    if b is cr then true else
    if b is lf then true else
    eqb b quote

-- where an unquoted field's text ends, from the position `at` on, with these bytes to come
unfoldable pub plain_stop : ℕ → List ℕ → ℕ
plain_stop at [] = at
plain_stop at (b ∷ rest) = pick (ends_plain b) at (plain_stop (at + 1) rest)

-- in an unquoted field that began at `from`, at the position `at`, with these bytes to come
unfoldable pub plain_from : ℕ → ℕ → List ℕ → FieldEnd
plain_from from at [] = ends.File (place from at)
plain_from from at (b ∷ rest) =
    if b is comma then ends.Comma (place from at) (at + 1) else
    if b is cr then line_from (place from at) (at + 1 + 1) rest else
    if b is lf then ends.Broken else
    if b is quote then ends.Broken else
    plain_from from (at + 1) rest
