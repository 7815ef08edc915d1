-- Files and what they say, worked out from the definition: the rules of 01, The farm file, one a line.
-- Assumes nothing.
use Prim.Native.Nat.{ℕ}
use mathlib.Core.List.{List, [], ◌∷◌, map}
use mathlib.Core.Path.{◌≡◌, refl}
use Rattle.base.specs.Text.{bytes}
use Rattle.grammar.specs.Reading.{
  Reading,
  ◌then◌,
  end,
  at_start,
  in_plain,
  in_quotes,
  past_quote,
  past_cR,
  reading_from,
  reading_of,
}

pub record Example : Type 0 where
  pub file : List ℕ
  pub reads : Reading

infix 4 ◌says◌
abbrev ◌says◌ : List ℕ → Reading → Example
f says r = record { file = f; reads = r }

abbrev pub examples : List Example
examples =
    (bytes "" says end)
    ∷ (bytes "\r\n" says ([] ∷ []) then end)
    ∷ (bytes "a,bc\r\nd" says (bytes "a" ∷ bytes "bc" ∷ []) then (bytes "d" ∷ []) then end)
    ∷ (bytes "a," says (bytes "a" ∷ [] ∷ []) then end)
    ∷ (bytes "\"a\"\r\n" says (bytes "a" ∷ []) then end)
    ∷ (bytes "\"a,\r\n\n\r\"\"b\",c" says (bytes "a,\r\n\n\r\"\"b" ∷ bytes "c" ∷ []) then end)
    ∷ (0 ∷ 200 ∷ [] says ((0 ∷ 200 ∷ []) ∷ []) then end)
    ∷ (bytes "a\r\nb\nc" says (bytes "a" ∷ []) then Reading.broken)
    ∷ (bytes "a\rb" says Reading.broken)
    ∷ (bytes "a\r" says Reading.broken)
    ∷ (bytes "a\"b" says Reading.broken)
    ∷ (bytes "\"a\"b" says Reading.broken)
    ∷ (bytes "\"a" says Reading.broken)
    ∷ (bytes "a,b,c,d,e,f\n\r\n" says Reading.broken)
    ∷ []

pub worked : map (λ (e : Example). reading_of e.file) examples ≡ map (λ (e : Example). e.reads) examples
unfolding reading_of reading_from at_start in_plain in_quotes past_quote past_cR
worked = refl
