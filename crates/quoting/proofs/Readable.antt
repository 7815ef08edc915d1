-- Whatever a name is, what is shown of it does nothing to a terminal. Assumes nothing.
use Prim.Native.Nat.{ℕ}
use mathlib.Core.Path.{◌≡◌, refl}
use mathlib.Core.Bool.{Bool, true, false}
use mathlib.Core.List.{List, [], ◌∷◌, ◌++◌}
use native.Mathlib.Omega.{arith}
use Rattle.base.specs.Pick.{pick}
use Rattle.base.proofs.Clash.{clash}
use Rattle.shown_bytes.specs.declared.Form.{Form}
use Rattle.shown_bytes.specs.declared.Form.TheVariants.{Plain, Quoted, Escaped}
use Rattle.shown_bytes.specs.Shown.{letter, form_needed, worse, shown}
use Rattle.shown_bytes.specs.Readable.{Readable, none, two}
use Rattle.shown_bytes.proofs.Readable.{printed, letter-coded, both, quote, shown-readable}
use Rattle.quoting.specs.Quoted.{form_from, form_of, shown_from, opening, closing, quoted}

to-escaped : (f : Form) → worse f Escaped ≡ Escaped
to-escaped Plain = refl
to-escaped Quoted = refl
to-escaped Escaped = refl

pub itself : (f : Form) → worse f f ≡ f
itself Plain = refl
itself Quoted = refl
itself Escaped = refl

pub parts : (x y f : Form) → worse (worse x y) f ≡ f → (worse x f ≡ f) × (worse y f ≡ f)
parts Plain y f e = (refl, e)
parts Quoted Plain f e = (e, refl)
parts Quoted Quoted f e = (e, e)
parts Quoted Escaped Plain e = clash cc
parts Quoted Escaped Quoted e = clash cc
parts Quoted Escaped Escaped e = (refl, refl)
parts Escaped y Plain e = clash cc
parts Escaped y Quoted e = clash cc
parts Escaped y Escaped e = (refl, to-escaped y)

from-readable : (f : Form) (s : List ℕ) → worse (form_from s) f ≡ f → Readable (shown_from f s)
unfolding shown_from form_from
from-readable f [] e = none
from-readable f (b ∷ []) e = shown-readable f b e
from-readable f (b ∷ c ∷ rest) e = go (letter b c) refl e (from-readable f rest) (from-readable f (c ∷ rest))
  where
    go : (t : Bool) → letter b c ≡ t
        → worse (pick t (form_from rest) (worse (form_needed b) (form_from (c ∷ rest)))) f ≡ f
        → (worse (form_from rest) f ≡ f → Readable (shown_from f rest))
        → (worse (form_from (c ∷ rest)) f ≡ f → Readable (shown_from f (c ∷ rest)))
        → Readable (pick t (b ∷ c ∷ shown_from f rest) (shown f b ++ shown_from f (c ∷ rest)))
    go true h e behind next = two (letter-coded b c h) (behind e)
    go false h e behind next =
        let p = parts (form_needed b) (form_from (c ∷ rest)) f e in both (shown-readable f b p.0) (next p.1)

opening-readable : (f : Form) → Readable (opening f)
opening-readable Plain = none
opening-readable Quoted = quote
opening-readable Escaped = printed 36 (omega arith) (omega arith) quote

closing-readable : (f : Form) → Readable (closing f)
closing-readable Plain = none
closing-readable Quoted = quote
closing-readable Escaped = quote

name-readable : (s : List ℕ) → Readable (shown_from (form_of s) s)
unfolding form_of form_from
name-readable [] = from-readable Quoted [] refl
name-readable (b ∷ rest) = from-readable (form_from (b ∷ rest)) (b ∷ rest) (itself (form_from (b ∷ rest)))

pub readable : (s : List ℕ) → Readable (quoted s)
unfolding quoted
readable s = both (both (opening-readable (form_of s)) (name-readable s)) (closing-readable (form_of s))
