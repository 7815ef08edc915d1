-- A shell takes what is shown of a name for the name. Assumes nothing.
use Prim.Native.Nat.{ℕ, ◌+◌, ◌*◌, ◌/◌, ◌%◌, ◌≤◌}
use mathlib.Core.Path.{◌≡◌, refl, sym, subst}
use mathlib.Core.Bool.{Bool, true, false}
use mathlib.Core.List.{List, [], ◌∷◌, ◌++◌, append-nil, append_assoc}
use native.Mathlib.Omega.{arith}
use lib.Dec.{eqb}
use borrow.Author.Tests.{eqb-true, eqb-false}
use Rattle.base.specs.Pick.{pick}
use Rattle.base.specs.Each.{Each, more}
use Rattle.base.proofs.Clash.{clash}
use Rattle.shown_bytes.specs.declared.Form.{Form}
use Rattle.shown_bytes.specs.declared.Form.TheVariants.{Plain, Quoted, Escaped}
use Rattle.shown_bytes.specs.Shown.{harmless, printable, letter, form_needed, worse}
use Rattle.shown_bytes.specs.Shown.{octal, in_quotes, stays, escaped, shown}
use Rattle.quoting.specs.Quoted.{form_from, form_of, shown_from, quoted}
use Rattle.quoting.specs.Shell.{Reads, end, plain, two, behind_backslash, opens, closes, between}
use Rattle.quoting.specs.Shell.{dollar_opens, dollar_closes, dollar_between, digits}
use Rattle.quoting.proofs.Readable.{itself, parts}

module _ {t w : List ℕ} where
  plain-reads : (b : ℕ) → worse (form_needed b) Plain ≡ Plain → Reads Plain t w → Reads Plain (b ∷ t) (b ∷ w)
  unfolding form_needed
  plain-reads b e r = go (harmless b) refl e
    where
      bad : (t' : Bool) → worse (pick t' Quoted Escaped) Plain ≡ Plain → Reads Plain (b ∷ t) (b ∷ w)
      bad true e = clash cc
      bad false e = clash cc

      go : (t' : Bool) → harmless b ≡ t' → worse (pick t' Plain (pick (printable b) Quoted Escaped)) Plain ≡ Plain
          → Reads Plain (b ∷ t) (b ∷ w)
      go true h e = plain h r
      go false h e = bad (printable b) e

  quotes-read : (b : ℕ) → Reads Quoted t w → Reads Quoted (in_quotes b ++ t) (b ∷ w)
  unfolding in_quotes
  quotes-read b r = go (eqb b 39) refl
    where
      go : (t' : Bool) → eqb b 39 ≡ t' → Reads Quoted (pick t' (39 ∷ 92 ∷ 39 ∷ 39 ∷ []) (b ∷ []) ++ t) (b ∷ w)
      go true h =
          subst (λ (k : ℕ). Reads Quoted (39 ∷ 92 ∷ 39 ∷ 39 ∷ t) (k ∷ w)) (sym (eqb-true b 39 h))
          (closes (behind_backslash {b = 39} (opens r)))
      go false h = between (eqb-false b 39 h) r

  octal-reads : (b : ℕ) → b ≤ 255 → Reads Escaped t w → Reads Escaped (octal b ++ t) (b ∷ w)
  unfolding octal
  octal-reads b h r =
      let e : 64 * (b / 64 % 8) + 8 * (b / 8 % 8) + b % 8 ≡ b = omega arith in
      subst (λ (k : ℕ). Reads Escaped (92 ∷ (48 + b / 64 % 8) ∷ (48 + b / 8 % 8) ∷ (48 + b % 8) ∷ t) (k ∷ w)) e
      (digits {d = b / 64 % 8} {e = b / 8 % 8} {g = b % 8} (omega arith) (omega arith) (omega arith) r)

  escaped-reads : (b : ℕ) → b ≤ 255 → Reads Escaped t w → Reads Escaped (escaped b ++ t) (b ∷ w)
  unfolding escaped stays
  escaped-reads b h r = go (eqb b 39) refl
    where
      last : (t' : Bool) → (b ≡ 39 → ⊥) → (b ≡ 92 → ⊥) → Reads Escaped (pick t' (b ∷ []) (octal b) ++ t) (b ∷ w)
      last true m n = dollar_between m n r
      last false m n = octal-reads b h r

      next : (t' : Bool) → eqb b 92 ≡ t' → (b ≡ 39 → ⊥)
          → Reads Escaped (pick (pick t' false (printable b)) (b ∷ []) (octal b) ++ t) (b ∷ w)
      next true e m = octal-reads b h r
      next false e m = last (printable b) m (eqb-false b 92 e)

      go : (t' : Bool) → eqb b 39 ≡ t'
          → Reads Escaped (pick (pick t' false (pick (eqb b 92) false (printable b))) (b ∷ []) (octal b) ++ t) (b ∷ w)
      go true e = octal-reads b h r
      go false e = next (eqb b 92) refl (eqb-false b 39 e)

  byte_reads : (f : Form) (b : ℕ) → b ≤ 255 → worse (form_needed b) f ≡ f → Reads f t w
      → Reads f (shown f b ++ t) (b ∷ w)
  byte_reads Plain b h e r = plain-reads b e r
  byte_reads Quoted b h e r = quotes-read b r
  byte_reads Escaped b h e r = escaped-reads b h r

from-reads : (f : Form) (s t w : List ℕ) → Each (λ (b : ℕ). b ≤ 255) s → worse (form_from s) f ≡ f → Reads f t w
    → Reads f (shown_from f s ++ t) (s ++ w)
unfolding shown_from form_from
from-reads f [] t w a e r = r
from-reads f (b ∷ []) t w (more h a) e r = byte_reads f b h e r
from-reads f (b ∷ c ∷ rest) t w (more h (more i a)) e r =
    go (letter b c) refl e (λ g. from-reads f rest t w a g r) (λ g. from-reads f (c ∷ rest) t w (more i a) g r)
  where
    go : (t' : Bool) → letter b c ≡ t'
        → worse (pick t' (form_from rest) (worse (form_needed b) (form_from (c ∷ rest)))) f ≡ f
        → (worse (form_from rest) f ≡ f → Reads f (shown_from f rest ++ t) (rest ++ w))
        → (worse (form_from (c ∷ rest)) f ≡ f → Reads f (shown_from f (c ∷ rest) ++ t) (c ∷ (rest ++ w)))
        → Reads f (pick t' (b ∷ c ∷ shown_from f rest) (shown f b ++ shown_from f (c ∷ rest)) ++ t)
        (b ∷ c ∷ (rest ++ w))
    go true l e behind next = two l (behind e)
    go false l e behind next =
        let p = parts (form_needed b) (form_from (c ∷ rest)) f e in
        subst (λ (x : List ℕ). Reads f x (b ∷ c ∷ (rest ++ w)))
        (sym (append_assoc (shown f b) (shown_from f (c ∷ rest)) t))
        (byte_reads f b h p.0 (next p.1))

name-reads : (s : List ℕ) → Each (λ (b : ℕ). b ≤ 255) s → (f : Form) → f ≡ form_of s → worse (form_from s) f ≡ f
    → Reads Plain (quoted s) s
unfolding quoted
name-reads s a Plain e h =
    let r = from-reads Plain s [] [] a h end in
    rw (sym e) (subst (λ (x : List ℕ). Reads Plain (shown_from Plain s ++ []) x) (append-nil s) r)
name-reads s a Quoted e h =
    let r = from-reads Quoted s (39 ∷ []) [] a h (closes end) in
    rw (sym e)
    (subst (λ (x : List ℕ). Reads Plain (39 ∷ (shown_from Quoted s ++ (39 ∷ []))) x) (append-nil s) (opens r))
name-reads s a Escaped e h =
    let r = from-reads Escaped s (39 ∷ []) [] a h (dollar_closes end) in
    rw (sym e)
    (subst (λ (x : List ℕ). Reads Plain (36 ∷ 39 ∷ (shown_from Escaped s ++ (39 ∷ []))) x) (append-nil s)
    (dollar_opens r))

-- of every name that is made of bytes
pub read_back : (s : List ℕ) → Each (λ (b : ℕ). b ≤ 255) s → Reads Plain (quoted s) s
unfolding form_of form_from
read_back [] a = name-reads [] a Quoted refl refl
read_back (b ∷ rest) a = name-reads (b ∷ rest) a (form_from (b ∷ rest)) refl (itself (form_from (b ∷ rest)))
