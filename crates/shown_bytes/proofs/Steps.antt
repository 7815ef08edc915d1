-- A byte put in its form: what is put, and how long it is. Assumes nothing.
use Prim.Native.Nat.{ℕ, ◌≤◌}
use mathlib.Core.Path.{◌≡◌, sym, ◌∙◌}
use mathlib.Core.Bool.{Bool, true, false}
use mathlib.Core.List.{List, [], ◌∷◌}
use native.Mathlib.Omega.{arith}
use lib.Dec.{eqb}
use lib.ListN.{length}
use borrow.Author.Tests.{eq-eqb, ne_eqb}
use Rattle.base.specs.Pick.{pick}
use Rattle.base.specs.Wrote.{Wrote}
use Rattle.shown_bytes.specs.declared.Form.{Form}
use Rattle.shown_bytes.specs.declared.Form.TheVariants.{Plain, Quoted, Escaped}
use Rattle.shown_bytes.specs.Shown.{in_quotes, escaped, octal, stays, shown, byte_most}

-- a byte is shown as four at most
pub shown-short : (f : Form) (b : ℕ) → length (shown f b) ≤ byte_most
unfolding in_quotes escaped octal
shown-short Plain b = omega arith
shown-short Quoted b = go (eqb b 39)
  where
    go : (t : Bool) → length (pick t (39 ∷ 92 ∷ 39 ∷ 39 ∷ []) (b ∷ [])) ≤ byte_most
    go true = omega arith
    go false = omega arith
shown-short Escaped b = go (stays b)
  where
    go : (t : Bool) → length (pick t (b ∷ []) (octal b)) ≤ byte_most
    go true = omega arith
    go false = omega arith

module _ (f : Form) (old : List ℕ) (at b : ℕ) (new : List ℕ) (r : ℕ) where
  pub put-plain : f ≡ Plain → Wrote old at (b ∷ []) new r → Wrote old at (shown f b) new r
  put-plain e w = rw e w

  pub put-quoted : f ≡ Quoted → Wrote old at (in_quotes b) new r → Wrote old at (shown f b) new r
  put-quoted e w = rw e w

  pub put-escaped : f ≡ Escaped → Wrote old at (escaped b) new r → Wrote old at (shown f b) new r
  put-escaped e w = rw e w

module _ (old : List ℕ) (at b : ℕ) (new : List ℕ) (r : ℕ) where
  pub quote-put : b ≡ 39 → Wrote old at (39 ∷ 92 ∷ 39 ∷ 39 ∷ []) new r → Wrote old at (in_quotes b) new r
  unfolding in_quotes
  quote-put e w = simp (eq-eqb b 39 e) w

  pub other-put : (b ≡ 39 → ⊥) → Wrote old at (b ∷ []) new r → Wrote old at (in_quotes b) new r
  unfolding in_quotes
  other-put n w = simp (ne_eqb b 39 n) w

  module _ (t : Bool) (e : t ≡ stays b) where
    pub stays_put : t ≡ true → Wrote old at (b ∷ []) new r → Wrote old at (escaped b) new r
    unfolding escaped
    stays_put h w = rw (sym e ∙ h) w

    pub octal-put : t ≡ false → Wrote old at (octal b) new r → Wrote old at (escaped b) new r
    unfolding escaped
    octal-put h w = rw (sym e ∙ h) w

pub ruleset byte_steps = (put-plain, put-quoted, put-escaped, quote-put, other-put, stays_put, octal-put)
