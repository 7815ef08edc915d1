-- Whatever a byte is, what is shown of it in a form that serves for it does nothing to a terminal; and the letters of
-- two bytes are those of UTF-8. Assumes nothing.
use Prim.Native.Nat.{ℕ, ◌+◌, ◌-◌, ◌*◌, ◌/◌, ◌%◌, ◌≤◌}
use mathlib.Core.Path.{◌≡◌, refl}
use mathlib.Core.Bool.{Bool, true, false}
use mathlib.Core.List.{List, [], ◌∷◌, ◌++◌}
use native.Mathlib.Omega.{arith}
use lib.Dec.{eqb, leb, ltb}
use borrow.Author.Tests.{eqb-true, eqb-false, leb-true, ltb-false}
use Rattle.base.specs.Pick.{pick}
use Rattle.base.proofs.Clash.{clash}
use Rattle.shown_bytes.specs.declared.Form.{Form}
use Rattle.shown_bytes.specs.declared.Form.TheVariants.{Plain, Quoted, Escaped}
use Rattle.shown_bytes.specs.Shown.{between, harmless, printable, after_c2, after_others, letter, form_needed, worse}
use Rattle.shown_bytes.specs.Shown.{octal, in_quotes, stays, escaped, shown}
use Rattle.shown_bytes.specs.Readable.{Letter, Readable, none, ascii, two}

-- ---- the tests, as facts

in_between : (low b high : ℕ) → between low b high ≡ true → (low ≤ b) × (b ≤ high)
in_between low b high e = go (ltb b low) refl e
  where
    go : (t : Bool) → ltb b low ≡ t → pick t false (leb b high) ≡ true → (low ≤ b) × (b ≤ high)
    go true h e = clash cc
    go false h e = (ltb-false b low h, leb-true b high e)

pub printed : (b : ℕ) {l : List ℕ} → 32 ≤ b → b ≤ 126 → Readable l → Readable (b ∷ l)
printed b h i r = ascii {b = b} h i r

one-printed : (b : ℕ) → printable b ≡ true → Readable (b ∷ [])
one-printed b e = let h = in_between _ b _ e in printed b (omega (arith, h.0)) (omega (arith, h.1)) none

harmless-printed : (b : ℕ) → harmless b ≡ true → Readable (b ∷ [])
unfolding harmless
harmless-printed b e = go (between 43 b 58) refl e
  where
    last : (t : Bool) → between 97 b 122 ≡ t → pick t true (eqb b 95) ≡ true → Readable (b ∷ [])
    last true h e = let i = in_between 97 b 122 h in printed b (omega (arith, i.0)) (omega (arith, i.1)) none
    last false h e = let i = eqb-true b 95 e in printed b (omega arith) (omega arith) none

    next : (t : Bool) → between 64 b 90 ≡ t → pick t true (pick (between 97 b 122) true (eqb b 95)) ≡ true
        → Readable (b ∷ [])
    next true h e = let i = in_between 64 b 90 h in printed b (omega (arith, i.0)) (omega (arith, i.1)) none
    next false h e = last (between 97 b 122) refl e

    go : (t : Bool) → between 43 b 58 ≡ t
        → pick t true (pick (between 64 b 90) true (pick (between 97 b 122) true (eqb b 95))) ≡ true → Readable (b ∷ [])
    go true h e = let i = in_between 43 b 58 h in printed b (omega (arith, i.0)) (omega (arith, i.1)) none
    go false h e = next (between 64 b 90) refl e

-- the two bytes by their code
coded : (b c : ℕ) → 160 ≤ 64 * (b - 192) + (c - 128) → 192 ≤ b → b ≤ 223 → 128 ≤ c → c ≤ 191 → Letter b c
coded b c h l m n k =
    record {
      code = 64 * (b - 192) + (c - 128);
      high = b - 192;
      low = c - 128;
      from = h;
      to = omega arith;
      bits = refl;
      six = omega arith;
      first = omega arith;
      second = omega arith;
    }

pub letter-coded : (b c : ℕ) → letter b c ≡ true → Letter b c
unfolding letter
letter-coded b c e = go (eqb b 194) refl e
  where
    other : (t : Bool) → between 194 b 223 ≡ t → (b ≡ 194 → ⊥) → pick t (after_others c) false ≡ true → Letter b c
    other true h n e =
        let i = in_between 194 b 223 h in
        let j = in_between _ c _ e in
        let m : 195 ≤ b = omega (arith, i.0, n) in
        coded b c (omega (arith, j.0)) (omega arith) (omega (arith, i.1)) (omega (arith, j.0)) (omega (arith, j.1))
    other false h n e = clash cc

    go : (t : Bool) → eqb b 194 ≡ t → pick t (after_c2 c) (pick (between 194 b 223) (after_others c) false) ≡ true
        → Letter b c
    go true h e =
        let i = eqb-true b 194 h in
        let j = in_between _ c _ e in
        coded b c (omega (arith, j.0)) (omega arith) (omega arith) (omega (arith, j.0)) (omega (arith, j.1))
    go false h e = other (between 194 b 223) refl (eqb-false b 194 h) e

-- ---- texts

pub both : {k l : List ℕ} → Readable k → Readable l → Readable (k ++ l)
both none r = r
both (ascii h i q) r = ascii h i (both q r)
both (two t q) r = two t (both q r)

octal-readable : (b : ℕ) → Readable (octal b)
unfolding octal
octal-readable b =
    printed 92 (omega arith) (omega arith)
    (printed (48 + b / 64 % 8) (omega arith) (omega arith)
    (printed (48 + b / 8 % 8) (omega arith) (omega arith) (printed (48 + b % 8) (omega arith) (omega arith) none)))

pub quote : Readable (39 ∷ [])
quote = printed 39 (omega arith) (omega arith) none

-- ---- a byte in a form that is not better than it asks for

quotes-readable : (b : ℕ) → Readable (b ∷ []) → Readable (in_quotes b)
unfolding in_quotes
quotes-readable b r = go (eqb b 39)
  where
    go : (t : Bool) → Readable (pick t (39 ∷ 92 ∷ 39 ∷ 39 ∷ []) (b ∷ []))
    go true = printed 39 (omega arith) (omega arith) (printed 92 (omega arith) (omega arith) (both quote quote))
    go false = r

escaped-readable : (b : ℕ) → Readable (escaped b)
unfolding escaped stays
escaped-readable b = go (eqb b 39) refl
  where
    stay : (t : Bool) → printable b ≡ t → Readable (pick t (b ∷ []) (octal b))
    stay true e = one-printed b e
    stay false e = octal-readable b

    slash : (t : Bool) → Readable (pick (pick t false (printable b)) (b ∷ []) (octal b))
    slash true = octal-readable b
    slash false = stay (printable b) refl

    go : (t : Bool) → eqb b 39 ≡ t
        → Readable (pick (pick t false (pick (eqb b 92) false (printable b))) (b ∷ []) (octal b))
    go true e = octal-readable b
    go false e = slash (eqb b 92)

pub shown-readable : (f : Form) (b : ℕ) → worse (form_needed b) f ≡ f → Readable (shown f b)
unfolding form_needed
shown-readable Plain b e = go (harmless b) refl e
  where
    bad : (t : Bool) → worse (pick t Quoted Escaped) Plain ≡ Plain → Readable (b ∷ [])
    bad true e = clash cc
    bad false e = clash cc

    go : (t : Bool) → harmless b ≡ t → worse (pick t Plain (pick (printable b) Quoted Escaped)) Plain ≡ Plain
        → Readable (b ∷ [])
    go true h e = harmless-printed b h
    go false h e = bad (printable b) e
shown-readable Quoted b e = quotes-readable b (go (harmless b) refl e)
  where
    rest : (t : Bool) → printable b ≡ t → worse (pick t Quoted Escaped) Quoted ≡ Quoted → Readable (b ∷ [])
    rest true h e = one-printed b h
    rest false h e = clash cc

    go : (t : Bool) → harmless b ≡ t → worse (pick t Plain (pick (printable b) Quoted Escaped)) Quoted ≡ Quoted
        → Readable (b ∷ [])
    go true h e = harmless-printed b h
    go false h e = rest (printable b) refl e
shown-readable Escaped b e = escaped-readable b
