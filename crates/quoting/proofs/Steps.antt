-- A name gone through unit by unit: what is still to be looked at or shown from a place on. Assumes nothing.
use Prim.Native.Nat.{ℕ, ◌+◌, ◌*◌, ◌-◌, ◌<◌, ◌≤◌}
use mathlib.Core.Path.{◌≡◌, refl, sym, ap, subst, ◌∙◌}
use mathlib.Core.Bool.{Bool, true, false}
use mathlib.Core.List.{List, [], ◌∷◌, ◌++◌, append-nil}
use native.Mathlib.Omega.{arith}
use lib.Dec.{ltb}
use borrow.Author.Tests.{le-ltb}
use lib.ListN.{length, get_or, take, drop, length-drop, length-take}
use lib.Seq.{drop-drop}
use Rattle.base.specs.Part.{part}
use Rattle.base.specs.Pick.{pick}
use Rattle.base.specs.Wrote.{Wrote}
use Rattle.base.specs.Text.{bytes}
use Rattle.base.proofs.Clash.{clash}
use Rattle.base.proofs.Rest.{rest_at, rest_end}
use Rattle.base.proofs.Writes.{wrote-append, wrote_nothing}
use Rattle.base.proofs.ToCome.{ToCome, begun, gone_on, ended}
use Rattle.shown_bytes.specs.declared.Form.{Form}
use Rattle.shown_bytes.specs.declared.Form.TheVariants.{Plain, Quoted, Escaped}
use Rattle.shown_bytes.specs.Shown.{letter, form_needed, worse, shown, byte_most}
use Rattle.shown_bytes.proofs.Steps.{shown-short}
use Rattle.quoting.specs.Quoted.{form_from, form_of, shown_from, opening, closing, quoted}
use Rattle.quoting.specs.Units.{paired, unit_of, unit_form, unit_shown, quoted_most}

-- ---- one unit

pub no-pair : (s : List ℕ) (i : ℕ) → i < length s → length s ≤ i + 1 → ltb (i + 1) (length s) ≡ paired (drop i s)
no-pair s i h k =
    let e : drop (i + 1) s ≡ [] = rest_end s (i + 1) k in
    le-ltb (i + 1) (length s) k ∙ sym (ap paired (rest_at s i h ∙ ap (λ (l : List ℕ). get_or s i 0 ∷ l) e))

pub two-there : (s : List ℕ) (i : ℕ) (r : Bool) → i < length s → i + 1 < length s
    → r ≡ letter (get_or s i 0) (get_or s (i + 1) 0) → r ≡ paired (drop i s)
two-there s i r h k e =
    let next : drop (i + 1) s ≡ get_or s (i + 1) 0 ∷ drop (i + 1 + 1) s = rest_at s (i + 1) (omega arith) in
    e ∙ sym (ap paired (rest_at s i h ∙ ap (λ (l : List ℕ). get_or s i 0 ∷ l) next))

pub first-at : (s : List ℕ) (i : ℕ) → i < length s → get_or (drop i s) 0 0 ≡ get_or s i 0
first-at s i h = ap (λ (l : List ℕ). get_or l 0 0) (rest_at s i h)

pub paired_long : (s : List ℕ) → paired s ≡ true → 2 ≤ length s
paired_long [] e = clash cc
paired_long (b ∷ []) e = clash cc
paired_long (b ∷ c ∷ rest) e = omega arith

pub two-inside : (s : List ℕ) (i : ℕ) (t : Bool) → i < length s → t ≡ paired (drop i s) → t ≡ true → i + 2 ≤ length s
two-inside s i t h e d = omega (arith, paired_long (drop i s) (sym e ∙ d), length-drop i s)

-- ---- the form

worse-plain : (f : Form) → worse f Plain ≡ f
worse-plain Plain = refl
worse-plain Quoted = refl
worse-plain Escaped = refl

worse-worse : (f g h : Form) → worse (worse f g) h ≡ worse f (worse g h)
worse-worse Plain g h = refl
worse-worse Quoted Plain h = refl
worse-worse Quoted Quoted Plain = refl
worse-worse Quoted Quoted Quoted = refl
worse-worse Quoted Quoted Escaped = refl
worse-worse Quoted Escaped h = refl
worse-worse Escaped g h = refl

form-first : (s : List ℕ) → 0 < length s → form_from s ≡ worse (unit_form s) (form_from (drop (unit_of s) s))
unfolding form_from
form-first [] h = absurd (omega arith)
form-first (b ∷ []) h = sym (worse-plain (form_needed b))
form-first (b ∷ c ∷ rest) h = go (letter b c)
  where
    go : (t : Bool)
        → pick t (form_from rest) (worse (form_needed b) (form_from (c ∷ rest)))
        ≡ worse (pick t Plain (form_needed b)) (form_from (drop (pick t 2 1) (b ∷ c ∷ rest)))
    go true = refl
    go false = refl

module _ (s : List ℕ) where
  pub form-none : length s ≡ 0 → Quoted ≡ form_of s
  unfolding form_of
  form-none e = go s e
    where
      go : (s : List ℕ) → length s ≡ 0 → Quoted ≡ form_of s
      go [] e = refl
      go (b ∷ rest) e = absurd (omega arith)

  form-some : (length s ≡ 0 → ⊥) → form_from s ≡ form_of s
  unfolding form_of
  form-some n = go s n
    where
      go : (s : List ℕ) → (length s ≡ 0 → ⊥) → form_from s ≡ form_of s
      go [] n = absurd (n refl)
      go (b ∷ rest) n = refl

  pub form-starts : worse Plain (form_from (drop 0 s)) ≡ form_from s
  form-starts = refl

  module _ (f : Form) (i : ℕ) (inv : worse f (form_from (drop i s)) ≡ form_from s) where
    pub form-goes : i < length s → (u g : Form) (n : ℕ) → u ≡ unit_form (drop i s) → g ≡ worse f u
        → n ≡ unit_of (drop i s) → worse g (form_from (drop (i + n) s)) ≡ form_from s
    form-goes h u g n eu eg en =
        let next : drop (i + n) s ≡ drop (unit_of (drop i s)) (drop i s)
        = sym (drop-drop n i s) ∙ ap (λ (k : ℕ). drop k (drop i s)) en in
        ap (λ (l : List ℕ). worse g (form_from l)) next
        ∙ ap (λ (x : Form). worse x (form_from (drop (unit_of (drop i s)) (drop i s)))) (eg ∙ ap (worse f) eu)
        ∙ worse-worse f (unit_form (drop i s)) (form_from (drop (unit_of (drop i s)) (drop i s)))
        ∙ ap (worse f) (sym (form-first (drop i s) (omega (arith, length-drop i s)))) ∙ inv

    pub form-ends : length s ≤ i → (length s ≡ 0 → ⊥) → f ≡ form_of s
    unfolding form_from
    form-ends h n =
        sym (worse-plain f) ∙ ap (λ (l : List ℕ). worse f (form_from l)) (sym (rest_end s i h)) ∙ inv ∙ form-some n

pub ruleset form_steps = (form-none, form-starts, form-goes, form-ends)

-- ---- what is shown

shown-first : (f : Form) (s : List ℕ) → 0 < length s
    → shown_from f s ≡ unit_shown f s ++ shown_from f (drop (unit_of s) s)
unfolding shown_from
shown-first f [] h = absurd (omega arith)
shown-first f (b ∷ []) h = sym (append-nil (shown f b))
shown-first f (b ∷ c ∷ rest) h = go (letter b c)
  where
    go : (t : Bool)
        → pick t (b ∷ c ∷ shown_from f rest) (shown f b ++ shown_from f (c ∷ rest))
        ≡ pick t (b ∷ c ∷ []) (shown f b) ++ shown_from f (drop (pick t 2 1) (b ∷ c ∷ rest))
    go true = refl
    go false = refl

unit-short : (f : Form) (s : List ℕ) → 0 < length s → length (unit_shown f s) ≤ byte_most * unit_of s
unit-short f [] h = absurd (omega arith)
unit-short f (b ∷ []) h = omega (arith, shown-short f b)
unit-short f (b ∷ c ∷ rest) h = go (letter b c)
  where
    go : (t : Bool) → length (pick t (b ∷ c ∷ []) (shown f b)) ≤ byte_most * pick t 2 1
    go true = omega arith
    go false = omega (arith, shown-short f b)

pub record Putting (f : Form) (s old : List ℕ) (at i : ℕ) (now : List ℕ) (o : ℕ) : Type 0 where
  pub written : ToCome old at (shown_from f s) now (shown_from f (drop i s)) o
  pub short : o + byte_most * (length s - i) ≤ at + byte_most * length s
  pub room : at + byte_most * length s ≤ length old
  pub inside : i ≤ length s

module _ (f : Form) (s old : List ℕ) (at : ℕ) where
  pub put-starts : at + byte_most * length s ≤ length old → Putting f s old at 0 old at
  put-starts h = record { written = begun; short = omega arith; room = h; inside = omega arith }

  module _ (i : ℕ) (now : List ℕ) (o : ℕ) (inv : Putting f s old at i now o) where
    pub put_same : length now ≡ length old
    put_same = inv.written.same

    pub put-room : i < length s → (o + byte_most ≤ length now) × (i < length s)
    put-room h = (omega (arith, inv.short, inv.room, inv.written.same), h)

    pub put-goes : i < length s → (new : List ℕ) (next : ℕ) → Wrote now o (unit_shown f (drop i s)) new next → (n : ℕ)
        → (n ≡ unit_of (drop i s)) × (0 < n) × (i + n ≤ length s) → Putting f s old at (i + n) new next
    put-goes h new next w n u =
        let some : 0 < length (drop i s) = omega (arith, length-drop i s) in
        let after : drop (unit_of (drop i s)) (drop i s) ≡ drop (i + n) s
        = ap (λ (k : ℕ). drop k (drop i s)) (sym u.0) ∙ drop-drop n i s in
        record {
          written = gone_on
              (subst (λ (l : List ℕ). ToCome old at (shown_from f s) now l o)
              (shown-first f (drop i s) some ∙ ap (λ (l : List ℕ). unit_shown f (drop i s) ++ shown_from f l) after)
              inv.written) w;
          short = omega (arith, inv.short, w.past, unit-short f (drop i s) some, u.0, u.2);
          room = inv.room;
          inside = u.2;
        }

    pub put-ends : length s ≤ i → Wrote old at (shown_from f s) now o
    unfolding shown_from
    put-ends h =
        ended
        (subst (λ (l : List ℕ). ToCome old at (shown_from f s) now l o) (ap (shown_from f) (rest_end s i h))
        inv.written)

    pub put-few : length s ≤ i → o ≤ at + byte_most * length s
    put-few h = omega (arith, inv.short)

pub ruleset put_steps = (put-starts, put_same, put-room, put-goes, put-ends, put-few)

-- ---- one unit put

module _ (f : Form) (old : List ℕ) (at : ℕ) (s : List ℕ) (i : ℕ) (new : List ℕ) (r : ℕ) (t : Bool)
    (e : t ≡ paired (drop i s)) where
  pub pair_put : t ≡ true → (p : List ℕ) → p ≡ part s i (i + 2) → Wrote old at p new r
      → Wrote old at (unit_shown f (drop i s)) new r
  unfolding part
  pair_put h p ep v =
      let w : Wrote old at (take (i + 2 - i) (drop i s)) new r = rw (sym ep) v in
      let two : i + 2 - i ≡ 2 = omega arith in
      let two-put : Wrote old at (take 2 (drop i s)) new r = rw two at w in
      rw (sym e ∙ h) two-put

  pub one-put : t ≡ false → i < length s → Wrote old at (shown f (get_or s i 0)) new r
      → Wrote old at (unit_shown f (drop i s)) new r
  one-put h k w = rw (sym e ∙ h, first-at s i k) w

pub pair-room : (s : List ℕ) (i at n : ℕ) → at + byte_most ≤ n → (p : List ℕ) → p ≡ part s i (i + 2) → at + length p ≤ n
unfolding part
pair-room s i at n h p e = omega (arith, ap length e, length-take (i + 2 - i) (drop i s))

-- ---- the quotes

pub no-opening : (f : Form) (old : List ℕ) (at : ℕ) → f ≡ Plain → Wrote old at (opening f) old at
no-opening f old at e = rw e (wrote_nothing old at)

pub no-closing : (f : Form) (old : List ℕ) (at : ℕ) → f ≡ Plain → Wrote old at (closing f) old at
no-closing f old at e = rw e (wrote_nothing old at)

module _ (f : Form) (old : List ℕ) (at : ℕ) (new : List ℕ) (r : ℕ) where
  pub quote-opens : f ≡ Quoted → Wrote old at (bytes "'") new r → Wrote old at (opening f) new r
  quote-opens e w = rw e w

  pub dollar_opens : f ≡ Escaped → Wrote old at (bytes "$'") new r → Wrote old at (opening f) new r
  dollar_opens e w = rw e w

  pub quote-closes : f ≡ Quoted → Wrote old at (bytes "'") new r → Wrote old at (closing f) new r
  quote-closes e w = rw e w

  pub escapes_close : f ≡ Escaped → Wrote old at (bytes "'") new r → Wrote old at (closing f) new r
  escapes_close e w = rw e w

pub ruleset quote_steps = (quote-opens, dollar_opens, quote-closes, escapes_close)

pub all-put : (s old mid more new : List ℕ) (at a b r : ℕ) (f : Form) → f ≡ form_of s
    → Wrote old at (opening f) mid a × (a ≤ at + 2)
    → Wrote mid a (shown_from f s) more b × (b ≤ a + byte_most * length s)
    → Wrote more b (closing f) new r × (r ≤ b + 1)
    → Wrote old at (quoted s) new r × (r ≤ at + quoted_most (length s))
unfolding quoted
all-put s old mid more new at a b r f e x y z =
    (rw (sym e) (wrote-append (wrote-append x.0 y.0) z.0), omega (arith, x.1, y.1, z.1))
