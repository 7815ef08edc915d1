-- The steps of the loop over a herd's inputs that finds one unfit, each in the form that a place of the code wants: i
-- inputs fitted. Assumes nothing.
use Prim.Native.Nat.{ℕ, ◌+◌, ◌≤◌, ◌<◌}
use mathlib.Core.Path.{◌≡◌, refl, ap, sym, ◌∙◌}
use mathlib.Core.Bool.{Bool, true, false, not, ◌||◌}
use mathlib.Core.List.{List, [], ◌∷◌}
use native.Mathlib.Omega.{arith}
use lib.ListN.{length, get_or, take, drop, length-take}
use Rattle.inputs.specs.declared.Form.{Form}
use Rattle.inputs.specs.Inputs.{Row, rows_of, count_of, last_of, form_of}
use Rattle.farm.specs.Limits.{slots}
use Rattle.farm.specs.declared.Slot.{Slot}
use Rattle.farm.specs.declared.Herd.{Herd}
use Rattle.fits.specs.Fits.{fits, unfit_one, unfit}
use Rattle.farm.proofs.Slots.{count_most}
use Rattle.farm.proofs.Left.{left_at, left_end}

-- what a herd says of its inputs
abbrev pub said_of : Herd → List Slot
said_of h = take (count_of h.kind) h.slots

unfit-said : (rows : List Row) (said : List Slot)
    → unfit_one rows (take (length rows) said) ≡ unfit_one rows said
unfit-said [] said = refl
unfit-said (row ∷ rows) [] = refl
unfit-said (row ∷ rows) (s ∷ said) = ap (λ (t : Bool). not (fits row.form s.given) || t) (unfit-said rows said)

pub unfit-start : (h : Herd) → unfit_one (rows_of h.kind) (said_of h) ≡ unfit h
unfolding unfit
unfit-start h = unfit-said (rows_of h.kind) h.slots

module _ (h : Herd) (i : ℕ) (inv : unfit_one (drop i (rows_of h.kind)) (drop i (said_of h)) ≡ unfit h)
    {count : ℕ} (q : count ≡ count_of h.kind) where
  module _ (b : i < length (take count h.slots)) (d : Slot) {form : Form} (f : form ≡ form_of h.kind i) (r : Bool)
      (e : r ≡ fits form (get_or (take count h.slots) i d).given) where
    next-fit : (not r || unfit_one (drop (i + 1) (rows_of h.kind)) (drop (i + 1) (said_of h))) ≡ unfit h
    unfolding form_of
    next-fit =
        let s : take count h.slots ≡ said_of h = ap (λ (n : ℕ). take n h.slots) q in
        let j : i < length (said_of h) = omega (arith, ap length s) in
        let k : i < count_of h.kind = omega (arith, length-take (count_of h.kind) h.slots) in
        rw (e, f, s) (rw (left_at (rows_of h.kind) i (last_of (rows_of h.kind)) k, left_at (said_of h) i d j) at inv)

    pub misfit : not r ≡ true → true ≡ unfit h
    misfit t = sym (rw t) ∙ next-fit

    pub fitting : not r ≡ false → unfit_one (drop (i + 1) (rows_of h.kind)) (drop (i + 1) (said_of h)) ≡ unfit h
    fitting t = sym (rw t) ∙ next-fit

  pub all-fitting : length h.slots ≡ slots → length (take count h.slots) ≤ i → false ≡ unfit h
  all-fitting long b =
      let k : count_of h.kind ≤ i = omega (arith, q, length-take count h.slots, count_most h.kind) in
      rw (left_end (rows_of h.kind) i k) at inv

pub ruleset unfit_steps = (unfit-start, misfit, fitting, all-fitting)
