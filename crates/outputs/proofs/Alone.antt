-- A total of one addend is that figure, summed over the herds. So what balances in each herd balances in the totals.
-- Assumes nothing.
use Prim.Native.Nat.{ℕ}
use Prim.Native.String.{String}
use mathlib.Core.Path.{◌≡◌, sym, ap, ◌∙◌}
use mathlib.Core.Bool.{Bool, false, ◌&&◌}
use mathlib.Core.List.{List, [], ◌∷◌}
use lib.Dec.{T, eqb, ltb, ltb→lt, eqb→eq}
use lib.ListN.{length, get_or}
use lib.IntN.{+ℤ_idl}
use Rattle.base.specs.Runs.{all}
use Rattle.base.specs.Each.{Each, none, more}
use Rattle.base.proofs.Table.{both_left, both_right}
use Rattle.cut_division.specs.Total.{signed_total}
use Rattle.cut_division.proofs.Totals.{signed_total-same, signed_total-swap}
use Rattle.outputs.specs.declared.Figures.{Figures}
use Rattle.outputs.specs.Names.{number, totals, total_number, addends}
use Rattle.outputs.specs.Grams.{grams_at, figure, total, farm_total, totals_of}
use Rattle.outputs.proofs.ByNumber.{by-number-at}

abbrev only_one : List ℕ → ℕ → Bool
only_one [] n = false
only_one (x ∷ []) n = eqb x n
only_one (x ∷ (y ∷ l)) n = false

only_one_lem : (l : List ℕ) (n : ℕ) → T (only_one l n) → l ≡ n ∷ []
only_one_lem (x ∷ []) n t = ap (λ (m : ℕ). m ∷ []) (eqb→eq x n t)
only_one_lem [] n t = absurd t
only_one_lem (x ∷ (y ∷ l)) n t = absurd t

-- the name is a total, and its only addend is the figure of that name
abbrev pub is_alone : String → Bool
is_alone t = ltb (total_number t) (length totals) && only_one (get_or addends (total_number t) []) (number t)

pub total-alone : (l : List Figures) (t : String) → T (is_alone t)
    → total t (totals_of l) ≡ signed_total (λ f. figure t f) l
unfolding totals_of farm_total
total-alone l t h =
    let first = ltb (total_number t) (length totals) in
    let second = only_one (get_or addends (total_number t) []) (number t) in
    by-number-at (farm_total l) (length totals) (total_number t)
    (ltb→lt (total_number t) (length totals) (both_left first second h))
    ∙ ap (λ ns. signed_total (λ n. signed_total (λ (f : Figures). grams_at f.grams n) l) ns)
    (only_one_lem (get_or addends (total_number t) []) (number t) (both_right first second h))
    ∙ +ℤ_idl (signed_total (λ f. figure t f) l)

-- each name of a list is such a total
pub totals-alone : (l : List Figures) (ts : List String) → T (all is_alone ts)
    → Each (λ t. total t (totals_of l) ≡ signed_total (λ f. figure t f) l) ts
totals-alone l [] h = none
totals-alone l (t ∷ ts) h =
    more (total-alone l t (both_left (is_alone t) (all is_alone ts) h))
    (totals-alone l ts (both_right (is_alone t) (all is_alone ts) h))

-- the parts of an amount add up to it in the totals where they do so in each herd
pub totals-balance : (l : List Figures) (t : String) (ts : List String) → T (is_alone t && all is_alone ts)
    → Each (λ f. figure t f ≡ signed_total (λ p. figure p f) ts) l
    → total t (totals_of l) ≡ signed_total (λ p. total p (totals_of l)) ts
totals-balance l t ts h es =
    total-alone l t (both_left (is_alone t) (all is_alone ts) h)
    ∙ signed_total-same es
    ∙ signed_total-swap (λ f p. figure p f) l ts
    ∙ sym (signed_total-same (totals-alone l ts (both_right (is_alone t) (all is_alone ts) h)))
