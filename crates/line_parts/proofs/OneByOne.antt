-- The texts of a list's entries written one after the other: a turn, and the end. Assumes nothing.
use Prim.Native.Nat.{ℕ}
use mathlib.Core.Path.{◌≡◌, subst}
use mathlib.Core.List.{List, [], ◌∷◌}
use Rattle.base.specs.Wrote.{Wrote}
use Rattle.base.proofs.ToCome.{ToCome, gone_on, ended}
use Rattle.line_parts.specs.Fields.{each}

-- the texts of the entries that are left are still to be written
module _ {A : Type 0} (of : A → List ℕ) {left : List A} {old whole now : List ℕ} {start next : ℕ} where
  module _ (t : ToCome old start whole now (each of left) next) where
    pub entry-put : {x : A} {rest : List A} → left ≡ x ∷ rest → {new : List ℕ} {after : ℕ}
        → Wrote now next (of x) new after → ToCome old start whole new (each of rest) after
    entry-put e w = gone_on (subst (λ (l : List A). ToCome old start whole now (each of l) next) e t) w

    pub all-entries-put : left ≡ [] → Wrote old start whole now next
    all-entries-put e = ended (subst (λ (l : List A). ToCome old start whole now (each of l) next) e t)
