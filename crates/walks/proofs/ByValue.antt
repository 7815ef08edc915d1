-- A walk calls a function that takes and gives all by value: what the call asks is had for nothing, and what it leaves
-- is its answer with what the contract says of it. Assumes `Logic`.
--     asked      what the parameters' types own, from their relations
--     answer     after the call: an r with P r, and v is its machine value; F is what is said of the parameters' last
--                values, of which there are none
--     told       the same where the call was handed lifetimes, whose tokens i come back
use mathlib.Core.List.{List, [], ◌∷◌}
use seplogic.Ra.Ura.{Ura}
use mir.Val.{Val}
use base.Logic.{ent, sep, ex, emp, id⊢}
use base.Fml.{Fml}
use types.Logic.{Logic, sem}
use contract.Monad.{fact}
use types.Kit.{Item, Goal, Soaks, Seq, ‵, raw, ◌⊛◌, some, later, mean, ◌$◌, ◌∵◌, !, qed, move, use0, use1, drop}
use types.Kit.{split, join, pick, frame, await, done}
use denote.RattleType.{RattleType, Denots, Valss, owns}
use denote.Laws.{Is, Ises, Are, Makess, shows, owns_make}
use denote.Steps.{nothing, heard, facts}

module _ {M : Type 1} {𝓤 : Ura M} (𝓛 : Logic 𝓤) where
  pub asked : (Rs : List RattleType) → Makess 𝓛 Rs (Ises Rs) → (a : Denots Rs) (vss : Valss Rs)
      → Are Rs (Ises Rs) a vss
      → ent 𝓤 (emp 𝓤) (sep 𝓤 (sep 𝓤 (emp 𝓤) (sem 𝓛 (owns Rs a vss))) (emp 𝓤))
  asked Rs mk a vss g =
      qed 𝓛 [] ∵ use0 𝓛 (‵ (owns Rs a vss)) (owns_make 𝓛 Rs (Ises Rs) mk a vss g) $ nothing ! $ join ! $ frame ! $
      done !

module _ {M : Type 1} {𝓤 : Ura M} {𝓛 : Logic 𝓤} {K : Type 0} {Γ : List (Item 𝓤)}
    {G : Goal 𝓤 𝓛.H} where
  open 𝓛 use {H}

  pub told : K → Soaks G → (i : Item 𝓤) (R : RattleType) (v : Val) {X : Type 0} (F : X → Fml) (P : R.Denot → Type 0)
      → ((r : R.Denot) → P r → Is R r (v ∷ []) → Seq K 𝓛 (i ∷ Γ) G)
      → Seq K 𝓛 (raw (H.⇛ (ex 𝓤 (λ (r : R.Denot). sep 𝓤 (sep 𝓤 (mean 𝓛 i) (sem 𝓛 (R.own_val r (v ∷ []))))
      (ex 𝓤 (λ (x : X). sep 𝓤 (sem 𝓛 (F x)) (fact 𝓤 (P r))))))) ∷ Γ) G
  told t z i R v {X} F P k =
      use1 𝓛
      (later (some (λ (r : R.Denot). (i ⊛ ‵ (R.own_val r (v ∷ []))) ⊛ some (λ (x : X). ‵ (F x) ⊛ raw (fact 𝓤 (P r))))))
      (id⊢ 𝓤 _) $ await t z $ pick t (λ r. split t $ move t (1 ∷ []) $ pick t (λ x. split t $ drop t $
      heard t (P r) (λ e. split t $ move t (1 ∷ []) $ facts t R (Is R) (shows 𝓛 R) r (v ∷ []) (λ is. k r e is))))

  pub answer : K → Soaks G → (R : RattleType) (v : Val) {X : Type 0} (F : X → Fml) (P : R.Denot → Type 0)
      → ((r : R.Denot) → P r → Is R r (v ∷ []) → Seq K 𝓛 Γ G)
      → Seq K 𝓛 (raw (H.⇛ (ex 𝓤 (λ (r : R.Denot). sep 𝓤 (sep 𝓤 (emp 𝓤) (sem 𝓛 (R.own_val r (v ∷ []))))
      (ex 𝓤 (λ (x : X). sep 𝓤 (sem 𝓛 (F x)) (fact 𝓤 (P r))))))) ∷ Γ) G
  answer t z R v F P k = told t z (raw (emp 𝓤)) R v F P (λ r e is. drop t $ k r e is)
