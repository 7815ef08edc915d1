-- 02, W14: "for two herds alike in everything but animals, the one with more has no smaller NH3 figure from yard,
-- pasture or roughage housing, cuts, ceiling and all; likewise for entered N a head." Which records are alike, which
-- figures and totals are meant, and what no smaller is. proofs/Herd.antt and proofs/Farm.antt show it. To be believed.
use Rattle.std.specs.Prelude.{ℕ, ◌≤◌, ◌<◌, ◌≡◌, List, [], ◌∷◌, ◌≤ℤ◌}
use Prim.Native.String.{String}
use Rattle.base.specs.Each.{Each}
use Rattle.inputs.specs.declared.Kind.{Kind}
use Rattle.inputs.specs.Inputs.{rows_of, count_of}
use Rattle.farm.specs.declared.Given.{Given}
use Rattle.farm.specs.declared.Given.TheVariants.{Value}
use Rattle.farm.specs.declared.Herd.{Herd}
use Rattle.typed_inputs.specs.Typed.{place_named, given_at}
use Rattle.outputs.specs.declared.Figures.{Figures}
use Rattle.outputs.specs.declared.Totals.{Totals}
use Rattle.outputs.specs.Grams.{figure, total}

-- ---- records

-- the inputs of which a herd may have more
pub data Grows : String → Type 0 where
  animals : Grows "animals"
  entered_n : Grows "inp_n_excretion"

-- the place of an input among those of a kind
abbrev pub place_of : Kind → String → ℕ
place_of kind name = place_named name (rows_of kind)

-- two numbers, of which the second is no smaller; `standard` is none
pub data NoFewer : Given → Given → Type 0 where
  no_fewer : {a b : ℕ} → a ≤ b → NoFewer (Value a) (Value b)

-- two records of a kind that say the same of every input but the named one; of that both give a number, and the second
-- no smaller one. Nothing is asked of their labels, nor of the slots behind the inputs of the kind.
pub record More (name : String) (kind : Kind) (h g : Herd) : Type 0 where
  pub kind_of_first : h.kind ≡ kind
  pub kind_of_second : g.kind ≡ kind
  pub others : (place : ℕ) → place < count_of kind → (place ≡ place_of kind name → ⊥)
      → given_at g place ≡ given_at h place
  pub named : NoFewer (given_at h (place_of kind name)) (given_at g (place_of kind name))

-- a farm's herds, one of which is replaced by one with more
pub data OneHasMore (name : String) : List Herd → List Herd → Type 0 where
  this : {kind : Kind} {h g : Herd} {hs : List Herd} → More name kind h g → OneHasMore name (h ∷ hs) (g ∷ hs)
  later : {h : Herd} {hs gs : List Herd} → OneHasMore name hs gs → OneHasMore name (h ∷ hs) (h ∷ gs)

-- ---- figures

-- a herd's NH3, and a farm's: all names that begin so (`all-ammonia` of proofs/Names.antt)
abbrev pub ammonia : List String
ammonia = "nh3_nyard" ∷ "nh3_ngrazing" ∷ "nh3_nhousing" ∷ []

abbrev pub ammonia_totals : List String
ammonia_totals =
    "nh3_nhousing" ∷ "nh3_nyard" ∷ "nh3_ngrazing" ∷ "nh3_nhousing_and_yard" ∷ "nh3_nlivestock" ∷ []

abbrev pub NoLessAmmonia : Figures → Figures → Type 0
NoLessAmmonia f g = Each (λ t. figure t f ≤ℤ figure t g) ammonia

abbrev pub NoLessInTotal : Totals → Totals → Type 0
NoLessInTotal f g = Each (λ t. total t f ≤ℤ total t g) ammonia_totals
