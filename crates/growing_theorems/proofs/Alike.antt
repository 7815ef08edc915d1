-- What a record with more has beside the other, kind by kind: its typed inputs are the other's, but for the animals and
-- the N a head, and neither of these is smaller. Assumes nothing.
use Prim.Native.Nat.{ℕ, ◌≤◌, ◌<◌}
use Prim.Native.String.{String}
use mathlib.Core.Path.{◌≡◌}
use native.Mathlib.Nat.{le_refl}
use native.Mathlib.Omega.{arith}
use Rattle.inputs.specs.declared.Kind.{Kind}
use Rattle.inputs.specs.declared.Kind.TheVariants as kinds
use Rattle.inputs.specs.Inputs.{count_of}
use Rattle.farm.specs.declared.Given.{Given}
use Rattle.farm.specs.declared.Herd.{Herd}
use Rattle.kinds.specs.declared.CattleKind.{CattleKind}
use Rattle.kinds.specs.declared.CattleKind.TheVariants.{OtherCattle, DairyCow}
use Rattle.kinds.proofs.Grown.{grown_roughage, grown_cattle, grown_pigs}
use Rattle.excretion.specs.Excretion.{n_excretion_animal}
use Rattle.typed_inputs.specs.Typed.{
  number_in,
  entered_in,
  given_at,
  number_at,
  entered_at,
  roughage_of,
  outdoor_of,
  kind_of,
  cattle_of,
  pigs_of,
}
use Rattle.typed_inputs.proofs.Fields.{in_slots_lem}
use Rattle.growing_theorems.specs.Growing.{Grows, animals, entered_n, place_of, NoFewer, no_fewer, More}

-- ---- one input: the same, or a number that is no smaller

pub data NoLess : Given → Given → Type 0 where
  same : {a b : Given} → b ≡ a → NoLess a b
  grown : {a b : Given} → NoFewer a b → NoLess a b

number-grows : {a b : Given} → NoLess a b → number_in a ≤ number_in b
number-grows {a} (same e) = rw e (le_refl (number_in a))
number-grows (grown (no_fewer h)) = h

head_grows : (category : ℕ) {a b : Given} → NoLess a b
    → n_excretion_animal category (entered_in a) ≤ n_excretion_animal category (entered_in b)
head_grows category {a} (same e) = rw e (le_refl (n_excretion_animal category (entered_in a)))
head_grows category (grown (no_fewer h)) = h

-- ---- both inputs, whichever of them grows

-- each kind has both, at two places
has-animals : (kind : Kind) → place_of kind "animals" < count_of kind
has-animals kinds.Roughage = omega arith
has-animals kinds.Cattle = omega arith
has-animals kinds.Pigs = omega arith
has-animals kinds.DairyCow = omega arith

has-n : (kind : Kind) → place_of kind "inp_n_excretion" < count_of kind
has-n kinds.Roughage = omega arith
has-n kinds.Cattle = omega arith
has-n kinds.Pigs = omega arith
has-n kinds.DairyCow = omega arith

apart : (kind : Kind) → place_of kind "animals" < place_of kind "inp_n_excretion"
apart kinds.Roughage = omega arith
apart kinds.Cattle = omega arith
apart kinds.Pigs = omega arith
apart kinds.DairyCow = omega arith

pub record BothGrow (kind : Kind) (h g : Herd) : Type 0 where
  pub animals : NoLess (given_at h (place_of kind "animals")) (given_at g (place_of kind "animals"))
  pub n : NoLess (given_at h (place_of kind "inp_n_excretion")) (given_at g (place_of kind "inp_n_excretion"))
  pub others : (place : ℕ) → place < count_of kind → (place ≡ place_of kind "animals" → ⊥)
      → (place ≡ place_of kind "inp_n_excretion" → ⊥)
      → given_at g place ≡ given_at h place

pub both_grow : {name : String} {kind : Kind} {h g : Herd} → Grows name → More name kind h g → BothGrow kind h g
both_grow {kind = kind} animals m =
    record {
      animals = grown m.named;
      n = same (m.others (place_of kind "inp_n_excretion") (has-n kind) (λ e. omega (arith, apart kind)));
      others = λ place inside a n. m.others place inside a;
    }
both_grow {kind = kind} entered_n m =
    record {
      animals = same (m.others (place_of kind "animals") (has-animals kind) (λ e. omega (arith, apart kind)));
      n = grown m.named;
      others = λ place inside a n. m.others place inside n;
    }

-- ---- kind by kind

-- both kinds of cattle have the others from the third slot on
others-alike : (h g : Herd) (k : CattleKind)
    → ((place : ℕ) → place < 9 → (place ≡ 0 → ⊥) → (place ≡ 1 → ⊥) → given_at g place ≡ given_at h place)
    → cattle_of k g ≡ grown_cattle (number_at g 0) (number_at g 1) (cattle_of k h)
unfolding outdoor_of
others-alike h g k o =
    rw (
      in_slots_lem g k,
      in_slots_lem h k,
      o 2 (omega arith) (λ e. omega arith) (λ e. omega arith),
      o 3 (omega arith) (λ e. omega arith) (λ e. omega arith),
      o 4 (omega arith) (λ e. omega arith) (λ e. omega arith),
      o 5 (omega arith) (λ e. omega arith) (λ e. omega arith),
      o 6 (omega arith) (λ e. omega arith) (λ e. omega arith),
      o 7 (omega arith) (λ e. omega arith) (λ e. omega arith),
      o 8 (omega arith) (λ e. omega arith) (λ e. omega arith),
    )

module _ {h g : Herd} where
  module _ (b : BothGrow kinds.Roughage h g) where
    pub roughage-alike : roughage_of g ≡ grown_roughage (number_at g 1) (entered_at g 2) (roughage_of h)
    unfolding roughage_of
    roughage-alike =
        let o : (place : ℕ) → place < 7 → (place ≡ 1 → ⊥) → (place ≡ 2 → ⊥) → given_at g place ≡ given_at h place
        = b.others in
        rw (
          o 0 (omega arith) (λ e. omega arith) (λ e. omega arith),
          o 3 (omega arith) (λ e. omega arith) (λ e. omega arith),
          o 4 (omega arith) (λ e. omega arith) (λ e. omega arith),
          o 5 (omega arith) (λ e. omega arith) (λ e. omega arith),
          o 6 (omega arith) (λ e. omega arith) (λ e. omega arith),
        )

    pub roughage-animals : (roughage_of h).animals ≤ number_at g 1
    unfolding roughage_of
    roughage-animals = number-grows b.animals

    pub roughage_head : (category : ℕ) → n_excretion_animal category (roughage_of h).inp_n_excretion
        ≤ n_excretion_animal category (entered_at g 2)
    unfolding roughage_of
    roughage_head category = head_grows category b.n

  pub cattle-alike : (k : CattleKind) → BothGrow (kind_of k) h g
      → cattle_of k g ≡ grown_cattle (number_at g 0) (number_at g 1) (cattle_of k h)
  cattle-alike OtherCattle b = others-alike h g OtherCattle b.others
  cattle-alike DairyCow b = others-alike h g DairyCow b.others

  pub cattle-animals : (k : CattleKind) → BothGrow (kind_of k) h g → (cattle_of k h).animals ≤ number_at g 0
  unfolding cattle_of
  cattle-animals OtherCattle b = number-grows b.animals
  cattle-animals DairyCow b = number-grows b.animals

  pub cattle_head : (k : CattleKind) → BothGrow (kind_of k) h g → (cattle_of k h).inp_n_excretion ≤ number_at g 1
  unfolding cattle_of
  cattle_head OtherCattle b = number-grows b.n
  cattle_head DairyCow b = number-grows b.n

  module _ (b : BothGrow kinds.Pigs h g) where
    pub pigs-alike : pigs_of g ≡ grown_pigs (number_at g 0) (number_at g 1) (pigs_of h)
    unfolding pigs_of
    pigs-alike =
        let o : (place : ℕ) → place < 8 → (place ≡ 0 → ⊥) → (place ≡ 1 → ⊥) → given_at g place ≡ given_at h place
        = b.others in
        rw (
          o 2 (omega arith) (λ e. omega arith) (λ e. omega arith),
          o 3 (omega arith) (λ e. omega arith) (λ e. omega arith),
          o 4 (omega arith) (λ e. omega arith) (λ e. omega arith),
          o 5 (omega arith) (λ e. omega arith) (λ e. omega arith),
          o 6 (omega arith) (λ e. omega arith) (λ e. omega arith),
          o 7 (omega arith) (λ e. omega arith) (λ e. omega arith),
        )

    pub pigs-animals : (pigs_of h).animals ≤ number_at g 0
    unfolding pigs_of
    pigs-animals = number-grows b.animals

    pub pigs_head : (pigs_of h).inp_n_excretion ≤ number_at g 1
    unfolding pigs_of
    pigs_head = number-grows b.n
