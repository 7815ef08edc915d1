-- What a step takes off a farm's totals and adds to them: the totals of at most one herd each, which are small beside
-- the largest that 16 allows. It mirrors the code for its contracts: what a step does is `moved` of crate `books`.
use Rattle.std.specs.Prelude.{ℕ, ◌≡◌, List, map, length, ℤ, ◌+ℤ◌, ◌-ℤ◌}
use Rattle.farm.specs.declared.Herd.{Herd}
use Rattle.outputs.specs.declared.Totals.{Totals}
use Rattle.outputs.specs.Names.{totals}
use Rattle.outputs.specs.Grams.{grams_at, by_number, totals_of, GramsTo}
use Rattle.model.specs.Answers.{herd_figures}

-- no total of one herd is larger: it has at most three addends, and a figure is at most 4,000,000,000 grams
abbrev pub part_most : ℕ
part_most = 12000000000

-- the totals of these herds, and that they are small
pub record TotalsOf (hs : List Herd) (r : Totals) : Type 0 where
  pub is : r ≡ totals_of (map herd_figures hs)
  pub small : GramsTo part_most r.grams

-- the grams of t less those of `gone` and more by those of `come`
abbrev pub moved_by : Totals → Totals → Totals → List ℤ
moved_by t gone come =
    by_number (length totals)
    (λ n. (grams_at t.grams n -ℤ grams_at gone.grams n) +ℤ grams_at come.grams n)
