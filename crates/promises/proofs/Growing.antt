-- 02, W14, over the calls: "for two herds alike in everything but animals, the one with more has no smaller NH3 figure
-- from yard, pasture or roughage housing, cuts, ceiling and all; likewise for entered N a head." Of every kind of herd;
-- and a farm that has such a herd in place of one of its own has no smaller NH3 total. Assumes nothing.
use Prim.Native.String.{String}
use mathlib.Core.Path.{◌≡◌, sym, ◌∙◌}
use Rattle.inputs.specs.declared.Kind.{Kind}
use Rattle.farm.specs.declared.Herd.{Herd}
use Rattle.farm.specs.declared.Farm.{Farm}
use Rattle.farm.specs.Answers.{Accepted}
use Rattle.checks.specs.Checks.{herds_of}
use Rattle.checks.proofs.Accepts.{farm-each}
use Rattle.model.specs.Answers.{herd_answer, farm_answer}
use Rattle.growing_theorems.specs.Growing.{Grows, More, OneHasMore, NoLessAmmonia, NoLessInTotal}
use Rattle.growing_theorems.proofs.Herd.{more-no-less}
use Rattle.growing_theorems.proofs.Farm.{totals-no-less}
use Rattle.contracts.proofs.RecordSteps.{herd-checked, herd_figured, farm-checked, farm_figured}

module _ {name : String} (grows : Grows name) where
  pub never-less-ammonia : {kind : Kind} (h g : Herd) → (herd_answer h).checked ≡ Accepted
      → (herd_answer g).checked ≡ Accepted → More name kind h g
      → NoLessAmmonia (herd_answer h).figures (herd_answer g).figures
  never-less-ammonia h g eh eg m =
      let ah = sym (herd-checked h) ∙ eh in
      let ag = sym (herd-checked g) ∙ eg in
      rw (herd_figured h ah, herd_figured g ag) (more-no-less grows h g ah m)

  pub never-less_in_total : (f g : Farm) → (farm_answer f).checked ≡ Accepted → (farm_answer g).checked ≡ Accepted
      → OneHasMore name (herds_of f) (herds_of g)
      → NoLessInTotal (farm_answer f).totals (farm_answer g).totals
  never-less_in_total f g ef eg o =
      let af = sym (farm-checked f) ∙ ef in
      let ag = sym (farm-checked g) ∙ eg in
      rw (farm_figured f af, farm_figured g ag) (totals-no-less grows o (farm-each f af))
