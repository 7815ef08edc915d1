-- Every line of the table holds: one computation over all of them, from the definitions. Assumes nothing.
use mathlib.Core.Path.{refl}
use Rattle.base.specs.Each.{Each}
use Rattle.base.proofs.Each.{each_same}
use Rattle.tables.specs.Standards.{standard_of}
use Rattle.tables.specs.Growth.{k_of, within_day, k_at, nearest, growth_num, growth_den, exp_num, exp_den}
use Rattle.yard.specs.Yard.{days_with_grazing_and_yard, share_lowered, share_excretion_with_grazing, yard_time}
use Rattle.pasture.specs.Pasture.{outdoor_grazing_time, roughage_grazing_time}
use Rattle.notes.specs.Notes.{notes_of}
use Rattle.outputs.specs.Grams.{by_number, farm_total, totals_of}
use Rattle.herd.specs.Herd.{figures_of}
use Rattle.model.specs.Edges.{Edge, Holds, table}

pub edges : Each Holds table
unfolding figures_of notes_of standard_of days_with_grazing_and_yard share_lowered share_excretion_with_grazing
    yard_time
    outdoor_grazing_time roughage_grazing_time k_of within_day k_at nearest growth_num growth_den exp_num exp_den
    by_number farm_total totals_of
edges = each_same (λ (e : Edge). e.given) (λ (e : Edge). e.said) table refl
