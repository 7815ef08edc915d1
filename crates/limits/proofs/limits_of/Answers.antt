-- `limits::limits_of` meets its contract, by where the file comes from. Assumes nothing.
use mathlib.Core.Path.{◌≡◌}
use borrow.Author.Rules.{rules}
use Rattle.limits.specs.declared.Source.{Source}
use Rattle.limits.specs.declared.Source.TheVariants.{StandardInput, Cooperative}
use Rattle.limits.specs.Limits.{limits_of}
use Rattle.limits.proofs.limits_of.Goals as goal

of-input : (source : Source) → source ≡ StandardInput → limits_of StandardInput ≡ limits_of source
of-input source e = rw e

of_cooperative : (source : Source) → source ≡ Cooperative → limits_of Cooperative ≡ limits_of source
of_cooperative source e = rw e

pub returns-in-StandardInput : goal.returns-in-StandardInput
unfolding limits_of
returns-in-StandardInput c = search (rules, of-input)

pub returns-in-Cooperative : goal.returns-in-Cooperative
unfolding limits_of
returns-in-Cooperative c = search (rules, of_cooperative)
