-- The texts of a reason, as the code writes them. Assumes nothing.
use Prim.Native.Nat.{ℕ}
use mathlib.Core.Path.{◌≡◌}
use mathlib.Core.List.{List}
use Rattle.base.specs.Text.{bytes}
use Rattle.base.specs.Wrote.{Wrote}
use Rattle.reasons.specs.declared.Reason.{Reason}
use Rattle.reasons.specs.declared.Reason.TheVariants.{NoSuchDays, NotAvailable, AsChosen, Lowered}
use Rattle.lines_reasons.specs.Lines.{reason_field, because}

module _ (old new : List ℕ) (at end : ℕ) (r : Reason) where
  pub no-days-field : r ≡ NoSuchDays → Wrote old at (bytes ",no_such_days,") new end
      → Wrote old at (reason_field r) new end
  no-days-field e w = rw e w

  pub no-yard-field : r ≡ NotAvailable → Wrote old at (bytes ",not_available,") new end
      → Wrote old at (reason_field r) new end
  no-yard-field e w = rw e w

  pub chosen-field : r ≡ AsChosen → Wrote old at (bytes ",as_chosen,") new end
      → Wrote old at (reason_field r) new end
  chosen-field e w = rw e w

  pub lowered-field : r ≡ Lowered → Wrote old at (bytes ",lowered,") new end
      → Wrote old at (reason_field r) new end
  lowered-field e w = rw e w

  pub no-days-because : r ≡ NoSuchDays
      → Wrote old at (bytes ", since there is no such day and the chosen share stays ") new end
      → Wrote old at (bytes (because r)) new end
  no-days-because e w = rw e w

  pub no-yard-because : r ≡ NotAvailable
      → Wrote old at (bytes ", since no yard is available and the chosen share is ") new end
      → Wrote old at (bytes (because r)) new end
  no-yard-because e w = rw e w

  pub chosen-because : r ≡ AsChosen
      → Wrote old at (bytes ", the same as the chosen share of ") new end
      → Wrote old at (bytes (because r)) new end
  chosen-because e w = rw e w

  pub lowered-because : r ≡ Lowered
      → Wrote old at (bytes ", lowered from the chosen share of ") new end
      → Wrote old at (bytes (because r)) new end
  lowered-because e w = rw e w

pub ruleset field_steps = (no-days-field, no-yard-field, chosen-field, lowered-field)

pub ruleset because_steps = (no-days-because, no-yard-because, chosen-because, lowered-because)
