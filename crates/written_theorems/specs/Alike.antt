-- 02, W5: "the same farm (same kinds, labels and inputs)". What stands behind a label's length or in slots behind a
-- kind's inputs says nothing; and the herd that has nothing there. To be believed.
use Rattle.std.specs.Prelude.{ℕ, ◌-◌, ◌<◌, ◌≡◌, List, ◌++◌, length, take, replicate}
use Rattle.inputs.specs.Inputs.{count_of}
use Rattle.farm.specs.declared.Herd.{Herd}
use Rattle.farm.specs.Limits.{label_most, slots}
use Rattle.farm.specs.Labels.{text, label_of}
use Rattle.farm.specs.Herds.{no_slot}
use Rattle.checks.specs.Refusals.{given_at}
use Rattle.rules_theorems.specs.Lists.{Pairs}

-- two herds say the same
pub record Alike (g h : Herd) : Type 0 where
  pub kind : g.kind ≡ h.kind
  pub label : text g.label ≡ text h.label
  pub inputs : (slot : ℕ) → slot < count_of g.kind → given_at g slot ≡ given_at h slot

-- and so do two farms, herd by herd
abbrev pub AlikeHerds : List Herd → List Herd → Type 0
AlikeHerds gs hs = Pairs Alike gs hs

-- the herd that says the same and nothing else
abbrev pub said : Herd → Herd
said h = record {
  label = label_of (text h.label);
  kind = h.kind;
  slots = take (count_of h.kind) h.slots ++ replicate (slots - count_of h.kind) no_slot;
}

-- as every herd that is handed in: the label has its room
pub record HasRoom (h : Herd) : Type 0 where
  pub label : length h.label.bytes ≡ label_most
