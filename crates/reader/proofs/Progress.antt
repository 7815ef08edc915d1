-- How far the code has read a file: in two parts, the farm and the herd being read. Assumes nothing.
use mathlib.Core.Path.{◌≡◌}
use Rattle.farm.specs.declared.Farm.{Farm}
use Rattle.reader.specs.declared.files.Current.{Current}
use Rattle.reader.specs.Files.{Progress, nothing_read}

-- how far a file is read, by the farm of the herds that are closed and the one being read
abbrev pub progress : Farm → Current → Progress
progress f c = record { farm = f; herd = c.herd; first = c.first; lacking = c.lacking }

-- nothing is read yet, or a herd is being read
pub data Underway (p : Progress) : Type 0 where
  not_yet : p ≡ nothing_read → Underway p
  reading : (p.first ≡ 0 → ⊥) → Underway p
