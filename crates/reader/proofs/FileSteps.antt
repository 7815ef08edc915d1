-- How far a file is read, from the calls that go on with it: each law in the form that a place of src/files.rt wants.
-- Assumes nothing.
use Prim.Native.Nat.{ℕ}
use mathlib.Core.Path.{◌≡◌, refl, sym, ◌∙◌}
use lib.ListN.{set}
use borrow.Author.Tests.{eq-eqb, ne_eqb}
use Rattle.farm.specs.declared.Herd.{Herd}
use Rattle.farm.specs.declared.Farm.{Farm}
use Rattle.farm.specs.declared.Refusal.{Refusal}
use Rattle.farm.specs.declared.Refusal.TheVariants.{InputMissing}
use Rattle.farm.specs.Herds.{no_farm}
use Rattle.herd_tests.specs.Tests.{lacks}
use Rattle.next_herd.specs.Farms.{lacking_with, herds_so_far}
use Rattle.reader.specs.declared.files.Current.{Current}
use Rattle.reader.specs.declared.FileAnswer.{FileAnswer}
use Rattle.reader.specs.Files.{Progress, nothing_read, refused, accepted, lacking_now, closed, finished}
use Rattle.reader.proofs.Progress.{progress, Underway}
use Rattle.base.specs.Refused.{refuse}

-- ---- a refusal

pub gets_refusal : (n : ℕ) (refusal : Refusal) {f : Farm} → f ≡ no_farm
    → record { checked = refuse refusal n; farm = f } ≡ refused n refusal
gets_refusal n refusal e = cc

-- ---- how many herds there are

-- where nothing is read yet there is none
pub none_yet : {p : Progress} → p ≡ nothing_read → herds_so_far p.farm.count p.first ≡ 0
unfolding herds_so_far
none_yet e = rw e

-- ---- the herd being read is closed: it stands behind the others, and where there is none yet, the one that stands
-- there says nothing

-- the farm with a herd stored behind those that it counts
abbrev pub stored : Farm → Herd → ℕ → Farm
stored f h k = record { herds = set f.herds f.count h; count = k }

module _ {p : Progress} where
  pub closed-farm : Underway p → (closed p).farm ≡ stored p.farm p.herd (herds_so_far p.farm.count p.first)
  unfolding closed herds_so_far
  closed-farm (Underway.not_yet e) = rw e refl
  closed-farm (Underway.reading n) = simp (closed, herds_so_far, ne_eqb p.first 0 n)

  pub closed-lacking : Underway p → (closed p).lacking ≡ lacking_now p
  unfolding closed lacks
  closed-lacking (Underway.not_yet e) = rw e refl
  closed-lacking (Underway.reading n) = simp (closed, ne_eqb p.first 0 n)

-- ---- read through: 12

module _ (f : Farm) (c : Current) (u : Underway (progress f c)) {k : ℕ}
    (w : k ≡ lacking_with c.lacking c.herd c.first) where
  lacking-is : k ≡ (closed (progress f c)).lacking
  lacking-is = w ∙ sym (closed-lacking u)

  pub input_missing : (k ≡ 0 → ⊥) → {r : FileAnswer} → r ≡ refused k InputMissing → r ≡ finished (progress f c)
  unfolding finished
  input_missing n q = simp (finished, sym lacking-is, ne_eqb k 0 n) q

  pub farm-read : k ≡ 0 → {n : ℕ} → n ≡ herds_so_far f.count c.first
      → accepted (stored f c.herd n) ≡ finished (progress f c)
  unfolding finished
  farm-read e q = simp (finished, sym lacking-is, eq-eqb k 0 e, closed-farm u) (cc)
