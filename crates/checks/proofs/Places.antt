-- The tests of a herd's record by place: one that holds does so at a place, and where it fails no place has what it
-- looks for. Assumes nothing.
use Prim.Native.Nat.{ℕ, zero, suc, ◌<◌}
use mathlib.Core.Path.{◌≡◌, refl}
use mathlib.Core.Bool.{Bool, true, false, not}
use mathlib.Core.List.{List, [], ◌∷◌}
use native.Mathlib.Omega.{arith}
use lib.ListN.{length, get_or}
use Rattle.base.proofs.Clash.{clash}
use Rattle.inputs.specs.Inputs.{Row}
use Rattle.farm.specs.declared.Label.{Label}
use Rattle.farm.specs.declared.Given.{Given}
use Rattle.farm.specs.declared.Given.TheVariants.{Missing, Standard, Value, Signed}
use Rattle.farm.specs.declared.Slot.{Slot}
use Rattle.farm.specs.declared.Herd.{Herd}
use Rattle.farm.specs.Labels.{same_label}
use Rattle.farm.specs.Herds.{is_missing, no_slot, no_herd}
use Rattle.herd_tests.specs.Tests.{lacks_one, has_label, labels_of}
use Rattle.fits.specs.Fits.{fits, unfit_one, OutOfRange}
use Rattle.fits.proofs.Ranges.{unfit-out, out-unfit}
use Rattle.checks.proofs.Tests.{neither}

-- a place below n with P
pub record Found (P : ℕ → Type 0) (n : ℕ) : Type 0 where
  pub place : ℕ
  pub inside : place < n
  pub there : P place

at_first : {P : ℕ → Type 0} {n : ℕ} → P 0 → Found P (suc n)
at_first p = record { place = 0; inside = omega arith; there = p }

further : {P Q : ℕ → Type 0} {n : ℕ} → ((i : ℕ) → P i → Q (suc i)) → Found P n → Found Q (suc n)
further f p = record { place = suc p.place; inside = omega (arith, p.inside); there = f p.place p.there }

-- ---- 12: an input is missing

abbrev pub MissingAt : List Slot → ℕ → Type 0
MissingAt slots i = (get_or slots i no_slot).given ≡ Missing

pub missing-found : (rows : List Row) (slots : List Slot) → lacks_one rows slots ≡ true
    → Found (MissingAt slots) (length rows)
missing-found [] slots e = clash cc
missing-found (row ∷ rows) [] e = at_first refl
missing-found (row ∷ rows) (s ∷ slots) e = go s.given refl (missing-found rows slots)
  where
    go : (g : Given) → s.given ≡ g → (lacks_one rows slots ≡ true → Found (MissingAt slots) (length rows))
        → Found (MissingAt (s ∷ slots)) (length (row ∷ rows))
    go Missing q rest = at_first q
    go Standard q rest = further (λ i p. p) (rest (rw q at e))
    go (Value v) q rest = further (λ i p. p) (rest (rw q at e))
    go (Signed v) q rest = further (λ i p. p) (rest (rw q at e))

pub none-missing : (rows : List Row) (slots : List Slot) → lacks_one rows slots ≡ false → (i : ℕ) → i < length rows
    → MissingAt slots i → ⊥
none-missing [] slots e i b m = omega arith
none-missing (row ∷ rows) [] e i b m = clash cc
none-missing (row ∷ rows) (s ∷ slots) e zero b m = let c : true ≡ false = rw m at e in clash cc
none-missing (row ∷ rows) (s ∷ slots) e (suc i) b m =
    none-missing rows slots (neither (is_missing s.given) (lacks_one rows slots) e).1 i (omega arith) m

-- ---- 7: a value is out of range

abbrev pub OutAt : Row → List Row → List Slot → ℕ → Type 0
OutAt d rows slots i = OutOfRange (get_or rows i d).form (get_or slots i no_slot).given

pub unfit-found : (d : Row) (rows : List Row) (slots : List Slot) → unfit_one rows slots ≡ true
    → Found (OutAt d rows slots) (length rows)
unfit-found d [] slots e = clash cc
unfit-found d (row ∷ rows) [] e = clash cc
unfit-found d (row ∷ rows) (s ∷ slots) e = go (fits row.form s.given) refl (unfit-found d rows slots)
  where
    go : (t : Bool) → fits row.form s.given ≡ t
        → (unfit_one rows slots ≡ true → Found (OutAt d rows slots) (length rows))
        → Found (OutAt d (row ∷ rows) (s ∷ slots)) (length (row ∷ rows))
    go true q rest = further (λ i p. p) (rest (rw q at e))
    go false q rest = at_first (unfit-out s.given row.form q)

pub none-unfit : (d : Row) (rows : List Row) (slots : List Slot) → unfit_one rows slots ≡ false → (i : ℕ)
    → i < length rows → OutAt d rows slots i → ⊥
none-unfit d [] slots e i b o = omega arith
none-unfit d (row ∷ rows) [] e i b o = let m = out-unfit o in clash cc
none-unfit d (row ∷ rows) (s ∷ slots) e zero b o = let c : true ≡ false = rw (out-unfit o) at e in clash cc
none-unfit d (row ∷ rows) (s ∷ slots) e (suc i) b o =
    none-unfit d rows slots (neither (not (fits row.form s.given)) (unfit_one rows slots) e).1 i (omega arith) o

-- ---- 8: a herd has the label

abbrev pub LabelAt : List Herd → Label → ℕ → Type 0
LabelAt hs l i = same_label (get_or hs i no_herd).label l ≡ true

pub label-found : (hs : List Herd) (l : Label) → has_label (labels_of hs) l ≡ true → Found (LabelAt hs l) (length hs)
label-found [] l e = clash cc
label-found (h ∷ hs) l e = go (same_label h.label l) refl (label-found hs l)
  where
    go : (t : Bool) → same_label h.label l ≡ t → (has_label (labels_of hs) l ≡ true → Found (LabelAt hs l) (length hs))
        → Found (LabelAt (h ∷ hs) l) (length (h ∷ hs))
    go true q rest = at_first q
    go false q rest = further (λ i p. p) (rest (rw q at e))

pub none-labelled : (hs : List Herd) (l : Label) → has_label (labels_of hs) l ≡ false → (i : ℕ) → i < length hs
    → LabelAt hs l i → ⊥
none-labelled [] l e i b q = omega arith
none-labelled (h ∷ hs) l e zero b q = let c : true ≡ false = rw q at e in clash cc
none-labelled (h ∷ hs) l e (suc i) b q =
    none-labelled hs l (neither (same_label h.label l) (has_label (labels_of hs) l) e).1 i (omega arith) q
