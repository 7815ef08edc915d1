-- A farm that is read passes the checks of a record that is handed in: they never refuse it. Assumes nothing.
use Prim.Native.Nat.{ℕ, suc, ◌<◌, ◌≤◌}
use mathlib.Core.Path.{◌≡◌, refl, sym, ap, subst, ◌∙◌}
use mathlib.Core.Bool.{true, false}
use mathlib.Core.List.{List, [], ◌∷◌}
use native.Mathlib.Omega.{arith}
use lib.ListN.{length, get_or}
use borrow.Author.Tests.{le-leb, lt-ltb}
use lib.IntN.{nat_abs}
use Rattle.base.specs.Each.{Each, none, more}
use Rattle.names.specs.Names.{size_of}
use Rattle.inputs.specs.declared.Form.{Form}
use Rattle.inputs.specs.Inputs.{Row, rows_of, count_of, last_of, row_at, form_of}
use Rattle.farm.specs.declared.Given.{Given}
use Rattle.farm.specs.declared.Slot.{Slot}
use Rattle.farm.specs.declared.Herd.{Herd}
use Rattle.farm.specs.declared.Farm.{Farm}
use Rattle.farm.specs.Labels.{label_ok, same_label}
use Rattle.farm.specs.Limits.{herds_most}
use Rattle.limits.specs.declared.Limits.{Limits}
use Rattle.limits.specs.declared.Source.{Source}
use Rattle.limits.specs.Limits.{limits_of}
use Rattle.herd_tests.specs.Tests.{labels_of}
use Rattle.fits.specs.Fits.{fits}
use Rattle.checks.specs.Checks.{check_farm}
use Rattle.checks.specs.Accepts.{Passes, GoodHerd, Distinct, GoodFarm}
use Rattle.checks.proofs.Accepts.{good-farm}
use Rattle.farm.specs.Herds.{is_missing, no_slot}
use Rattle.farm.proofs.Slots.{count_most}
use Rattle.farm.specs.Answers.{Accepted}
use Rattle.reader.specs.Files.{accepted, read_of}
use Rattle.rules_theorems.specs.Lists.{Apart}
use Rattle.first_refusal.specs.Records.{Record}
use Rattle.rules_theorems.specs.Rules.{allowed, ValueIs, HerdOf, StandTogether, FarmOf}
use Rattle.rules_theorems.proofs.Allowed.{as-allowed, allowed-fit}
use Rattle.rules_theorems.proofs.Lists.{fellow}
use Rattle.rules_theorems.proofs.Labels.{good_ok}
use Rattle.rules_theorems.proofs.Entries.{reads}
use Rattle.rules_theorems.proofs.Herds.{gives-filled}
use Rattle.rules_theorems.proofs.Farms.{herds-of, Labelled, part-labelled, other-herd}
use Rattle.rules_theorems.proofs.Accepts.{accepts-within}

-- ---- inputs

value-fits : {form : Form} {s : List ℕ} {g : Given} → ValueIs form s g → fits form g ≡ true
value-fits (ValueIs.number {most = m} {v = v} _ h) = le-leb v m h
value-fits (ValueIs.or_standard {most = m} {v = v} _ h) = le-leb v m h
value-fits (ValueIs.no_standard {most = m} {v = v} _ h) = le-leb v m h
value-fits (ValueIs.standard _) = refl
value-fits (ValueIs.signed {most = m} {v = v} _ h) = le-leb (nat_abs v) m h
value-fits (ValueIs.name {names = names} {place = j} x) = lt-ltb j (size_of names) x.inside

record Fine (row : Row) (s : Slot) : Type 0 where
  given : is_missing s.given ≡ false
  fitting : fits row.form s.given ≡ true

passes : (d : Row) (rs : List Row) (slots : List Slot) → length rs ≤ length slots
    → ((j : ℕ) → j < length rs → Fine (get_or rs j d) (get_or slots j no_slot)) → Passes rs slots
passes d [] slots h f = Passes.none
passes d (row ∷ rs) [] h f = absurd (omega arith)
passes d (row ∷ rs) (s ∷ slots) h f =
    let x = f 0 (omega arith) in
    Passes.next x.given x.fitting (passes d rs slots (omega arith) (λ j b. f (suc j) (omega arith)))

herd-good : {rs : List Record} {h : Herd} → HerdOf rs h → GoodHerd h
unfolding form_of
herd-good {rs} {h} x =
    let l = part-labelled x.part in
    record {
      label = ap label_ok l.is ∙ good_ok l.text l.good;
      inputs = passes (last_of (rows_of h.kind)) (rows_of h.kind) h.slots
          (omega (arith, x.part.room, count_most h.kind)) fine;
    }
  where
    fine : (j : ℕ) → j < count_of h.kind → Fine (row_at h.kind j) (get_or h.slots j no_slot)
    fine j b =
        let f = fellow x.part.each (x.all j b) in
        let slot : get_or h.slots j no_slot ≡ record { given = f.pair.given } =
        ap (λ (n : ℕ). get_or h.slots n no_slot) (sym f.has) ∙ f.pair.has in
        let fit : fits (row_at h.kind f.of).form f.pair.given ≡ true =
        value-fits (reads f.pair.says).value in
        record { given = rw f.has at (gives-filled f.pair); fitting = rw slot (rw f.has at fit) }

-- ---- labels

labels-two : {h : Herd} {hs : List Herd} → Labelled h → Each Labelled hs → Each (λ b. h.label ≡ b → ⊥) (labels_of hs)
    → Each (λ later. same_label h.label later.label ≡ false) hs
labels-two x none none = none
labels-two {h} x (more {a = later} y ys) (more n ns) =
    let two : same_label h.label later.label ≡ false =
    rw y.is (other-herd y.good h x (λ e. n (e ∙ sym y.is))) in
    more two (labels-two x ys ns)

distinct : {hs : List Herd} → Each Labelled hs → Apart (labels_of hs) → Distinct hs
distinct none Apart.none = Distinct.none
distinct (more x xs) (Apart.next n d) = Distinct.next (labels-two x xs n) (distinct xs d)

stand-labelled : {rs : List Record} {hs : List Herd} → StandTogether HerdOf rs hs → Each Labelled hs
stand-labelled StandTogether.none = none
stand-labelled (StandTogether.more x s) = more (part-labelled x.part) (stand-labelled s)

stand-good : {rs : List Record} {hs : List Herd} → StandTogether HerdOf rs hs → Each GoodHerd hs
stand-good StandTogether.none = none
stand-good (StandTogether.more x s) = more (herd-good x) (stand-good s)

-- ---- the farm

farm-good : {limits : Limits} → limits.herds ≤ herds_most → {rs : List Record} {f : Farm} → FarmOf limits rs f
    → GoodFarm f
farm-good fit {f = f} x =
    subst GoodFarm (sym x.is)
    (record {
      room = omega (arith, fit, x.most);
      herds = rw (herds-of x.herds) (stand-good x.stand);
      labels = rw (herds-of x.herds) (distinct (stand-labelled x.stand) x.apart);
    })

pub passes-within : (limits : Limits) → limits.herds ≤ herds_most → (s : List ℕ) (f : Farm)
    → read_of limits s ≡ accepted f → check_farm f ≡ Accepted
passes-within limits fit s f e = good-farm f (farm-good fit ((accepts-within limits fit s f).0 e).says)

pub accepted-passes : (source : Source) (s : List ℕ) (f : Farm) → read_of (limits_of source) s ≡ accepted f
    → check_farm f ≡ Accepted
accepted-passes source s f e = passes-within (allowed source) (allowed-fit source) s f (rw (as-allowed source) at e)
