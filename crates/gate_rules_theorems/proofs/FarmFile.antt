-- What a log comes to, as it is printed, is a value of a farm file's inputs of the same names. Assumes nothing.
use Rattle.std.specs.Prelude.{Ok}
use Prim.Native.Nat.{ℕ, ◌+◌, ◌*◌, ◌/◌, ◌%◌}
use mathlib.Core.Path.{◌≡◌, refl, sym, ◌∙◌}
use mathlib.Core.List.{List, [], ◌∷◌, ◌++◌, append_assoc}
use native.Mathlib.Omega.{arith}
use native.Mathlib.Nat.{mul-one}
use lib.Dec.{lit<}
use lib.ListN.{length}
use Rattle.base.specs.Text.{bytes}
use Rattle.base.specs.Each.{Each, none, more}
use Rattle.numbers.specs.Numbers.{Digits, Whole, value, IsNumber}
use Rattle.decimal.specs.Writing.{whole_of}
use Rattle.numbers.proofs.Agrees.{same_number, value-append}
use Rattle.decimal.proofs.Widths.{whole_length, width_small}
use Rattle.decimal.proofs.Written.{whole-number}
use Rattle.inputs.specs.Inputs.{form_of}
use Rattle.rules_theorems.specs.Rules.{GoodLabel, ValueIs, RecordSays}
use Rattle.outdoors.specs.declared.Outdoors.{Outdoors}
use Rattle.gate.specs.Logs.{read_log}
use Rattle.lines_outdoors.specs.Lines.{tenths_of}
use Rattle.gate_answer.specs.Program.{log_output}
use Rattle.gate_rules_theorems.specs.FarmFile.{Fits, printed_of, inputs_named, Takes, TakesAll}
use Rattle.gate_rules_theorems.proofs.Accepts.{accepts-exactly}
use Rattle.gate_rules_theorems.proofs.Ranges.{log-fits}
use Rattle.gate_rules_theorems.proofs.Printed.{log-prints-records}

-- ---- tenths that are written read as themselves

-- a whole number's text has no point
record WholeText (t : List ℕ) (v : ℕ) : Type 0 where
  whole : Whole t
  is : value t ≡ v

whole-text : {t : List ℕ} {d v : ℕ} → IsNumber t d v → d ≡ 0 → WholeText t v
whole-text (IsNumber.whole {w = w} x) e = record { whole = x; is = rw e (sym (mul-one (value w))) }
whole-text (IsNumber.pointed _ _ o l) e = absurd (omega arith)

digits : {t : List ℕ} → Whole t → Digits t
digits Whole.nought = Digits.more {b = 48} (record { low = omega arith; high = omega arith }) Digits.none
digits (Whole.some g _ gs) = Digits.more g gs

-- one digit behind others
one-behind : (w f : List ℕ) (v n : ℕ) → length f ≡ 1 → value w ≡ v → value f ≡ n → value (w ++ f) ≡ v * 10 + n
one-behind w [] v n l p q = absurd (omega arith)
one-behind w (b ∷ []) v n l p q = value-append 0 w (b ∷ []) ∙ omega arith
one-behind w (b ∷ c ∷ f) v n l p q = absurd (omega arith)

pub tenths-number : (n : ℕ) → IsNumber (tenths_of n) 1 n
tenths-number n =
    let w = whole-text (whole-number (n / 10)) refl in
    let f = whole-text (whole-number (n % 10)) refl in
    let one : length (whole_of (n % 10)) ≡ 1 = whole_length (n % 10) ∙ width_small (n % 10) (omega arith) in
    let is : value (whole_of (n / 10) ++ whole_of (n % 10)) ≡ n =
    one-behind (whole_of (n / 10)) (whole_of (n % 10)) (n / 10) (n % 10) one w.is f.is ∙ omega arith in
    same_number (append_assoc (whole_of (n / 10)) (bytes ".") (whole_of (n % 10)))
    (rw one (mul-one (value (whole_of (n / 10) ++ whole_of (n % 10))) ∙ is))
    (IsNumber.pointed {d = 1} w.whole (digits f.whole) (omega arith) (omega arith))

-- ---- the inputs of each name

module _ (o : Outdoors) (fits : Fits o) (label : List ℕ) (good : GoodLabel label) where
  all-taken : Each (λ p. Each (Takes label p) (inputs_named p.name)) (printed_of o)
  unfolding form_of
  all-taken =
      let grazing = ValueIs.number (whole-number o.grazing_days) fits.grazing in
      let yard = ValueIs.number (whole-number o.yard_days) fits.yard in
      let hours = ValueIs.number (tenths-number o.grazing_hours) fits.hours in
      more
      (more (RecordSays.says good (record { inside = lit< tt; path = refl; name = refl }) grazing)
      (more (RecordSays.says good (record { inside = lit< tt; path = refl; name = refl }) grazing)
      (more (RecordSays.says good (record { inside = lit< tt; path = refl; name = refl }) grazing) none)))
      (more
      (more (RecordSays.says good (record { inside = lit< tt; path = refl; name = refl }) yard)
      (more (RecordSays.says good (record { inside = lit< tt; path = refl; name = refl }) yard) none))
      (more
      (more (RecordSays.says good (record { inside = lit< tt; path = refl; name = refl }) hours)
      (more (RecordSays.says good (record { inside = lit< tt; path = refl; name = refl }) hours)
      (more (RecordSays.says good (record { inside = lit< tt; path = refl; name = refl }) hours) none)))
      none))

-- whatever a log comes to, a farm file takes it as it is printed, for a herd of any good label
pub farm-file-takes : (s : List ℕ) (o : Outdoors) → read_log s ≡ Ok o → (label : List ℕ) → GoodLabel label
    → TakesAll label (printed_of o) (log_output s)
farm-file-takes s o e label good =
    record {
      printed = rw e at (log-prints-records s);
      taken = all-taken o (log-fits s o ((accepts-exactly s o).0 e)) label good;
    }
