-- Reading into a lent array (02, W12): the first refusal that applies is answered and leaves the array as it was; a
-- file that keeps the rules puts the herds that its records say in front; nothing else is answered; and there is one
-- answer and one array. What is loaded again is the farm that the file says. Assumes nothing.
use Prim.Native.Nat.{ℕ, zero, suc, ◌-◌, ◌≤◌, min}
use native.Mathlib.Numerals.{unary_clauses}
use native.Mathlib.Omega.{arith}
use mathlib.Core.Path.{◌≡◌, refl, sym, ap, ◌∙◌}
use mathlib.Core.List.{List, ◌++◌}
use lib.ListN.{length, drop, replicate, length-append, length-replicate}
use lib.Seq.{take-append_seam}
use borrow.Author.Tests.{le-ltb}
use Rattle.base.proofs.Clash.{clash}
use Rattle.base.proofs.SameRefused.{same-record, same-refusal}
use Rattle.base.specs.Refused.{refuse}
use Rattle.farm.specs.declared.Herd.{Herd}
use Rattle.farm.specs.declared.Farm.{Farm}
use Rattle.farm.specs.declared.Refusal.{Refusal}
use Rattle.farm.specs.Limits.{herds_most}
use Rattle.farm.specs.Herds.{no_herd}
use Rattle.farm.specs.Answers.{Accepted}
use Rattle.limits.specs.declared.Limits.{Limits}
use Rattle.limits.specs.declared.Source.TheVariants.{Cooperative}
use Rattle.limits.specs.Limits.{limits_of}
use Rattle.checks.specs.Checks.{herds_of}
use Rattle.reader.specs.declared.FileAnswer.{FileAnswer}
use Rattle.reader.specs.Files.{refused, accepted, read_of}
use Rattle.rules_theorems.specs.Rules.{farm_of, KeepsRules}
use Rattle.rules_theorems.specs.Refusals.{First}
use Rattle.rules_theorems.proofs.Allowed.{as-allowed, allowed-fit}
use Rattle.rules_theorems.proofs.Farms.{herds-of}
use Rattle.rules_theorems.proofs.Accepts.{accepts-within}
use Rattle.rules_theorems.proofs.Refuses.{Outcome, takes, gives, Taken, outcome-within, refuses-within}
use Rattle.lent.specs.Laid.{laid, count_in, farm_in}
use Rattle.lent.proofs.Entries.{laid-front}
use Rattle.lent_file.specs.declared.LentAnswer.{LentAnswer}
use Rattle.lent_file.specs.Reading.{limits_for, read_for, told_of, ReadInto}
use Rattle.lent_theorems.specs.Arrays.{allowed_into, Untouched, InFront}

-- ---- the limits that the code goes by are those that are allowed

limits-allowed : (len : ℕ) → limits_for len ≡ allowed_into len
unfolding limits_of
limits-allowed len =
    ap (λ (l : Limits). record { bytes = l.bytes; herds = min len l.herds }) (as-allowed Cooperative)

fit : (len : ℕ) → (allowed_into len).herds ≤ herds_most
fit len = omega (arith, allowed-fit Cooperative)

read-allowed : (len : ℕ) (s : List ℕ) → read_for len s ≡ read_of (allowed_into len) s
unfolding read_for
read-allowed len s = ap (λ (l : Limits). read_of l s) (limits-allowed len)

-- ---- what a file gives

module _ {s : List ℕ} {old : List Herd} {r : LentAnswer} {new : List Herd} (into : ReadInto s old r new) where
  abbrev within : Limits
  within = allowed_into (length old)

  -- the answer of the reader, as the call tells it and stores it
  told : (a : FileAnswer) → read_of within s ≡ a → (r ≡ told_of a) × (new ≡ laid (herds_of a.farm) old)
  told a e =
      let q : read_for (length old) s ≡ a = read-allowed (length old) s ∙ e in
      (into.answer ∙ ap told_of q, into.array ∙ ap (λ (b : FileAnswer). laid (herds_of b.farm) old) q)

  pub read_into_refused : {n : ℕ} {refusal : Refusal} → First within s n refusal → Untouched refusal n old r new
  read_into_refused {n} {refusal} first =
      let g = told (refused n refusal) ((refuses-within within (fit (length old)) s n refusal).1 first) in
      record { answer = g.0; array = g.1 }

  pub read_into_keeps : {f : Farm} (keeps : KeepsRules within s f) → InFront keeps.says.herds old r new
  read_into_keeps {f} keeps =
      let hs = keeps.says.herds in
      let g = told (accepted f) ((accepts-within within (fit (length old)) s f).1 keeps) in
      let is : f ≡ farm_of hs = keeps.says.is in
      let room : length hs ≤ length old = omega (arith, keeps.says.most) in
      record {
        answer = g.0 ∙ ap (λ (x : Farm). told_of (accepted x)) is;
        array = g.1 ∙ ap (λ (x : Farm). laid (herds_of x) old) is ∙ ap (λ (l : List Herd). laid l old) (herds-of hs)
            ∙ laid-front hs old room;
      }

  -- the other way round: what is answered is so
  pub refused_into : {n : ℕ} {refusal : Refusal} → r.checked ≡ refuse refusal n → First within s n refusal
  refused_into {n} {refusal} c = go (read_of within s) refl (outcome-within within (fit (length old)) s)
    where
      go : (x : FileAnswer) → read_of within s ≡ x → Outcome within s x → First within s n refusal
      go x e (takes {f = f} _) = let t = ap (λ (a : LentAnswer). a.checked) (told (accepted f) e).0 in clash cc
      go x e (gives {n = m} {refusal = g} first) =
          let t = sym (ap (λ (a : LentAnswer). a.checked) (told (refused m g) e).0) ∙ c in
          rw (same-record t, same-refusal t) at first

  pub accepted_into : r.checked ≡ Accepted → Taken within s
  accepted_into c = go (read_of within s) refl (outcome-within within (fit (length old)) s)
    where
      go : (x : FileAnswer) → read_of within s ≡ x → Outcome within s x → Taken within s
      go x e (takes {f = f} _) = record { farm = f; keeps = (accepts-within within (fit (length old)) s f).0 e }
      go x e (gives {n = m} {refusal = g} _) =
          let t = ap (λ (a : LentAnswer). a.checked) (told (refused m g) e).0 in clash cc

-- any two answers and arrays that the call's contract allows are the same
pub one-reading : {s : List ℕ} {old : List Herd} {r r' : LentAnswer} {new new' : List Herd} → ReadInto s old r new
    → ReadInto s old r' new' → (r ≡ r') × (new ≡ new')
one-reading a b = (a.answer ∙ sym b.answer, a.array ∙ sym b.array)

-- ---- what is loaded again

drop-replicate : {A : Type 0} (n m : ℕ) (x : A) → drop n (replicate m x) ≡ replicate (m - n) x
drop-replicate zero m x = simp unary_clauses refl
drop-replicate (suc n) zero x = let e : 0 ≡ 0 - suc n = omega arith in ap (λ (k : ℕ). replicate k x) e
drop-replicate (suc n) (suc m) x = simp unary_clauses (drop-replicate n m x)

-- over entries that all say the same
laid-over : {A : Type 0} (hs : List A) (m : ℕ) (x : A) → length hs ≤ m
    → laid hs (replicate m x) ≡ hs ++ replicate (m - length hs) x
laid-over hs m x k =
    laid-front hs (replicate m x) (omega (arith, k, length-replicate m x))
    ∙ ap (λ (l : List _). hs ++ l) (drop-replicate (length hs) m x)

front-farm : (hs behind : List Herd) → length hs ≤ herds_most → farm_in (hs ++ behind) (length hs) ≡ farm_of hs
unfolding farm_in
front-farm hs behind k =
    let n : length hs ≤ length (hs ++ behind) = omega (arith, length-append hs behind) in
    ap (λ (l : List Herd). record { herds = laid l blank; count = count_in (length (hs ++ behind)) (length hs) })
    (take-append_seam hs behind)
    ∙ ap (λ (l : List Herd). record { herds = l; count = count_in (length (hs ++ behind)) (length hs) })
    (laid-over hs herds_most no_herd k)
    ∙ ap (λ (c : ℕ). record { herds = hs ++ replicate (herds_most - length hs) no_herd; count = c }) (counted n)
  where
    blank : List Herd
    blank = replicate herds_most no_herd

    counted : {len count : ℕ} → count ≤ len → count_in len count ≡ count
    counted {len} {count} n = rw (le-ltb len count n)

-- the farm of the herds in front is the farm that the file says
pub read_loaded : {s : List ℕ} {old : List Herd} {r : LentAnswer} {new : List Herd} → ReadInto s old r new → {f : Farm}
    → KeepsRules (allowed_into (length old)) s f → farm_in new r.count ≡ f
read_loaded {s} {old} {r} {new} into {f} keeps =
    let hs = keeps.says.herds in
    let there = read_into_keeps into keeps in
    let k : length hs ≤ herds_most = omega (arith, keeps.says.most, fit (length old)) in
    ap (λ (l : List Herd). farm_in l r.count) there.array
    ∙ ap (λ (a : LentAnswer). farm_in (hs ++ drop (length hs) old) a.count) there.answer
    ∙ front-farm hs (drop (length hs) old) k ∙ sym keeps.says.is
