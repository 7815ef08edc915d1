-- What is answered of a file, record by record from the front, and what that tells of its records. Assumes nothing.
use Prim.Native.Nat.{ℕ, ◌+◌, ◌<◌, ◌≤◌}
use mathlib.Core.Path.{◌≡◌, refl, sym, ap, subst, ◌∙◌}
use mathlib.Core.Bool.{Bool, true, false}
use mathlib.Core.List.{List, [], ◌∷◌, ◌++◌}
use native.Mathlib.Omega.{arith}
use lib.Dec.{ltb}
use lib.ListN.{length, length-append}
use borrow.Author.Tests.{ltb-true, ltb-false}
use Rattle.base.specs.Each.{Each}
use Rattle.grammar.specs.Reading.{Reading, ◌then◌, end, broken, reading_of, parts_of}
use Rattle.farm.specs.declared.Farm.{Farm}
use Rattle.farm.specs.declared.Refusal.{Refusal}
use Rattle.farm.specs.declared.Refusal.TheVariants.{FileTooLong, RecordBroken, InputMissing}
use Rattle.farm.specs.Refusals.{number}
use Rattle.farm.specs.Limits.{herds_most}
use Rattle.limits.specs.declared.Limits.{Limits}
use Rattle.reader.specs.declared.FileAnswer.{FileAnswer}
use Rattle.reader.specs.Files.{Progress, refused, accepted, nothing_read, taken, read_from, herds_within, read_of}
use Rattle.first_refusal.specs.Records.{Record}
use Rattle.first_refusal.proofs.Clean.{CleanOf, clean_none, clean_last}
use Rattle.rules_theorems.specs.Rules.{FarmOf}
use Rattle.rules_theorems.specs.Refusals.{Applies, Lacks}
use Rattle.rules_theorems.proofs.Faults.{NoneBelow, none_at_all}
use Rattle.first_refusal.proofs.Readings.{thens, thens-append}
use Rattle.rules_theorems.proofs.Verdicts.{Inv, start, Verdict, refuses, goes_on, verdict}
use Rattle.rules_theorems.proofs.FileEnd.{Ended, farm, lacking, finish}

-- ---- records for which none of 3 to 11 applies

abbrev pub Clean : Limits → List Record → Type 0
Clean limits rs = CleanOf (Applies limits) rs

-- ---- the answer to a reading

pub data Ran (limits : Limits) (w : Reading) : FileAnswer → Type 0 where
  accepts : (rs : List Record) {f : Farm} → w ≡ thens rs end → Clean limits rs → FarmOf limits rs f
      → Each (λ r. Lacks rs r → ⊥) rs
      → Ran limits w (accepted f)
  breaks : (rs : List Record) → w ≡ thens rs broken → Clean limits rs
      → Ran limits w (refused (length rs + 1) RecordBroken)
  wrong : (before : List Record) (cs : Record) (rest : Reading) {refusal : Refusal} → w ≡ thens before (cs then rest)
      → Clean limits before → Applies limits before cs refusal → NoneBelow limits before cs (number refusal)
      → Ran limits w (refused (length before + 1) refusal)
  missing : (before : List Record) (cs : Record) (after : List Record) → w ≡ thens (before ++ (cs ∷ after)) end
      → Clean limits (before ++ (cs ∷ after)) → Lacks (before ++ (cs ∷ after)) cs
      → Each (λ r. Lacks (before ++ (cs ∷ after)) r → ⊥) before
      → Ran limits w (refused (length before + 1) InputMissing)

through : {limits : Limits} {w : Reading} {rs : List Record} {x : FileAnswer} → w ≡ thens rs end → Clean limits rs
    → Ended limits rs x → Ran limits w x
through {rs = rs} e clean (farm f n) = accepts rs e clean f n
through {limits} {w} {rs} e clean (lacking before cs after d l n) =
    go d
  where
    go : rs ≡ before ++ (cs ∷ after) → Ran limits w (refused (length before + 1) InputMissing)
    go d = missing before cs after (e ∙ ap (λ (x : List Record). thens x end) d) (rw d at clean) (rw d at l) (rw d at n)

module _ {limits : Limits} (fit : limits.herds ≤ herds_most) (w : Reading) where
  pub run : (before : List Record) (p : Progress) → Inv limits before p → Clean limits before → (r : Reading)
      → w ≡ thens before r
      → Ran limits w (read_from limits.herds (length before + 1) p r)
  unfolding read_from
  run before p inv clean end e = through e clean (finish fit inv)
  run before p inv clean broken e = breaks before e clean
  run before p inv clean (cs then r) e = go (verdict fit inv cs) (λ b q i c d. run b q i c r d)
    where
      go : Verdict limits before cs (length before + 1) p
          → ((b : List Record) (q : Progress) → Inv limits b q → Clean limits b → w ≡ thens b r
          → Ran limits w (read_from limits.herds (length b + 1) q r))
          → Ran limits w (read_from limits.herds (length before + 1) p (cs then r))
      go (refuses x below q) again = subst (Ran limits w) (sym (q _)) (wrong before cs r e clean x below)
      go (goes_on below q on) again =
          let n : length (before ++ (cs ∷ [])) + 1 ≡ length before + 1 + 1 =
          omega (arith, length-append before (cs ∷ [])) in
          let rest = again _ _ on (clean_last (Applies limits) before cs clean (none_at_all below))
          (e ∙ sym (thens-append before (cs ∷ []) r)) in
          subst (Ran limits w)
          (ap (λ (k : ℕ). read_from limits.herds k (taken (length before + 1) p (parts_of cs)) r) n ∙ sym (q _)) rest

-- ---- the answer to a file

pub data Answered (limits : Limits) (s : List ℕ) : FileAnswer → Type 0 where
  too_long : limits.bytes < length s → Answered limits s (refused 0 FileTooLong)
  read : {x : FileAnswer} → length s ≤ limits.bytes → Ran limits (reading_of s) x → Answered limits s x

-- the farm's record has room for all herds that are allowed, and so the limit of herds is the one that is gone by
pub herds-within : (limits : Limits) → limits.herds ≤ herds_most → herds_within limits ≡ limits.herds
herds-within limits fit = omega (arith, fit)

pub answered : (limits : Limits) → limits.herds ≤ herds_most → (s : List ℕ) → Answered limits s (read_of limits s)
unfolding read_of
answered limits fit s = go (ltb limits.bytes (length s)) refl
  where
    go : (t : Bool) → ltb limits.bytes (length s) ≡ t → Answered limits s (read_of limits s)
    go true e = rw (read_of, e) (too_long (ltb-true limits.bytes (length s) e))
    go false e = rw (read_of, e, herds-within limits fit)
        (read (ltb-false limits.bytes (length s) e)
        (run fit (reading_of s) [] nothing_read start (clean_none (Applies limits)) (reading_of s) refl))
