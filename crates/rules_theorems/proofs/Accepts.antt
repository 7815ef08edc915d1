-- Exact acceptance: a file is read as a farm exactly where it keeps 01's file rules and its records say that farm.
-- Assumes nothing.
use Prim.Native.Nat.{ℕ, ◌≤◌}
use mathlib.Core.Path.{◌≡◌, sym, ap, subst, ◌∙◌}
use mathlib.Core.Logic.{◌↔◌}
use mathlib.Core.List.{List}
use lib.ListN.{length}
use borrow.Author.Tests.{le-ltb}
use Rattle.base.proofs.Clash.{clash}
use Rattle.grammar.specs.Reading.{reading_of}
use Rattle.grammar.proofs.Files.{read-file, file-read}
use Rattle.farm.specs.declared.Farm.{Farm}
use Rattle.farm.specs.Limits.{herds_most}
use Rattle.limits.specs.declared.Limits.{Limits}
use Rattle.limits.specs.declared.Source.{Source}
use Rattle.limits.specs.Limits.{limits_of}
use Rattle.reader.specs.declared.FileAnswer.{FileAnswer}
use Rattle.reader.specs.Files.{accepted, nothing_read, read_from, read_of}
use Rattle.rules_theorems.specs.Rules.{allowed, FarmOf, KeepsRules}
use Rattle.first_refusal.proofs.Readings.{whole-thens}
use Rattle.rules_theorems.proofs.Allowed.{as-allowed, allowed-fit}
use Rattle.rules_theorems.proofs.SaysRead.{says-read}
use Rattle.rules_theorems.proofs.Answers.{Ran, accepts, breaks, wrong, missing, Answered, too_long, read}
use Rattle.rules_theorems.proofs.Answers.{herds-within, answered}

-- what is accepted keeps the rules
keeps : {limits : Limits} {s : List ℕ} {x : FileAnswer} {f : Farm} → Answered limits s x → x ≡ accepted f
    → KeepsRules limits s f
keeps {limits} {s} {x} {f} (read short r) e = go r e
  where
    go : {x : FileAnswer} → Ran limits (reading_of s) x → x ≡ accepted f → KeepsRules limits s f
    go (accepts rs w _ says _) e =
        record {
          short = short;
          records = rs;
          reads = read-file rs s (w ∙ sym (whole-thens rs));
          says = subst (λ (y : Farm). FarmOf limits rs y) (ap (λ (a : FileAnswer). a.farm) e) says;
        }
    go (breaks _ _ _) e = let c = ap (λ (a : FileAnswer). a.checked) e in clash cc
    go (wrong _ _ _ _ _ _ _) e = let c = ap (λ (a : FileAnswer). a.checked) e in clash cc
    go (missing _ _ _ _ _ _ _) e = let c = ap (λ (a : FileAnswer). a.checked) e in clash cc
keeps (too_long _) e = let c = ap (λ (a : FileAnswer). a.checked) e in clash cc

-- what keeps the rules is accepted
module _ (limits : Limits) (fit : limits.herds ≤ herds_most) where
  accepted_so : {s : List ℕ} {f : Farm} → KeepsRules limits s f → read_of limits s ≡ accepted f
  unfolding read_of
  accepted_so {s} k = rw (read_of, le-ltb limits.bytes (length s) k.short, herds-within limits fit)
      (ap (read_from limits.herds 1 nothing_read) (file-read k.reads) ∙ says-read fit k.says)

  -- within any limits of no more herds than a farm's record has room for
  pub accepts-within : (s : List ℕ) (f : Farm) → (read_of limits s ≡ accepted f) ↔ KeepsRules limits s f
  accepts-within s f = (keeps (answered limits fit s), accepted_so)

  -- a file says one farm at most
  pub one-farm : (s : List ℕ) (f g : Farm) → KeepsRules limits s f → KeepsRules limits s g → f ≡ g
  one-farm s f g a b = ap (λ (x : FileAnswer). x.farm) (sym (accepted_so a) ∙ accepted_so b)

-- within those of where the file comes from
pub accepts-exactly : (source : Source) (s : List ℕ) (f : Farm)
    → (read_of (limits_of source) s ≡ accepted f) ↔ KeepsRules (allowed source) s f
accepts-exactly source s f = rw (as-allowed source) (accepts-within (allowed source) (allowed-fit source) s f)
