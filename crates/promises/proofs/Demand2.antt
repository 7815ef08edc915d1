-- Demand 2: every figure equals what the published formulas and tables give, cut only where the rules name it; a file
-- is accepted exactly when it keeps the file rules; the listing's bytes are fixed. The rows of 01 that are proved stand
-- as one table in crate `model`, proofs/Edges. Assumes nothing.
use Rattle.std.specs.Prelude.{Ok}
use Prim.Native.Nat.{ℕ, ◌≤◌}
use mathlib.Core.Path.{◌≡◌, ap, ◌∙◌}
use mathlib.Core.Logic.{◌↔◌}
use mathlib.Core.List.{List, ◌++◌}
use lib.ListN.{length, drop}
use borrow.Author.Tests.{le-leb}
use Rattle.base.proofs.Each.{each_map}
use Rattle.farm.specs.declared.Herd.{Herd}
use Rattle.farm.specs.declared.Farm.{Farm}
use Rattle.farm.specs.Answers.{Accepted}
use Rattle.checks.specs.Checks.{check_herd, check_farm, herds_of}
use Rattle.checks.proofs.Accepts.{farm-each}
use Rattle.limits.specs.declared.Source.{Source}
use Rattle.limits.specs.Limits.{limits_of}
use Rattle.reader.specs.Files.{read_of, accepted}
use Rattle.rules_theorems.specs.Rules.{allowed, farm_of, KeepsRules}
use Rattle.rules_theorems.proofs.Farms.{herds-of}
use Rattle.rules_theorems.proofs.Accepts.{accepts-exactly}
use Rattle.rules_theorems.proofs.Passing.{accepted-passes}
use Rattle.model.specs.Answers.{herd_answer, farm_answer}
use Rattle.written.specs.Answer.{leaves, answers, Written}
use Rattle.contracts.specs.Listings.{Call, Called}
use Rattle.promises.specs.Formulas.{herd_gets, farm_gets, FileGets}

-- ---- acceptance

pub demand_2_file : (source : Source) (s : List ℕ) (f : Farm)
    → (read_of (limits_of source) s ≡ accepted f) ↔ KeepsRules (allowed source) s f
demand_2_file = accepts-exactly

-- ---- figures, notes and totals

pub demand_2_herd : (h : Herd) → check_herd h ≡ Accepted → herd_answer h ≡ herd_gets h
unfolding herd_answer
demand_2_herd h e = rw e

pub demand_2_farm : (f : Farm) → check_farm f ≡ Accepted → farm_answer f ≡ farm_gets (herds_of f)
unfolding farm_answer
demand_2_farm f e = rw e

-- of a file: the farm that is read passes the record checks, so both hold of it
pub demand_2_figures : (source : Source) {s : List ℕ} {f : Farm} (k : KeepsRules (allowed source) s f)
    → FileGets source s k.says.herds
demand_2_figures source {s} {f} k =
    record {
      read = reads;
      herds = rw (herds-of hs) at (each_map demand_2_herd (farm-each (farm_of hs) passes));
      totals = rw (herds-of hs) at (demand_2_farm (farm_of hs) passes);
    }
  where
    hs : List Herd
    hs = k.says.herds

    reads : read_of (limits_of source) s ≡ accepted (farm_of hs)
    reads = (accepts-exactly source s f).1 k ∙ ap accepted k.says.is

    passes : check_farm (farm_of hs) ≡ Accepted
    passes = accepted-passes source s (farm_of hs) reads

-- ---- the listing's bytes: where the checks find nothing and the buffer has room, the listing and then the bytes that
-- stood behind it

pub record Listed (listing old new : List ℕ) (r : Written) : Type 0 where
  pub bytes : new ≡ listing ++ drop (length listing) old
  pub answer : r ≡ Ok (length listing)

pub demand_2_listing : {c : Call} {old new : List ℕ} {r : Written} → Called c old new r → c.checked ≡ Accepted
    → length c.listing ≤ length old → Listed c.listing old new r
unfolding leaves answers
demand_2_listing {c} {old} w e h =
    let t = le-leb (length c.listing) (length old) h in
    record { bytes = rw (e, t) at w.buffer; answer = rw (e, t) at w.answer }
