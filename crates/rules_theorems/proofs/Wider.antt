-- A file that keeps the rules within some limits keeps them within wider ones, and says the same farm. So a
-- cooperative's file may be any that is accepted from standard input. Assumes nothing.
use Prim.Native.Nat.{ℕ, ◌≤◌}
use mathlib.Core.List.{List}
use native.Mathlib.Omega.{arith}
use lib.Dec.{lit≤}
use Rattle.farm.specs.declared.Farm.{Farm}
use Rattle.limits.specs.declared.Limits.{Limits}
use Rattle.limits.specs.declared.Source.TheVariants.{StandardInput, Cooperative}
use Rattle.rules_theorems.specs.Rules.{allowed, KeepsRules}

pub wider-keeps : (limits wider : Limits) → limits.bytes ≤ wider.bytes → limits.herds ≤ wider.herds → {s : List ℕ}
    {f : Farm} → KeepsRules limits s f → KeepsRules wider s f
wider-keeps limits wider bytes herds k =
    let farm = k.says in
    record {
      short = omega (arith, k.short);
      records = k.records;
      reads = k.reads;
      says =
          record {
            herds = farm.herds;
            stand = farm.stand;
            most = omega (arith, farm.most);
            apart = farm.apart;
            is = farm.is;
          };
    }

pub input-keeps : {s : List ℕ} {f : Farm} → KeepsRules (allowed StandardInput) s f
    → KeepsRules (allowed Cooperative) s f
unfolding allowed
input-keeps k = wider-keeps (allowed StandardInput) (allowed Cooperative) (lit≤ tt) (lit≤ tt) k
