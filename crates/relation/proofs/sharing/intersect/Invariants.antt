-- `relation::sharing::intersect` meets its contract: the variables from v on have their shared leader, the others are still the old ones.
use Prim.Native.Nat.{ℕ, ◌≤◌, ◌<◌}
use mathlib.Core.Path.{◌≡◌}
use lib.ListN.{length}
use Rattle.relation.specs.clauses.Classes.{variable_ceiling, entry}
use Rattle.relation.specs.clauses.Keeping.{SharedLeader}
use Rattle.relation.proofs.sharing.intersect.Given as goal

abbrev pub invariant-loop-v : goal.invariant-loop-v
invariant-loop-v l = (l.v ≤ l.size) × (length l.of ≡ variable_ceiling) × ((u : ℕ) → u < l.v → entry l.of u ≡ entry l.initial.of u)
    × ((u : ℕ) → l.v ≤ u → SharedLeader (entry l.initial.of) (entry l.other) u (entry l.of u))

abbrev pub decreases-loop-v : goal.decreases-loop-v
decreases-loop-v l = l.v
