-- `relation::sharing::shared_leader` meets its contract: no literal of a variable below u leads there in both.
use Prim.Native.Nat.{◌-◌, ◌≤◌}
use Rattle.relation.specs.clauses.Classes.{entry}
use Rattle.relation.proofs.ShareLaws.{NoneBelow}
use Rattle.relation.proofs.sharing.shared_leader.Given as goal

abbrev pub invariant-loop-u : goal.invariant-loop-u
invariant-loop-u l = (l.u ≤ l.v) × NoneBelow (entry l.of) (entry l.other) l.v l.u

abbrev pub decreases-loop-u : goal.decreases-loop-u
decreases-loop-u l = l.v - l.u
