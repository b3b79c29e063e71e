-- `relation::classes::Relation::rank` meets its contract: the loop counts as the definition does.
use Prim.Native.Nat.{◌+◌}
use mathlib.Core.Path.{◌≡◌}
use Rattle.relation.specs.clauses.Classes.{entry, own}
use Rattle.relation.proofs.classes.Relation.rank.Given as goal

abbrev pub invariant-loop-v : goal.invariant-loop-v
invariant-loop-v l = l.count ≡ 1 + own l.v (entry l.self.of)
