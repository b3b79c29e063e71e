-- `relation::joining::merge` meets its contract: the entries below v have moved, the others are still the old ones.
use Prim.Native.Nat.{ℕ, ◌/◌, ◌-◌, ◌≤◌, ◌<◌}
use mathlib.Core.Path.{◌≡◌}
use lib.ListN.{length}
use Rattle.relation.specs.clauses.Classes.{variable_ceiling, entry, moved}
use Rattle.relation.proofs.joining.merge.Given as goal

abbrev pub invariant-loop-v : goal.invariant-loop-v
invariant-loop-v l = (l.hi / 2 ≤ l.v) × (l.v ≤ l.size) × (length l.of ≡ variable_ceiling)
    × ((u : ℕ) → u < l.v → entry l.of u ≡ moved l.lo l.hi (entry l.initial.of u)) × ((u : ℕ) → l.v ≤ u → entry l.of u ≡ entry l.initial.of u)

abbrev pub decreases-loop-v : goal.decreases-loop-v
decreases-loop-v l = l.size - l.v
