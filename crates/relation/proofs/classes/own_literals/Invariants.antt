-- `relation::classes::own_literals` meets its contract: the loop gives each variable its own literal.
use Prim.Native.Nat.{ℕ, ◌*◌, ◌<◌}
use mathlib.Core.Path.{◌≡◌}
use lib.ListN.{length}
use Rattle.relation.specs.clauses.Classes.{variable_ceiling, entry}
use Rattle.relation.proofs.classes.own_literals.Given as goal

abbrev pub invariant-loop-v : goal.invariant-loop-v
invariant-loop-v l = (length l.of ≡ variable_ceiling) × ((u : ℕ) → u < l.v → entry l.of u ≡ 2 * u)
