-- `building::copy_many` meets its contract: after i steps the first i numbers are copied, moved.
use Prim.Native.Nat.{◌*◌}
use mathlib.Core.Path.{◌≡◌}
use mathlib.Core.List.{map}
use lib.ListN.{drop}
use lib.Seq.{paste}
use Rattle.building.specs.clauses.Moved.{moved}
use Rattle.building.proofs.copy_many.Given as goal

abbrev pub invariant-loop-i : goal.invariant-loop-i
invariant-loop-i l = l.out ≡ paste l.initial.out (3 * l.before) (map (moved l.before) (drop (3 * l.off) l.pool)) l.i
