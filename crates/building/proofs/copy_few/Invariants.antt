-- `building::copy_few` meets its contract: after j steps the first j triplets are copied, moved.
use Prim.Native.Nat.{◌*◌}
use mathlib.Core.Path.{◌≡◌}
use mathlib.Core.List.{map}
use lib.ListN.{drop}
use lib.Seq.{paste}
use Rattle.building.specs.clauses.Moved.{moved}
use Rattle.building.proofs.copy_few.Given as goal

abbrev pub invariant-loop-j : goal.invariant-loop-j
invariant-loop-j l = l.out ≡ paste l.initial.out (3 * l.before) (map (moved l.before) (drop (3 * l.off) l.pool)) (3 * l.j)
