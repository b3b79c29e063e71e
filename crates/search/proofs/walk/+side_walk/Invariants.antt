-- The proof of the cycle of calls {side, walk}. A side is what is left of it; the two sides of the first flag lie one after the other. The measure is twice the
-- number of flags left, and one more for a side.
use Prim.Native.Nat.{◌+◌, ◌*◌, ◌-◌}
use Rattle.search.proofs.walk.+side_walk.Given as goal

abbrev pub decreases-side : goal.decreases-side
decreases-side l = 2 * (l.formula.now.flags - 1) + 1

abbrev pub decreases-walk : goal.decreases-walk
decreases-walk l = 2 * l.formula.now.flags
