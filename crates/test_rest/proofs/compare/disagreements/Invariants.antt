-- `test_rest::compare::disagreements` meets its contract: no more orders are wrong than were tried.
use Prim.Native.Nat.{◌≤◌}
use Rattle.test_rest.proofs.compare.disagreements.Given as goal

abbrev pub invariant-loop-order : goal.invariant-loop-order
invariant-loop-order g l = l.wrong ≤ l.order
