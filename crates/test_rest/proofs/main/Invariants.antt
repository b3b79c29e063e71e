-- `test_rest::main` is safe: each list has at most four orders that are wrong.
use Prim.Native.Nat.{◌*◌, ◌≤◌}
use Rattle.test_rest.proofs.main.Given as goal

abbrev pub invariant-loop-seed : goal.invariant-loop-seed
invariant-loop-seed l = l.wrong ≤ 4 * l.seed
