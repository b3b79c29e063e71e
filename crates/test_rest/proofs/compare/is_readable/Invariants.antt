-- `test_rest::compare::is_readable` meets its contract. The invariant: the triplets passed are known.
use Rattle.test_rest.proofs.Knowing.{KnownBelow}
use Rattle.test_rest.proofs.compare.is_readable.Given as goal

abbrev pub invariant-loop-j : goal.invariant-loop-j
invariant-loop-j l = KnownBelow l.list.numbers l.j
