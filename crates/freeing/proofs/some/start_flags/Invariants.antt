-- `freeing::some::start_flags` meets its contract: the first i flags became their literals.
use Rattle.freeing.specs.clauses.Some.{Begun}
use Rattle.freeing.proofs.some.start_flags.Given as goal

abbrev pub invariant-loop-i : goal.invariant-loop-i
invariant-loop-i l = Begun l.n l.keep l.state l.i l.initial.to l.to l.free
