-- `fixing::start` meets its contract: four stores, and then the flags below l are one less.
use Rattle.fixing.specs.clauses.Fixing.{StartedBy}
use Rattle.fixing.proofs.start.Given as goal

abbrev pub invariant-loop-l : goal.invariant-loop-l
invariant-loop-l l = StartedBy l.b l.initial.to l.to l.l
