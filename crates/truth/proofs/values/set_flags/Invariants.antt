-- `truth::values::set_flags` meets its contract: true, and then the first i flags, have their values.
use Rattle.truth.specs.clauses.Values.{FlagsSet}
use Rattle.truth.proofs.values.set_flags.Given as goal

abbrev pub invariant-loop-i : goal.invariant-loop-i
invariant-loop-i l = FlagsSet l.n l.state l.i l.initial.values l.values
