-- `Formula::value` meets its contract: the flags, and then the first j triplets, have their values.
use Rattle.truth.specs.clauses.Computed.{Valued}
use Rattle.truth.specs.clauses.Values.{value_in}
use Rattle.truth.proofs.formula.Formula.value.Given as goal

abbrev pub invariant-loop-j : goal.invariant-loop-j
invariant-loop-j l = Valued l.self.flags l.state l.j l.self.triplets.now (value_in l.values)
