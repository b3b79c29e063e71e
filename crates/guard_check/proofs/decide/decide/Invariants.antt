-- `guard_check::decide::decide` meets its contract: the relation is saturated with each flag that is fixed.
use mathlib.Core.Path.{◌≡◌}
use Rattle.steps.specs.clauses.Resting.{in_use}
use Rattle.guard_check.proofs.Trying.{Trying}
use Rattle.guard_check.proofs.decide.decide.Given as goal

abbrev pub invariant-loop-done : goal.invariant-loop-done
invariant-loop-done l =
    record {
      size : l.relation.size ≡ in_use l.formula.count;
      trying : Trying l.formula.triplets.now l.formula.count l.formula.flags l.depth l.formula.root l.done l.state l.relation.of;
    }
