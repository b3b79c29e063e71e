-- `steps::rest::rest` meets its contract: a pass that does not make the rank fall has changed nothing.
use mathlib.Core.Path.{◌≡◌}
use Rattle.steps.proofs.Resting.{Settling}
use Rattle.steps.proofs.rest.rest.Given as goal

abbrev pub invariant-loop-left : goal.invariant-loop-left
invariant-loop-left l =
    record {
      size : l.relation.size ≡ l.initial.relation.size;
      settling : Settling l.triplets l.count l.initial.relation.of l.relation.of l.left l.was;
    }

abbrev pub decreases-loop-left : goal.decreases-loop-left
decreases-loop-left l = l.was
