-- `steps::rest::pass` meets its contract: between the start and every relation above it at rest, a step at a time.
use mathlib.Core.Path.{◌≡◌}
use Rattle.steps.proofs.Resting.{Passing}
use Rattle.steps.proofs.rest.pass.Given as goal

abbrev pub invariant-loop-j : goal.invariant-loop-j
invariant-loop-j l =
    record {
      size : l.relation.size ≡ l.initial.relation.size;
      passing : Passing l.triplets l.count l.j l.initial.relation.of l.relation.of;
    }
