-- `fixing::fold::fold` meets its contract: what became of the first j triplets has their values.
use lib.ListN.{get_or}
use Rattle.fixing.specs.clauses.Folding.{Folding, Reads, reading}
use Rattle.fixing.proofs.fold.fold.Given as goal

abbrev pub invariant-loop-j : goal.invariant-loop-j
invariant-loop-j l = record {
  folding : Folding l.less l.formula.flags (Reads l.less l.formula.flags (reading l.initial.to)) l.xs l.j (λ v. get_or l.to v 0) l.c l.ys;
}
