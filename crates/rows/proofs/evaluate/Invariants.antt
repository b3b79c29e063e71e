-- `rows::evaluate` meets its contract: the rows of the first j triplets are right.
use Rattle.rows.specs.clauses.Rows.{Evaluated}
use Rattle.rows.proofs.evaluate.Given as goal

abbrev pub invariant-loop-j : goal.invariant-loop-j
invariant-loop-j l = Evaluated l.n l.width l.xs l.j l.initial.rows l.rows
