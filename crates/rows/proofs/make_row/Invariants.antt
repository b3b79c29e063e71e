-- `rows::make_row` meets its contract: the words before w are made.
use Rattle.rows.specs.clauses.Rows.{RowMade}
use Rattle.rows.proofs.make_row.Given as goal

abbrev pub invariant-loop-w : goal.invariant-loop-w
invariant-loop-w g l = RowMade l.initial.rows l.x l.w (λ w r. goal.F-post g l.word w r) l.rows
