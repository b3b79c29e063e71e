-- `rows::join_rows` meets its contract: the words before w are made, and those read lie before the row.
use Prim.Native.Nat.{◌+◌}
use lib.ListN.{get_or}
use Rattle.rows.specs.clauses.Rows.{RowMade}
use Rattle.rows.proofs.join_rows.Given as goal

abbrev pub invariant-loop-w : goal.invariant-loop-w
invariant-loop-w g l = RowMade l.initial.rows l.x l.w
    (λ w r. goal.F-post g l.word (get_or l.initial.rows (l.y + w) 0) (get_or l.initial.rows (l.z + w) 0) r) l.rows
