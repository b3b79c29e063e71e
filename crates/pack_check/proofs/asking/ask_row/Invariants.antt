-- `asking::ask_row` meets its contract: the pairs of a variant from the left, up to the first that is not covered.
use Prim.Native.Nat.{◌+◌, ◌≤◌, ◌<◌}
use Rattle.questions.specs.clauses.Laying.{Rooms}
use Rattle.pack_check.specs.clauses.Asking.{RowCovered}
use Rattle.pack_check.proofs.asking.ask_row.Given as goal

abbrev pub invariant-loop-j : goal.invariant-loop-j
invariant-loop-j l = (l.i < l.j) × (l.j ≤ l.variants + 1) × Rooms l.pool l.spans l.out × RowCovered l.pool l.spans l.flags l.variants l.depth l.i l.j
