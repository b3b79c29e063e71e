-- `asking::ask_pairs` meets its contract: the rows of pairs, up to the first with a pair that is not covered.
use Prim.Native.Nat.{◌≤◌, ◌<◌}
use Rattle.questions.specs.clauses.Laying.{Rooms}
use Rattle.pack_check.specs.clauses.Asking.{RowsCovered}
use Rattle.pack_check.proofs.asking.ask_pairs.Given as goal

abbrev pub invariant-loop-i : goal.invariant-loop-i
invariant-loop-i l = (0 < l.i) × (l.i ≤ l.variants) × Rooms l.pool l.spans l.out × RowsCovered l.pool l.spans l.flags l.variants l.depth l.i
