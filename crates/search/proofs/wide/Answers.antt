-- `search::wide` meets its contract: the walk over all states, from the start on.
use native.Mathlib.Omega.{arith}
use Prim.Native.Nat.{◌+◌}
use Rattle.rows.specs.clauses.Rows.{word_flags}
use Rattle.search.specs.clauses.Walking.{widest}
use Rattle.search.proofs.Walks.{searched, stretch-all, rows_all}
use Rattle.search.proofs.wide.Goals as goal

pub walk-requires-clause-rows : goal.walk-requires-clause-rows
walk-requires-clause-rows c = (
  rows_all _ (word_flags + widest) _ _ _ (omega (arith, c.min-low.ensures)) (omega arith) (omega arith) c.flag_rows.ensures,
  stretch-all _ _ c.args.formula.now.proper.flags (omega arith),
  omega arith,
)

pub returns : goal.returns
returns c =
    searched _ _ _ _ _ _ _ _ _ c.requires c.walk.ensures
