-- `search::at_once` meets its contract: all states at once, from the start on.
use Prim.Native.Nat.{◌+◌}
use native.Mathlib.Omega.{arith}
use lib.Pow.{pow_mono}
use Rattle.rows.specs.clauses.Rows.{word_flags}
use Rattle.search.specs.clauses.Walking.{widest}
use Rattle.search.proofs.Walks.{searched, stretch-all, rows_all, shifted, words-hold}
use Rattle.search.proofs.at_once.Goals as goal

pub block-requires : goal.block-requires
block-requires g c =
    let e = shifted g.row.MORE (omega arith) in (
      rows_all _ (word_flags + g.row.MORE) _ _ _ c.requires.within.0 (omega (arith, words-hold g.row.MORE)) (omega arith) c.flag_rows.ensures,
      stretch-all _ _ c.args.formula.now.proper.flags (omega (arith, pow_mono {i = g.row.MORE} {j = widest} c.requires.room.0)),
      omega arith,
    )

pub returns : goal.returns
returns g c =
    searched _ _ _ _ _ _ _ _ _ c.requires.within.1 c.block.ensures
