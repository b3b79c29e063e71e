-- `freeing::some::fix_some` meets its contract: the table of the kept flags, folded.
use native.Mathlib.Omega.{arith}
use Rattle.freeing.proofs.Freeing.{table-some, free-few, fixed-some}
use Rattle.freeing.proofs.some.fix_some.Goals as goal

pub fold-requires-clause-long : goal.fold-requires-clause-long
fold-requires-clause-long c =
    (free-few _ _ _ _ _ _ c.start_some-free.ensures, omega (arith, c.requires.0, c.start_some-free.ensures.long), omega (arith, c.requires.1))

pub fold-requires-clause-table : goal.fold-requires-clause-table
fold-requires-clause-table c =
    table-some _ _ _ _ _ _ c.start_some-free.ensures

pub returns-clause-fixed : goal.returns-clause-fixed
returns-clause-fixed c =
    rw c.fold.ensures.flags (fixed-some _ _ _ _ _ _ c.start_some-free.ensures _ _ _ _ _ _ c.fold.ensures.folded)
