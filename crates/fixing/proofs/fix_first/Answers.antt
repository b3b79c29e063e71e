-- `fixing::fix_first` meets its contract: the table of the first flag, folded.
use Rattle.fixing.proofs.Starting.{one-more, table-first, fixed-first}
use Rattle.fixing.proofs.fix_first.Goals as goal

pub fold-requires-clause-table : goal.fold-requires-clause-table
fold-requires-clause-table c =
    table-first _ _ _ _ c.start.ensures _ (one-more _ c.requires.some_flag)

pub returns-clause-fixed : goal.returns-clause-fixed
returns-clause-fixed c =
    fixed-first _ _ _ _ c.start.ensures _ (one-more _ c.requires.some_flag) _ _ _ _ _ _ c.fold.ensures.folded
