-- `walk::block` meets its contract: the rows have the value of the formula in every state of the stretch.
use Rattle.search.proofs.Blocks.{block_walked}
use Rattle.search.proofs.walk.block.Goals as goal

pub returns : goal.returns
returns c =
    block_walked _ _ _ _ _ _ _ _ _ _ _ _ _ c.args.formula.now.proper c.requires.0.enough c.requires.1.aligned c.evaluate.ensures c.write_row.ensures
