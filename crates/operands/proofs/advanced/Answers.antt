-- `operands::advanced` meets its contract: the next token is cut from the end of the one ahead.
use Rattle.operands.proofs.Stepping.{advanced-says}
use Rattle.operands.proofs.advanced.Goals as goal

pub returns : goal.returns
returns c =
    advanced-says c.requires.token_fits c.requires.at_value c.token_at.ensures
