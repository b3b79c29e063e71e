-- `operands::closed` meets its contract: past a closing bracket, and refused at another token.
use mathlib.Core.Path.{sym, ◌∙◌}
use Rattle.operands.proofs.Operands.{closed-says, closed-refused}
use Rattle.operands.proofs.closed.Goals as goal

pub returns-then-closing_follows : goal.returns-then-closing_follows
returns-then-closing_follows c =
    closed-says (sym c.closing_follows.ensures ∙ c.if-closing_follows.true) c.advanced.ensures

pub returns : goal.returns
returns c =
    closed-refused c.requires.at_value (sym c.closing_follows.ensures ∙ c.if-closing_follows.false) c.refuse_ahead.ensures.now
