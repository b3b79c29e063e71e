-- `operands::past_sign` meets its contract: a sign past the ceiling is refused, another is counted.
use native.Mathlib.Omega.{arith}
use Rattle.operands.proofs.Stepping.{past-sign-says, past-sign-refused}
use Rattle.operands.proofs.past_sign.Goals as goal

pub returns-then-at-ge-CONNECTIVES : goal.returns-then-at-ge-CONNECTIVES
returns-then-at-ge-CONNECTIVES c =
    past-sign-refused c.args.text.now c.args.at.now c.requires.token_fits c.requires.at_value c.if-at-ge-CONNECTIVES.true c.refuse_ahead.ensures.now

pub returns : goal.returns
returns c =
    past-sign-says c.args.text.now c.args.at.now c.requires.token_fits c.requires.at_value (omega (arith, c.if-at-ge-CONNECTIVES.false))
    c.token_at.ensures
