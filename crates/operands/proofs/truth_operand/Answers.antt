-- `operands::truth_operand` meets its contract: the literal of `#1` is 0, that of `#0` is 1.
use mathlib.Core.Path.{sym, ap}
use native.Mathlib.Omega.{arith}
use Rattle.ground.specs.Choice.{choose}
use Rattle.operands.specs.clauses.Steps.{place}
use Rattle.operands.proofs.Operands.{truth-token, atom-says}
use Rattle.operands.proofs.truth_operand.Goals as goal

pub returns-then-truth : goal.returns-then-truth
returns-then-truth c =
    λ codes st.
    atom-says (truth-token c.args.text.now (place c.args.at.now) codes c.args.truth 0 st c.requires.at_value
    (sym (ap (λ b. choose b 0 1) c.if-truth.true)) (omega arith)) c.past_token.ensures

pub returns : goal.returns
returns c =
    λ codes st.
    atom-says (truth-token c.args.text.now (place c.args.at.now) codes c.args.truth 1 st c.requires.at_value
    (sym (ap (λ b. choose b 0 1) c.if-truth.false)) (omega arith)) c.past_token-2.ensures
