-- `truth::states::is_state` meets its contract: no bit is left.
use Rattle.truth.proofs.Below.{no-bit-left}
use Rattle.truth.proofs.states.is_state.Goals as goal

pub returns : goal.returns
returns c =
    no-bit-left c.args.number c.args.flags
