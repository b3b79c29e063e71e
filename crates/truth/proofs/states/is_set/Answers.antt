-- `truth::states::is_set` meets its contract.
use mathlib.Core.Path.{refl}
use Rattle.ground.specs.Bits.{bit}
use Rattle.truth.proofs.states.is_set.Goals as goal

pub returns : goal.returns
unfolding bit
returns c =
    refl
