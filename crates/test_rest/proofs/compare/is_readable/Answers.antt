use native.Mathlib.Omega.{arith}
use Rattle.test_rest.proofs.Knowing.{readable}
use Rattle.test_rest.proofs.compare.is_readable.Goals as goal

pub returns : goal.returns
returns c =
    λ e. readable c.args.list.now.numbers c.args.list.now.count (omega arith) (omega arith) (λ i h. c.loop-j.invariant i (omega arith))
