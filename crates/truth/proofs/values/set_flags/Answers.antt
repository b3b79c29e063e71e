use mathlib.Core.Bool.{true}
use native.Mathlib.Omega.{arith}
use lib.ListN.{length-set}
use Rattle.truth.proofs.Valuing.{flags-none, flags-more}
use Rattle.truth.proofs.values.set_flags.Goals as goal

pub loop-i-init : goal.loop-i-init
loop-i-init c =
    flags-none c.args.n c.args.state c.args.values.now (omega (arith, c.requires))

pub loop-i-preserved : goal.loop-i-preserved
loop-i-preserved c =
    flags-more c.args.n c.args.state c.loop-i.i _ c.loop-i.values _ c.loop-i.invariant
    (omega (arith, c.loop-i-test.true, c.requires, c.loop-i.invariant.long, length-set c.args.values.now 0 true)) c.is_set.ensures
