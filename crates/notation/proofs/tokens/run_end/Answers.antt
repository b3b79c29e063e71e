use mathlib.Core.Path.{◌∙◌}
use Rattle.notation.proofs.Cutting.{at-a-space}
use Rattle.notation.proofs.tokens.run_end.Goals as goal

pub loop-at-preserved : goal.loop-at-preserved
loop-at-preserved c =
    c.loop-at.invariant ∙ at-a-space _ _ c.loop-at-test.true c.if-text-at-ne32.false
