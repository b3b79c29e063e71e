use native.Mathlib.Omega.{arith}
use Rattle.lines.proofs.Cutting.{before-next, before-all}
use Rattle.covercheck.proofs.answer_all.Goals as goal

pub loop-start-preserved : goal.loop-start-preserved
loop-start-preserved c = (
  before-next c.args.input.now c.loop-start.number c.loop-start.start c.line_end-end.result c.loop-start.invariant.0 c.line_end-end.ensures,
  omega
      (arith, c.line_end-end.ensures.later, c.loop-start.invariant.1),
  omega (arith, c.line_end-end.ensures.inside),
)

pub returns : goal.returns
returns c =
    before-all c.args.input.now c.loop-start.number c.loop-start.start c.loop-start.invariant.0 (omega arith)
