use native.Mathlib.Omega.{arith}
use mathlib.Core.Path.{◌≡◌, subst}
use lib.ListN.{length}
use Rattle.lines.specs.clauses.Cutting.{LineEnd}
use Rattle.lines.proofs.Cutting.{passed_none, passed-more, end-at-feed, end-at-end}
use Rattle.lines.proofs.cut.line_end.Goals as goal

pub loop-at-init : goal.loop-at-init
loop-at-init c =
    (passed_none c.args.input.now c.args.start, omega arith, omega arith)

pub returns-then-input-at-eq10 : goal.returns-then-input-at-eq10
returns-then-input-at-eq10 c =
    end-at-feed c.args.input.now c.args.start c.loop-at.at c.loop-at.invariant.1 c.loop-at-test.true c.if-input-at-eq10.true c.loop-at.invariant.0

pub loop-at-preserved : goal.loop-at-preserved
loop-at-preserved c = (
  passed-more c.args.input.now c.args.start c.loop-at.at c.loop-at.invariant.1 c.loop-at-test.true c.if-input-at-eq10.false c.loop-at.invariant.0,
  omega arith,
  omega
      arith,
)

pub returns : goal.returns
returns c =
    let end : c.loop-at.at ≡ length c.args.input.now = omega arith in
    subst (LineEnd c.args.input.now c.args.start) end (end-at-end c.args.input.now c.args.start c.loop-at.at c.requires (omega arith) c.loop-at.invariant.0)
