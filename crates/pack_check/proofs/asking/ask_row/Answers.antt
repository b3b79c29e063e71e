use mathlib.Core.Path.{sym, ◌∙◌}
use native.Mathlib.Omega.{arith}
use Rattle.pack_check.proofs.Asked.{closed-covered}
use Rattle.pack_check.proofs.Rows.{row_goes}
use Rattle.pack_check.proofs.asking.ask_row.Goals as goal

pub loop-j-preserved : goal.loop-j-preserved
loop-j-preserved c = (
  omega arith,
  omega arith,
  c.ask_pair-verdict.ensures.1,
  row_goes _ _ _ _ c.args.depth c.args.i c.loop-j.j c.loop-j.invariant.3
      (rw (closed-covered c.ask_pair-verdict.result (sym c.is_open.ensures ∙ c.if-is_open.false)) at c.ask_pair-verdict.ensures.0),
)
