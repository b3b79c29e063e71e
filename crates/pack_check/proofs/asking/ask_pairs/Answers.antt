use mathlib.Core.Path.{refl}
use Rattle.std.specs.Prelude.{Some}
use Rattle.pack_check.proofs.Rows.{row_open}
use Rattle.pack_check.proofs.asking.ask_pairs.Goals as goal

pub returns-in-Some : goal.returns-in-Some
returns-in-Some c = (
  row_open _ _ _ _ c.args.depth c.loop-i.i c.in-Some.overlap (Some c.in-Some.overlap) refl c.loop-i.invariant.0 c.loop-i.invariant.3
      c.in-Some.ensures.0,
  c.in-Some.ensures.1,
)
