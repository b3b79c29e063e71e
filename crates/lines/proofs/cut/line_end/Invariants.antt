-- `lines::cut::line_end` meets its contract: the bytes passed are no LF, so the line ends where the loop does.
use Prim.Native.Nat.{◌≤◌}
use lib.ListN.{length}
use Rattle.lines.proofs.Cutting.{Passed}
use Rattle.lines.proofs.cut.line_end.Given as goal

abbrev pub invariant-loop-at : goal.invariant-loop-at
invariant-loop-at l = Passed l.input l.start l.at × (l.start ≤ l.at) × (l.at ≤ length l.input)
