-- `covercheck::answer_all` asks for each line by its number, and answers all of them: so many lines stand before the next one's start.
use Prim.Native.Nat.{◌+◌, ◌-◌, ◌≤◌}
use lib.ListN.{length}
use Rattle.lines.specs.clauses.Cutting.{LinesBefore}
use Rattle.covercheck.proofs.answer_all.Given as goal

abbrev pub invariant-loop-start : goal.invariant-loop-start
invariant-loop-start l = LinesBefore l.input l.number l.start × (l.number ≤ l.start) × (l.start ≤ length l.input + 1)

abbrev pub decreases-loop-start : goal.decreases-loop-start
decreases-loop-start l = length l.input + 1 - l.start
