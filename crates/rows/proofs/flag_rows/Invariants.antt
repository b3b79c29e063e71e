-- `rows::flag_rows` meets its contract: the rows of true and of the first i flags are made.
use Rattle.rows.proofs.Flags.{FirstFlags}
use Rattle.rows.proofs.flag_rows.Given as goal

abbrev pub invariant-loop-i : goal.invariant-loop-i
invariant-loop-i l = FirstFlags l.n l.width l.i l.initial.rows l.rows
