-- `why::kept_flags` meets its contract: the mask holds the flags kept once the first i are gone through.
use Rattle.truth.specs.clauses.Formulas.{value_of}
use Rattle.why.specs.clauses.Keeping.{Keeping}
use Rattle.why.proofs.kept_flags.Given as goal

abbrev pub invariant-loop-i : goal.invariant-loop-i
invariant-loop-i l = Keeping l.formula.flags (value_of l.formula) l.state l.i l.keep
