-- `Formula::negated` meets its contract: the root names the same variable.
use Rattle.truth.proofs.Valuing.{triplets-negated}
use Rattle.truth.proofs.formula.Formula.negated.Goals as goal

pub invariant_of-result : goal.invariant_of-result
invariant_of-result c = record { proper = triplets-negated _ _ _ _ _ c.args.self.now.proper c.negated.ensures }
