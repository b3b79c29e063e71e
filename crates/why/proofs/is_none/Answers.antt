-- `why::is_none` meets its contract.
use mathlib.Core.Path.{refl}
use Rattle.why.specs.clauses.Keeping.{none_found}
use Rattle.why.proofs.is_none.Goals as goal

pub returns-in-Done : goal.returns-in-Done
unfolding none_found
returns-in-Done c =
    rw c.in-Done.is refl

pub returns-in_default : goal.returns-in_default
unfolding none_found
returns-in_default c =
    rw c.in_default.is refl
