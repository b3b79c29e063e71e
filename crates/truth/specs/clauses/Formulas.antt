-- The value of a formula, as clauses above say it.
use Rattle.std.specs.Prelude.{ℕ, Bool}
use Rattle.truth.specs.declared.formula.Formula.{Formula}
use Rattle.truth.specs.clauses.Computed.{root_value}

-- the value of a formula in a state
abbrev pub value_of : Formula → ℕ → Bool
value_of f = root_value f.flags f.triplets.now f.count f.root
