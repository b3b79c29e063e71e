-- What a guard means: its value in a state, by classical truth tables.
use Rattle.std.specs.Prelude.{ℕ, ◌-◌, Bool, not}
use Rattle.notation.specs.Guard.{Guard, flag, truth, negated, joined}
use Rattle.ground.specs.Bits.{bit}
use Rattle.truth.specs.Connectives.{table}

-- the value of a guard of n flags in the state s; the first flag is the highest bit of the state, the last the lowest
unfoldable pub value : ℕ → ℕ → Guard → Bool
value n s (flag i) = bit s (n - i)
value n s (truth b) = b
value n s (negated g) = not (value n s g)
value n s (joined c g h) = table c (value n s g) (value n s h)
