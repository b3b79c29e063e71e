-- A state by the values of its flags.
use Rattle.std.specs.Prelude.{ℕ, zero, suc, ◌+◌, ◌*◌, Bool}
use Rattle.ground.specs.Choice.{choose}

-- the state of n flags in which flag i has the value b i
unfoldable pub state_with : ℕ → (ℕ → Bool) → ℕ
state_with zero b = 0
state_with (suc n) b = 2 * state_with n b + choose (b (suc n)) 1 0
