-- The values of variables, kept in a list of truth values.
use Rattle.std.specs.Prelude.{ℕ, ◌-◌, ◌≤◌, ◌<◌, ◌≡◌, Bool, true, false, List, length, get_or}
use Rattle.ground.specs.Bits.{bit}

-- the value of the variable v
unfoldable pub value_in : List Bool → ℕ → Bool
value_in values v = get_or values v false

-- true and the first k of n flags have their values in the state s
pub record FlagsSet (n s k : ℕ) (values after : List Bool) : Type 0 where
  pub long : length after ≡ length values
  pub top : value_in after 0 ≡ true
  pub flags : (i : ℕ) → 0 < i → i ≤ k → value_in after i ≡ bit s (n - i)
