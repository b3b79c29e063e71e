-- The gaps of a guard: the states that make it false, ascending.
use Rattle.std.specs.Prelude.{ℕ, zero, suc, ◌-◌, ◌^◌, Bool, List, [], ◌∷◌, ◌++◌}
use Rattle.ground.specs.Choice.{choose}
use Rattle.notation.specs.Guard.{Guard}
use Rattle.truth.specs.Value.{value}

-- of the k numbers from lo on, those at which v is false, ascending
unfoldable pub false_from : (ℕ → Bool) → ℕ → ℕ → List ℕ
false_from v lo zero = []
false_from v lo (suc k) = choose (v lo) [] (lo ∷ []) ++ false_from v (suc lo) k

-- the states from start to the last, 2^n - 1, in which a guard of n flags is false
unfoldable pub gaps_from : ℕ → Guard → ℕ → List ℕ
gaps_from n g start = false_from (λ s. value n s g) start (2 ^ n - start)
