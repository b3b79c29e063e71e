-- What a list of triplets must be for rest to take it.
use Rattle.std.specs.Prelude.{ℕ, ◌/◌, ◌≤◌}
use Rattle.notation.specs.Triplets.{triplet_variable}

-- triplet j, counted from 0, has a kind, and operands that are known before it
pub record Known (j kind y z : ℕ) : Type 0 where
  pub kinds : kind ≤ 1
  pub of-y : y / 2 ≤ triplet_variable j
  pub of-z : z / 2 ≤ triplet_variable j
