-- Numbers that begin with the triplets of a guard are false exactly in its gaps.
use Prim.Native.Nat.{ℕ, ◌-◌, ◌^◌}
use mathlib.Core.Path.{◌≡◌}
use mathlib.Core.List.{List}
use Rattle.notation.specs.Guard.{Guard}
use Rattle.truth.specs.Value.{value}
use Rattle.truth.specs.clauses.Computed.{root_value}
use Rattle.truth.specs.clauses.Written.{Begins}
use Rattle.truth.proofs.Written.{written-value}
use Rattle.gaps.specs.Gaps.{false_from, gaps_from}
use Rattle.gaps.proofs.Ascending.{false_same}

-- what is false of them from the start on are the guard's gaps
pub guard-gaps : (n c root : ℕ) (g : Guard) (xs : List ℕ) → Begins n c root g xs → (start : ℕ)
    → false_from (root_value n xs c root) start (2 ^ n - start) ≡ gaps_from n g start
unfolding gaps_from
guard-gaps n c root g xs b start =
    false_same (root_value n xs c root) (λ s. value n s g) start (2 ^ n - start) (λ s p q. written-value n c root g xs b s)
