-- The truth valuation of a state: it satisfies the guard's triplets, and the root has the guard's value.
use Prim.Native.Nat.{ℕ, suc, ◌+◌, ◌*◌, ◌-◌, ◌≤◌, ◌<◌}
use mathlib.Core.Path.{◌≡◌, ◌∙◌}
use mathlib.Core.Bool.{Bool}
use native.Mathlib.Omega.{arith}
use lib.ListN.{length}
use Rattle.notation.proofs.Shaped.{shaped, count-triplets}
use Rattle.notation.specs.Guard.{Guard, connectives}
use Rattle.notation.specs.Triplets.{triplet_variable, literal, triplets, numbers}
use Rattle.truth.specs.Value.{value}
use Rattle.ground.specs.Bits.{bit}
use Rattle.truth.specs.clauses.Computed.{literal_value, computed, Valued}
use Rattle.truth.proofs.Literals.{literal-even}
use Rattle.truth.proofs.Computing.{valued}
use Rattle.truth.proofs.Root.{root-value}
use Rattle.notation.proofs.EachTriplet.{at_each, triplet_at}
use Rattle.truth.specs.clauses.Written.{Proper}
use Rattle.saturation.proofs.Truth.{Makes, Satisfying}

-- the values of all variables in the state s
unfoldable pub valuation : ℕ → Guard → ℕ → ℕ → Bool
valuation n g s = computed n s (numbers (triplets 0 g)) (connectives g)

module _ (n : ℕ) (g : Guard) (proper : Proper n g) (s : ℕ) where
  given : Valued n s (connectives g) (numbers (triplets 0 g)) (valuation n g s)
  unfolding valuation
  given = valued n s (numbers (triplets 0 g)) proper.few (connectives g) (shaped n g proper.within)

  pub valuation-satisfies : Satisfying (triplets 0 g) (valuation n g s)
  valuation-satisfies =
      record {
        top = given.top;
        all = at_each (Makes (valuation n g s)) 0 (triplets 0 g) made;
      }
    where
      made : (j : ℕ) → j < length (triplets 0 g) → Makes (valuation n g s) (triplet_at (numbers (triplets 0 g)) j) (2 * triplet_variable (0 + (j + 1)))
      made j h =
          let e : 2 * triplet_variable (0 + (j + 1)) ≡ 2 * triplet_variable (suc j) = omega arith in
          literal-even (valuation n g s) (2 * triplet_variable (0 + (j + 1))) (triplet_variable (suc j)) e
          ∙ given.gates j (rw (count-triplets 0 g) at h)

  pub valuation-flags : (i : ℕ) → 0 < i → i ≤ n → valuation n g s i ≡ bit s (n - i)
  valuation-flags = given.flags

  pub valuation-root : literal_value (valuation n g s) (literal 0 g) ≡ value n s g
  unfolding valuation
  valuation-root = root-value n s g proper.few proper.within (shaped n g proper.within)
