-- What a list of triplets computes in a state.
use Rattle.std.specs.Prelude.{ℕ, zero, suc, ◌*◌, ◌-◌, ◌/◌, ◌%◌, ◌≤◌, ◌<◌, ◌≡◌, Bool, true, not, List, length, eqb}
use Rattle.notation.specs.Ceilings.{flag_ceiling, connective_ceiling}
use Rattle.ground.specs.Choice.{choose}
use Rattle.notation.specs.Triplets.{triplet_variable}
use Rattle.notation.specs.clauses.Shape.{Names, Shape, kind_at, y_at, z_at}
use Rattle.truth.specs.Connectives.{gate}
use Rattle.ground.specs.Bits.{bit}

-- the value of a literal, where v gives the values of variables: 2v is variable v, 2v + 1 its negation
unfoldable pub literal_value : (ℕ → Bool) → ℕ → Bool
literal_value v l = choose (eqb (l % 2) 0) (v (l / 2)) (not (v (l / 2)))

-- the values of the variables in the state s of n flags, once the first c triplets of xs are computed:
-- variable 0 is true, flag i is bit n - i of the state, a triplet is computed from what stands before it
unfoldable pub computed : ℕ → ℕ → List ℕ → ℕ → ℕ → Bool
computed n s xs zero v = choose (eqb v 0) true (bit s (n - v))
computed n s xs (suc c) v =
    choose (eqb v (triplet_variable (suc c)))
    (gate (kind_at xs c) (literal_value (computed n s xs c) (y_at xs c)) (literal_value (computed n s xs c) (z_at xs c)))
    (computed n s xs c v)

-- v gives true its value, each flag its bit of the state s, and each of the c triplets what its operands make of it
pub record Valued (n s c : ℕ) (xs : List ℕ) (v : ℕ → Bool) : Type 0 where
  pub top : v 0 ≡ true
  pub flags : (i : ℕ) → 0 < i → i ≤ n → v i ≡ bit s (n - i)
  pub gates : (j : ℕ) → j < c → v (triplet_variable (suc j)) ≡ gate (kind_at xs j) (literal_value v (y_at xs j)) (literal_value v (z_at xs j))

-- the value of the c triplets of xs, over n flags, at the literal root
unfoldable pub root_value : ℕ → List ℕ → ℕ → ℕ → ℕ → Bool
root_value n xs c root s = literal_value (computed n s xs c) root

-- triplets over n flags with a root that they name
pub record Triplets (n : ℕ) (xs : List ℕ) (c root : ℕ) : Type 0 where
  pub flags : n ≤ flag_ceiling
  pub count : (c ≤ connective_ceiling) × (3 * c ≤ length xs)
  pub shape : Shape n c xs
  pub named : Names n c root
