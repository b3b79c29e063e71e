-- Numbers that begin with the triplets of a guard.
use Rattle.std.specs.Prelude.{ℕ, ◌*◌, ◌≤◌, ◌≡◌, List, take}
use Rattle.notation.specs.Ceilings.{flag_ceiling}
use Rattle.notation.specs.Guard.{Guard, connectives}
use Rattle.notation.specs.Triplets.{literal, triplets, numbers}
use Rattle.notation.specs.clauses.Shape.{FlagsWithin}

-- a guard of n flags, as reading makes it
pub record Proper (n : ℕ) (g : Guard) : Type 0 where
  pub few : n ≤ flag_ceiling
  pub within : FlagsWithin n g

-- the numbers xs begin with the c triplets of a guard of n flags, and root is its literal
pub record Begins (n c root : ℕ) (g : Guard) (xs : List ℕ) : Type 0 where
  pub few : n ≤ flag_ceiling
  pub within : FlagsWithin n g
  pub count : c ≡ connectives g
  pub literal : root ≡ literal 0 g
  pub written : take (3 * c) xs ≡ numbers (triplets 0 g)
