-- The shape of what reading writes: which literals a triplet and the root may name.
use Rattle.std.specs.Prelude.{ℕ, ◌+◌, ◌*◌, ◌/◌, ◌≤◌, ◌<◌, ◌⊎◌, List, length, get_or, ◌≡◌}
use Rattle.notation.specs.Guard.{Guard, flag, truth, negated, joined, connectives}
use Rattle.notation.specs.Triplets.{triplet_variable, literal_ceiling, literal, triplets, numbers}

-- the literal l is, with either sign, true, a flag of 1 to n, or one of the first c triplets
abbrev pub Names : ℕ → ℕ → ℕ → Type 0
Names n c l = (l / 2 ≤ n) ⊎ ((triplet_variable 0 < l / 2) × (l / 2 ≤ triplet_variable c))

-- triplet j, counted from 0, as three numbers of a list
abbrev pub kind_at : List ℕ → ℕ → ℕ
kind_at xs j = get_or xs (3 * j) 0

abbrev pub y_at : List ℕ → ℕ → ℕ
y_at xs j = get_or xs (3 * j + 1) 0

abbrev pub z_at : List ℕ → ℕ → ℕ
z_at xs j = get_or xs (3 * j + 2) 0

-- the numbers xs are c triplets over n flags: each of kind 0 or 1, its operands known before it
pub record Shape (n c : ℕ) (xs : List ℕ) : Type 0 where
  pub kinds : (j : ℕ) → j < c → kind_at xs j ≤ 1
  pub ys : (j : ℕ) → j < c → Names n j (y_at xs j)
  pub zs : (j : ℕ) → j < c → Names n j (z_at xs j)

-- every flag of a guard is one of 1 to n
abbrev pub FlagsWithin : ℕ → Guard → Type 0
FlagsWithin n (flag i) = (0 < i) × (i ≤ n)
FlagsWithin n (truth b) = Unit {0}
FlagsWithin n (negated g) = FlagsWithin n g
FlagsWithin n (joined c g h) = FlagsWithin n g × FlagsWithin n h

-- what reading writes: as many triplets as two-sided connectives, each of kind 0 or 1 over operands that are known before it, and no literal over the largest
pub record Shapely (n : ℕ) (g : Guard) : Type 0 where
  pub count : length (triplets 0 g) ≡ connectives g
  pub shape : Shape n (connectives g) (numbers (triplets 0 g))
  pub root : Names n (connectives g) (literal 0 g)
  pub small : literal 0 g ≤ literal_ceiling
  pub ys : (j : ℕ) → j < connectives g → y_at (numbers (triplets 0 g)) j ≤ literal_ceiling
  pub zs : (j : ℕ) → j < connectives g → z_at (numbers (triplets 0 g)) j ≤ literal_ceiling
