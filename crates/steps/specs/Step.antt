-- What a step on a triplet (x, y, z) adds to a relation.
use Rattle.std.specs.Prelude.{ℕ, ◌≡◌, Bool, true, false, not}
use Rattle.notation.specs.Triplets.{negation}
use Rattle.truth.specs.Connectives.{gate}
use Rattle.relation.specs.Relation.{Rel}

-- true, x, y, z and their negations
pub data Side : Type 0 where
  never : Side
  always : Side
  own_x : Side
  not-x : Side
  own-y : Side
  not-y : Side
  own-z : Side
  not-z : Side

-- the literal of each, for literals x, y and z
abbrev pub literal_at : ℕ → ℕ → ℕ → Side → ℕ
literal_at x y z never = 1
literal_at x y z always = 0
literal_at x y z own_x = x
literal_at x y z not-x = negation x
literal_at x y z own-y = y
literal_at x y z not-y = negation y
literal_at x y z own-z = z
literal_at x y z not-z = negation z

-- one of the eight truth values of x, y and z
pub record Values : Type 0 where
  pub x : Bool
  pub y : Bool
  pub z : Bool

-- the truth of each side at a truth value of x, y and z
abbrev pub truth_at : Values → Side → Bool
truth_at v never = false
truth_at v always = true
truth_at v own_x = v.x
truth_at v not-x = not v.x
truth_at v own-y = v.y
truth_at v not-y = not v.y
truth_at v own-z = v.z
truth_at v not-z = not v.z

-- a truth value that satisfies a triplet of that kind
abbrev pub Satisfies : ℕ → Values → Type 0
Satisfies kind v = v.x ≡ gate kind v.y v.z

-- a truth value that obeys the relation: sides that it holds equal have equal truth
abbrev pub Obeys : Rel → ℕ → ℕ → ℕ → Values → Type 0
Obeys S x y z v = (s t : Side) → S (literal_at x y z s) (literal_at x y z t) ≡ true → truth_at v s ≡ truth_at v t

-- a step on (x, y, z) adds s = t: it holds in each truth value that satisfies both the triplet and the relation
abbrev pub Adds : ℕ → ℕ → ℕ → ℕ → Rel → Side → Side → Type 0
Adds kind x y z S s t = (v : Values) → Satisfies kind v → Obeys S x y z v → truth_at v s ≡ truth_at v t

-- A holds all that a step on (x, y, z) adds to S
abbrev pub HoldsStep : ℕ → ℕ → ℕ → ℕ → Rel → Rel → Type 0
HoldsStep kind x y z S A = (s t : Side) → Adds kind x y z S s t → A (literal_at x y z s) (literal_at x y z t) ≡ true
