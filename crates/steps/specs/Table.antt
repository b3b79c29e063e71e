-- The step table: what is named of x, y and z before a step, and what after it.
use Rattle.std.specs.Prelude.{ℕ, suc, ◌+◌, ◌*◌, ◌/◌, ◌%◌, ◌≡◌, Bool, true, false, not, ◌&&◌, ◌||◌, List, [], ◌∷◌, get_or}
use Rattle.std.specs.Bool.{beq}
use Rattle.ground.specs.Choice.{choose}
use Rattle.truth.specs.Connectives.{gate}
use Rattle.relation.specs.Relation.{Rel}
use Rattle.steps.specs.Step.{Side, never, always, own_x, not-x, own-y, not-y, own-z, Values, literal_at, truth_at}

-- what x, y and z can be named as, the last its own
abbrev pub x_names : List Side
x_names = never ∷ always ∷ own_x ∷ []

abbrev pub y_names : List Side
y_names = never ∷ always ∷ own_x ∷ not-x ∷ own-y ∷ []

abbrev pub z_names : List Side
z_names = never ∷ always ∷ own_x ∷ not-x ∷ own-y ∷ not-y ∷ own-z ∷ []

-- the names of x, y and z in pattern p
abbrev pub x_named : ℕ → Side
x_named p = get_or x_names (p / 35) own_x

abbrev pub y_named : ℕ → Side
y_named p = get_or y_names (p / 7 % 5) own-y

abbrev pub z_named : ℕ → Side
z_named p = get_or z_names (p % 7) own-z

-- the place, counted from 0, of the first side that passes a test
abbrev pub earliest : (Side → Bool) → List Side → ℕ
earliest f [] = 0
earliest f (s ∷ ss) = choose (f s) 0 (suc (earliest f ss))

-- the pattern of x, y and z where E says which sides are equal: the earliest fitting name in each list
unfoldable pub pattern : (Side → Side → Bool) → ℕ
pattern E = 35 * earliest (E own_x) x_names + 7 * earliest (E own-y) y_names + earliest (E own-z) z_names

-- the pattern of the literals x, y and z in a relation
abbrev pub pattern_of : Rel → ℕ → ℕ → ℕ → ℕ
pattern_of S x y z = pattern (λ s t. S (literal_at x y z s) (literal_at x y z t))

-- the truth value has x, y and z as pattern p names them
abbrev pub fits : ℕ → Values → Bool
fits p v =
    beq (truth_at v own_x) (truth_at v (x_named p))
    && (beq (truth_at v own-y) (truth_at v (y_named p)) && beq (truth_at v own-z) (truth_at v (z_named p)))

-- a test passes at false and at true
abbrev pub both : (Bool → Bool) → Bool
both f = f false && f true

-- a test passes at each of the eight truth values
abbrev pub each : (Values → Bool) → Bool
each f = both (λ a. both (λ b. both (λ c. f (record { x = a; y = b; z = c }))))

-- s = t holds in each truth value that satisfies both the triplet and pattern p
unfoldable pub follows : ℕ → ℕ → Side → Side → Bool
follows kind p s t =
    each (λ v. not (beq v.x (gate kind v.y v.z) && fits p v) || beq (truth_at v s) (truth_at v t))

-- the number for contradiction
abbrev pub contradictory : ℕ
contradictory = 255

-- the pattern after a step on a triplet of that kind at pattern p; contradiction where no truth value satisfies both
unfoldable pub entry : ℕ → ℕ → ℕ
entry kind p = choose (follows kind p never always) contradictory (pattern (follows kind p))

-- A holds what pattern e names of the literals x, y and z
pub record NamesHold (e x y z : ℕ) (A : Rel) : Type 0 where
  pub of-x : A x (literal_at x y z (x_named e)) ≡ true
  pub of-y : A y (literal_at x y z (y_named e)) ≡ true
  pub of-z : A z (literal_at x y z (z_named e)) ≡ true
