-- What each function on relations does, said of the relation that an array keeps.
use Rattle.std.specs.Prelude.{ℕ, ◌*◌, ◌/◌, ◌≤◌, ◌<◌, ◌≡◌, Bool, true, false, List, length, eqb}
use Rattle.ground.specs.Choice.{choose}
use Rattle.relation.specs.Relation.{Rel}
use Rattle.relation.specs.Least.{Least, Holds}
use Rattle.relation.specs.clauses.Classes.{variable_ceiling, Classes, contradictory, entry, kept, lead}

-- xs keeps the relation in which each literal equals itself alone
pub record Fresh (xs : List ℕ) : Type 0 where
  pub classes : Classes 0 xs
  pub only : (l m : ℕ) → kept xs l m ≡ eqb l m

-- an array as long as the variables are many, in which none leads upwards
pub record Lower (xs : List ℕ) : Type 0 where
  pub long : length xs ≡ variable_ceiling
  pub lower : (v : ℕ) → entry xs v / 2 ≤ v

-- r is where l leads: an equal literal, of no higher variable
pub record Led (f : ℕ → ℕ) (l r : ℕ) : Type 0 where
  pub leads : r ≡ lead f l
  pub lower : r / 2 ≤ l / 2

-- lo and hi are leaders of a consistent array, lo the lower
pub record Leaders (n : ℕ) (f : ℕ → ℕ) (lo hi : ℕ) : Type 0 where
  pub consistent : contradictory f ≡ false
  pub low : lead f lo ≡ lo
  pub high : lead f hi ≡ hi
  pub less : lo / 2 < hi / 2
  pub inside : hi / 2 < n

-- ys keeps the least relation above that of xs which holds l = m
pub record Joined (n : ℕ) (xs : List ℕ) (l m : ℕ) (ys : List ℕ) : Type 0 where
  pub classes : Classes n ys
  pub least : Least (Holds l m) (kept xs) (kept ys)

-- what two relations share
unfoldable pub common : Rel → Rel → Rel
common R S l m = choose (R l m) (S l m) false

-- r is of the lowest variable that leads, with the sign of r, where the variable v leads in f and in g
pub record SharedLeader (f g : ℕ → ℕ) (v r : ℕ) : Type 0 where
  pub low : r / 2 ≤ v
  pub first : lead f r ≡ f v
  pub second : lead g r ≡ g v
  pub lowest : (k : ℕ) → k / 2 ≤ v → lead f k ≡ f v → lead g k ≡ g v → r / 2 ≤ k / 2

-- zs keeps what the relations of xs and ys share
pub record Shared (n : ℕ) (xs ys zs : List ℕ) : Type 0 where
  pub classes : Classes n zs
  pub both : (l m : ℕ) → kept zs l m ≡ common (kept xs) (kept ys) l m

-- the variable v is tied to true or to false
unfoldable pub tied : Rel → ℕ → Bool
tied R v = choose (R (2 * v) 0) true (R (2 * v) 1)
