-- A guard's triplets where others stand before them.
use Rattle.std.specs.Prelude.{ℕ, ◌+◌, ◌*◌, ◌≤◌, ◌<◌, ◌≡◌, List, [], ◌∷◌, ◌++◌, map, length, take, drop, ltb}
use Rattle.ground.specs.Choice.{choose}
use Rattle.notation.specs.Ceilings.{connective_ceiling}
use Rattle.notation.specs.Triplets.{Triplet, triplet_variable, literal_ceiling}
use Rattle.notation.specs.clauses.Shape.{kind_at, y_at, z_at}

-- a literal where c more triplets stand before: that of a triplet moves, that of true or of a flag stays
unfoldable pub moved : ℕ → ℕ → ℕ
moved c l = choose (ltb l (2 * triplet_variable 1)) l (l + 2 * c)

-- triplets where c more stand before
unfoldable pub moved_all : ℕ → List Triplet → List Triplet
moved_all c [] = []
moved_all c (t ∷ ts) = record { kind = t.kind; y = moved c t.y; z = moved c t.z } ∷ moved_all c ts

-- what copying a guard's triplets asks: room for them in both tables, kinds of triplets, and literals that are at most the largest
pub record CopyAsks (pool : List ℕ) (off count : ℕ) (out : List ℕ) (before : ℕ) : Type 0 where
  pub table : length pool ≡ 3 * connective_ceiling
  pub stands : off + count ≤ connective_ceiling
  pub room : length out ≡ 3 * connective_ceiling
  pub fits : before + count ≤ connective_ceiling
  pub kinds : (j : ℕ) → j < count → kind_at pool (off + j) ≤ 1
  pub ys : (j : ℕ) → j < count → y_at pool (off + j) ≤ literal_ceiling
  pub zs : (j : ℕ) → j < count → z_at pool (off + j) ≤ literal_ceiling

-- the triplets have been copied behind others, moved; the kinds 0 and 1 are moved to themselves
pub record Copied (pool : List ℕ) (off count : ℕ) (out : List ℕ) (before : ℕ) (out' : List ℕ) : Type 0 where
  pub room : length out' ≡ 3 * connective_ceiling
  pub written : take (3 * (before + count)) out' ≡ take (3 * before) out ++ map (moved before) (take (3 * count) (drop (3 * off) pool))

-- what laying a guard asks: the same, and a root that is at most the largest literal
pub record LayAsks (pool : List ℕ) (off count root : ℕ) (out : List ℕ) (before : ℕ) : Type 0 where
  pub copy : CopyAsks pool off count out before
  pub small : root ≤ literal_ceiling

-- its triplets have been copied, and its literal is its root, moved
pub record Laid (pool : List ℕ) (off count root : ℕ) (out : List ℕ) (before : ℕ) (out' : List ℕ) (r : ℕ) : Type 0 where
  pub copied : Copied pool off count out before out'
  pub literal : r ≡ moved before root
