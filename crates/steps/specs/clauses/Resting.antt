-- What a step, a pass over the triplets and rest do, said of the relation that an array keeps.
use Rattle.std.specs.Prelude.{ℕ, zero, suc, ◌+◌, ◌≤◌, ◌<◌, ◌/◌, List, [], ◌∷◌, ◌++◌}
use Rattle.notation.specs.Triplets.{Triplet}
use Rattle.notation.specs.clauses.Shape.{kind_at, y_at, z_at}
use Rattle.notation.specs.Ceilings.{flag_ceiling}
use Rattle.truth.specs.clauses.Computed.{Triplets}
use Rattle.relation.specs.Relation.{Within}
use Rattle.relation.specs.Least.{Least}
use Rattle.relation.specs.clauses.Growing.{Growth}
use Rattle.relation.specs.clauses.Classes.{Classes, kept}
use Rattle.steps.specs.Step.{HoldsStep}
use Rattle.steps.specs.Table.{NamesHold}
use Rattle.steps.specs.Rest.{NoStepEnlarges, RestOf}

-- a triplet of one of the two kinds over variables below n
pub record Usable (n kind x y z : ℕ) : Type 0 where
  pub kinds : kind ≤ 1
  pub of-x : x / 2 < n
  pub of-y : y / 2 < n
  pub of-z : z / 2 < n

-- ys keeps the least relation above that of xs which holds what the pattern e names of x, y and z
pub record Named (n e x y z : ℕ) (xs ys : List ℕ) : Type 0 where
  pub classes : Classes n ys
  pub least : Least (NamesHold e x y z) (kept xs) (kept ys)

-- ys keeps the least relation above that of xs which holds all that a step on (x, y, z) adds to it
pub record Stepped (n kind x y z : ℕ) (xs ys : List ℕ) : Type 0 where
  pub classes : Classes n ys
  pub least : Least (HoldsStep kind x y z (kept xs)) (kept xs) (kept ys)

-- the first c triplets that the numbers are
abbrev pub triplets_at : List ℕ → ℕ → List Triplet
triplets_at numbers zero = []
triplets_at numbers (suc c) =
    triplets_at numbers c ++ (record { kind = kind_at numbers c; y = y_at numbers c; z = z_at numbers c } ∷ [])

-- the number of variables in use with c triplets
abbrev pub in_use : ℕ → ℕ
in_use c = 1 + flag_ceiling + c

-- the numbers begin with c triplets, over some number of flags and with some root
abbrev pub Readable : List ℕ → ℕ → Type 0
Readable numbers c = (n root : ℕ) × Triplets n numbers c root

-- a step on each of the first c triplets in turn: where that enlarges nothing, no step does
pub record Passed (numbers : List ℕ) (c : ℕ) (xs ys : List ℕ) : Type 0 where
  pub classes : Classes (in_use c) ys
  pub grown : Growth (NoStepEnlarges (triplets_at numbers c)) (kept xs) (kept ys)
  pub idle : Within (kept ys) (kept xs) → NoStepEnlarges (triplets_at numbers c) (kept xs)

-- ys keeps the least relation above that of xs which no step on one of the first c triplets enlarges
pub record Rested (numbers : List ℕ) (c : ℕ) (xs ys : List ℕ) : Type 0 where
  pub classes : Classes (in_use c) ys
  pub least : RestOf (triplets_at numbers c) (kept xs) (kept ys)
