-- k-saturation: the least relation that no step enlarges and that holds what both sides of each split share.
use Rattle.std.specs.Prelude.{ℕ, zero, suc, ◌+◌, ◌*◌, ◌≤◌, ◌<◌, ◌≡◌, true, false, ◌&&◌, ◌||◌, List, [], ◌∷◌, eqb}
use Rattle.notation.specs.Triplets.{Triplet}
use Rattle.relation.specs.Relation.{Rel, Forced}
use Rattle.relation.specs.Least.{Least}
use Rattle.steps.specs.Rest.{NoStepEnlarges}

-- R with the literal k taken as true
unfoldable pub taking : Rel → ℕ → Rel
taking R k l m = R l m || (eqb l k && eqb m 0)

-- the literals of a list taken as true, and nothing else
unfoldable pub taken : List ℕ → Rel
taken [] l m = false
taken (k ∷ ks) l m = taking (taken ks) k l m

-- no step enlarges S; and for each variable f of D it holds all that is common
-- to the saturations, one less deep, of S with f true and of S with f false
abbrev pub Stable : (ℕ → Type 0) → List Triplet → ℕ → Rel → Type 0
Stable D ts zero S = NoStepEnlarges ts S
Stable D ts (suc k) S =
    NoStepEnlarges ts S
    × ((f l m : ℕ) → D f
    → Forced (Stable D ts k) (taking S (2 * f)) l m
    → Forced (Stable D ts k) (taking S (2 * f + 1)) l m
    → S l m ≡ true)

-- l = m is in the k-saturation of R
abbrev pub Saturated : (ℕ → Type 0) → List Triplet → ℕ → Rel → ℕ → ℕ → Type 0
Saturated D ts k R l m = Forced (Stable D ts k) R l m

-- T is the k-saturation of R
abbrev pub SaturationOf : (ℕ → Type 0) → List Triplet → ℕ → Rel → Rel → Type 0
SaturationOf D ts k R T = Least (Stable D ts k) R T

-- the variables that are split: the flags 1 to n
abbrev pub Flags : ℕ → ℕ → Type 0
Flags n f = (0 < f) × (f ≤ n)
