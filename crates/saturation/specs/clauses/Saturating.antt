-- What saturate, a pass over the flags and a split do, said of the relation that an array keeps.
use Rattle.std.specs.Prelude.{ℕ, suc, ◌+◌, ◌*◌, ◌≡◌, true, List, ◌⊎◌}
use Rattle.notation.specs.Triplets.{Triplet}
use Rattle.relation.specs.Relation.{Rel, Within}
use Rattle.relation.specs.clauses.Growing.{Growth}
use Rattle.relation.specs.clauses.Classes.{Classes, kept}
use Rattle.steps.specs.Rest.{NoStepEnlarges}
use Rattle.steps.specs.clauses.Resting.{in_use, triplets_at}
use Rattle.saturation.specs.Saturation.{taking, Stable, Saturated, SaturationOf, Flags}

-- S ties the variable f to true or to false
abbrev pub Ties : Rel → ℕ → Type 0
Ties S f = (S (2 * f) 0 ≡ true) ⊎ (S (2 * f + 1) 0 ≡ true)

-- S holds what both sides of a split on f, saturated at depth k, share
abbrev pub HoldsSplit : (ℕ → Type 0) → List Triplet → ℕ → ℕ → Rel → Type 0
HoldsSplit D ts k f S =
    (l m : ℕ) → Saturated D ts k (taking S (2 * f)) l m → Saturated D ts k (taking S (2 * f + 1)) l m → S l m ≡ true

-- ys keeps the k-saturation of the relation of xs, by the first c triplets and splits on flags 1 to n
pub record SaturatedTo (numbers : List ℕ) (c n k : ℕ) (xs ys : List ℕ) : Type 0 where
  pub classes : Classes (in_use c) ys
  pub least : SaturationOf (Flags n) (triplets_at numbers c) k (kept xs) (kept ys)

-- on the way from xs to what is stable one deeper than k: ys is at rest
pub record Nearer (numbers : List ℕ) (c n k : ℕ) (xs ys : List ℕ) : Type 0 where
  pub classes : Classes (in_use c) ys
  pub grown : Growth (Stable (Flags n) (triplets_at numbers c) (suc k)) (kept xs) (kept ys)
  pub rests : NoStepEnlarges (triplets_at numbers c) (kept ys)

-- xs ties the flag f, or holds what both sides of a split on it share
abbrev pub Tried : List ℕ → ℕ → ℕ → ℕ → List ℕ → ℕ → Type 0
Tried numbers c n k xs f = Ties (kept xs) f ⊎ HoldsSplit (Flags n) (triplets_at numbers c) k f (kept xs)

-- a split on the flag f: where it adds nothing, there was nothing to add
pub record Divided (numbers : List ℕ) (c n k f : ℕ) (xs ys : List ℕ) : Type 0 where
  pub nearer : Nearer numbers c n k xs ys
  pub idle : Within (kept ys) (kept xs) → Tried numbers c n k xs f

-- a pass over the flags: where it adds nothing, no split on a flag does
pub record Swept (numbers : List ℕ) (c n k : ℕ) (xs ys : List ℕ) : Type 0 where
  pub nearer : Nearer numbers c n k xs ys
  pub idle : Within (kept ys) (kept xs) → (f : ℕ) → Flags n f → Tried numbers c n k xs f
