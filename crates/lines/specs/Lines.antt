-- How an input is cut into lines.
use Rattle.std.specs.Prelude.{ℕ, List, [], ◌∷◌, eqb}
use Rattle.ground.specs.Choice.{choose}

-- LF
abbrev pub line_feed : ℕ
line_feed = 10

-- a byte in front of the first line; where there is none, it is a line of its own
unfoldable pub onto : ℕ → List (List ℕ) → List (List ℕ)
onto b [] = (b ∷ []) ∷ []
onto b (l ∷ ls) = (b ∷ l) ∷ ls

-- a line ends at its LF, the last one at the end of the input; a final LF opens no further line
unfoldable pub lines : List ℕ → List (List ℕ)
lines [] = []
lines (b ∷ rest) = choose (eqb b line_feed) ([] ∷ lines rest) (onto b (lines rest))
