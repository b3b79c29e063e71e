-- What cutting one line off an input does, and which line of the input it is.
use Rattle.std.specs.Prelude.{ℕ, ◌+◌, ◌≤◌, ◌<◌, ◌≡◌, List, [], ◌∷◌, ◌++◌, length, drop}
use Rattle.notation.specs.clauses.Cut.{part}
use Rattle.lines.specs.Lines.{lines}

-- the line that starts at a place of the input ends at r; the next one starts after r
pub record LineEnd (input : List ℕ) (start r : ℕ) : Type 0 where
  pub later : start ≤ r
  pub inside : r ≤ length input
  pub cut : lines (drop start input) ≡ part start r input ∷ lines (drop (r + 1) input)

-- going through an input from a place on, each line's end found from its start, meets these lines
pub data Through (input : List ℕ) : ℕ → List (List ℕ) → Type 0 where
  ended : {start : ℕ} → length input ≤ start → Through input start []
  line : {start r : ℕ} {ls : List (List ℕ)} → start < length input → LineEnd input start r → Through input (r + 1) ls → Through input start
      (part start r input ∷ ls)

-- n lines of the input stand before a place, and the others start there
pub record LinesBefore (input : List ℕ) (n start : ℕ) : Type 0 where
  pub passed : List (List ℕ)
  pub count : length passed ≡ n
  pub whole : lines input ≡ passed ++ lines (drop start input)

-- the line with this number, counted from 1, is what stands in the input from start up to end
pub record LineAt (input : List ℕ) (number start end : ℕ) : Type 0 where
  pub passed : List (List ℕ)
  pub left : List (List ℕ)
  pub count : length passed + 1 ≡ number
  pub whole : lines input ≡ passed ++ (part start end input ∷ left)
  pub later : start ≤ end
  pub inside : end ≤ length input
