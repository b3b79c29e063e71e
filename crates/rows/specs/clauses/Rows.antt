-- The values of variables in many states at once: 64 states to a word, a row of words to a variable.
use Rattle.std.specs.Prelude.{ℕ, suc, ◌+◌, ◌*◌, ◌-◌, ◌/◌, ◌%◌, ◌^◌, ◌≤◌, ◌<◌, ◌≡◌, Bool, true, List, length, get_or, eqb}
use Rattle.ground.specs.Choice.{choose}
use Rattle.notation.specs.Triplets.{triplet_variable}
use Rattle.notation.specs.clauses.Shape.{kind_at, y_at, z_at}
use Rattle.ground.specs.Bits.{bit}
use Rattle.truth.specs.Connectives.{gate}
use Rattle.truth.specs.clauses.Computed.{literal_value, Valued}
use Rattle.truth.specs.clauses.Words.{word_bits}

-- flags whose states one word holds
abbrev pub word_flags : ℕ
word_flags = 6

-- the word of all ones
abbrev pub all_ones : ℕ
all_ones = 2 ^ word_bits - 1

-- the value of the variable v in the state s, as rows of so many words have it
unfoldable pub in_row : List ℕ → ℕ → ℕ → ℕ → Bool
in_row rows width s v = bit (get_or rows (v * width + s / word_bits) 0) (s % word_bits)

-- all ones for a negated literal, else zero
unfoldable pub turned : ℕ → ℕ
turned l = choose (eqb (l % 2) 0) 0 all_ones

-- the row of words from x on is made, so that R holds of each word's place and the word, and no word before it is changed
pub record RowMade (rows : List ℕ) (x width : ℕ) (R : ℕ → ℕ → Type 0) (after : List ℕ) : Type 0 where
  pub long : length after ≡ length rows
  pub made : (w : ℕ) → w < width → R w (get_or after (x + w) 0)
  pub kept : (k : ℕ) → k < x → get_or after k 0 ≡ get_or rows k 0

-- each word of the row from x on is what an operation makes of those from y on and from z on
abbrev pub RowOf : (ℕ → ℕ → ℕ) → List ℕ → ℕ → ℕ → ℕ → ℕ → List ℕ → Type 0
RowOf op rows x y z width after = RowMade rows x width (λ w r. r ≡ op (get_or rows (y + w) 0) (get_or rows (z + w) 0)) after

-- the row of triplet j is what its operands' rows make of it, in every state, and no row before it is changed
pub record TripletMade (xs : List ℕ) (j : ℕ) (rows : List ℕ) (width : ℕ) (after : List ℕ) : Type 0 where
  pub long : length after ≡ length rows
  pub made : (s : ℕ) → s < word_bits * width
      → in_row after width s (triplet_variable (suc j)) ≡ gate (kind_at xs j) (literal_value (in_row rows width s) (y_at xs j))
      (literal_value (in_row rows width s) (z_at xs j))
  pub kept : (s v : ℕ) → s < word_bits * width → v < triplet_variable (suc j) → in_row after width s v ≡ in_row rows width s v

-- the rows of true and of n flags are right, in every state
pub record FlagRows (n width : ℕ) (rows : List ℕ) : Type 0 where
  pub top : (s : ℕ) → s < word_bits * width → in_row rows width s 0 ≡ true
  pub flags : (s i : ℕ) → s < word_bits * width → 0 < i → i ≤ n → in_row rows width s i ≡ bit s (n - i)

-- the rows of true, of n flags and of c triplets are right, in every state
pub record Evaluated (n width : ℕ) (xs : List ℕ) (c : ℕ) (rows after : List ℕ) : Type 0 where
  pub long : length after ≡ length rows
  pub valued : (s : ℕ) → s < word_bits * width → Valued n s c xs (in_row after width s)

-- the word holds bit p of each of the 64 states of word w
abbrev pub WordOf : ℕ → ℕ → ℕ → Type 0
WordOf p w r = (b : ℕ) → b < word_bits → bit r b ≡ bit (word_bits * w + b) p

-- the rows of true and of n flags are made
pub record FlagsMade (n width : ℕ) (rows after : List ℕ) : Type 0 where
  pub long : length after ≡ length rows
  pub right : FlagRows n width after
