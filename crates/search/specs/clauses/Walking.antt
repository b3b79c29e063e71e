-- What the walk over the states asks and promises.
use Rattle.std.specs.Prelude.{ℕ, suc, ◌+◌, ◌*◌, ◌%◌, ◌^◌, ◌≤◌, ◌≡◌, Bool, List, length}
use Rattle.notation.specs.Ceilings.{connective_ceiling}
use Rattle.notation.specs.Triplets.{triplet_variable}
use Rattle.gaps.specs.declared.writing.Found.{Found}
use Rattle.gaps.specs.Gaps.{false_from}
use Rattle.rows.specs.clauses.Rows.{FlagRows}
use Rattle.truth.specs.clauses.Words.{word_bits}
use Rattle.gaps.specs.clauses.Rows.{Writes, since}

-- the widest rows have 2^widest words, and so hold the states of so many more flags than a word
abbrev pub widest : ℕ
widest = 5

-- rows of so many words for all variables, with room for the states of so many flags, whose rows are right
pub record Rows (low width : ℕ) (rows : List ℕ) : Type 0 where
  pub enough : 2 ^ low ≤ word_bits * width
  pub long : triplet_variable (suc connective_ceiling) * width ≤ length rows
  pub right : FlagRows low width rows

-- a stretch of 2^n states that starts at a multiple of 2^n and that 32 bits hold, with some room behind it
pub record Stretch (n width base : ℕ) : Type 0 where
  pub aligned : base % 2 ^ n ≡ 0
  pub small : base + 2 ^ n + word_bits * width + word_bits ≤ 2 ^ 32

-- the states of a stretch, from start on, at which v is false, are written; the rows can be used again
pub record Walked (v : ℕ → Bool) (start base n low width from : ℕ) (out : List ℕ) (r : Found) (out' rows' : List ℕ) : Type 0 where
  pub writes : Writes out from (false_from (since start v) base (2 ^ n)) r out'
  pub right : FlagRows low width rows'
