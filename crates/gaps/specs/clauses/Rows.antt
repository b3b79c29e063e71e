-- What writing the states of a row into a lent slice does.
use Rattle.std.specs.Prelude.{ℕ, ◌+◌, ◌*◌, ◌-◌, ◌^◌, ◌<◌, ◌≡◌, Bool, true, List, ◌++◌, length, take, ltb}
use Rattle.ground.specs.Choice.{choose}
use Rattle.ground.specs.Bits.{bit}
use Rattle.gaps.specs.declared.writing.Found.{Found}
use Rattle.gaps.specs.Writing.{found, placed}
use Rattle.rows.specs.clauses.Rows.{word_flags}
use Rattle.truth.specs.clauses.Words.{word_bits}

-- the states l, written after the first m of the slice
pub record Writes (out : List ℕ) (m : ℕ) (l : List ℕ) (answer : Found) (after : List ℕ) : Type 0 where
  pub answers : answer ≡ found (take m out ++ l) (length out)
  pub holds : after ≡ placed (take m out ++ l) out

-- below start nothing counts as false
unfoldable pub since : ℕ → (ℕ → Bool) → ℕ → Bool
since start v s = choose (ltb s start) true (v s)

-- how many words hold the states of n flags
unfoldable pub words_of : ℕ → ℕ
words_of n = choose (ltb n word_flags) 1 (2 ^ (n - word_flags))

-- the bits that are states of n flags, in each of the words that hold them
abbrev pub LiveWord : ℕ → ℕ → Type 0
LiveWord n r = (w b : ℕ) → w < words_of n → b < word_bits → bit r b ≡ ltb (word_bits * w + b) (2 ^ n)
