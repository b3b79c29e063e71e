-- What appending bytes to a lent slice does, and the room that it takes.
use Rattle.std.specs.Prelude.{ℕ, ◌+◌, ◌*◌, ◌≤◌, ◌<◌, ◌≡◌, List, ◌++◌, length, take, drop}
use Rattle.notation.specs.Ceilings.{code_ceiling, flag_ceiling}
use Rattle.notation.specs.clauses.Codes.{code_in, InText}
use Rattle.notation.specs.declared.codes.Code.{Code}

-- the bytes stand in the slice from a place on, up to r; what stood before and behind them still does
pub record Puts (before : List ℕ) (place : ℕ) (bytes after : List ℕ) (r : ℕ) : Type 0 where
  pub next : r ≡ place + length bytes
  pub holds : after ≡ take place before ++ (bytes ++ drop r before)
  pub long : length after ≡ length before

-- the same, in so much room
pub record PutsIn (room : ℕ) (before : List ℕ) (place : ℕ) (bytes after : List ℕ) (r : ℕ) : Type 0 where
  pub puts : Puts before place bytes after r
  pub within : r ≤ place + room

-- a table of k codes of a text, all within their ceilings
pub record CodeTable (text : List ℕ) (codes : List Code) (k : ℕ) : Type 0 where
  pub in_text : InText text codes k
  pub few : k ≤ flag_ceiling
  pub short : (i : ℕ) → i < k → length (code_in text codes i) ≤ code_ceiling

-- digits of a number of 64 bits
abbrev pub number_room : ℕ
number_room = 20

-- a flag with its value: a space, the code, `=` and a digit
abbrev pub value_room : ℕ
value_room = code_ceiling + 3

-- the longest verdict is a gap of as many flags as there may be
abbrev pub verdict_room : ℕ
verdict_room = 3 + value_room * flag_ceiling

-- any output line
abbrev pub answer_room : ℕ
answer_room = 512
