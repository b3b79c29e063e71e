-- What each entry of the C side answers, for all inputs: the packed number of what its service answers.
use Rattle.std.specs.Prelude.{ℕ, ◌≡◌, List, length}
use Rattle.notation.specs.Reading.{reading}
use Rattle.reading.specs.Service.{read_answer, room_after, name_answer}
use Rattle.evaluate.specs.Evaluated.{evaluated}
use Rattle.list.specs.Listed.{listed, filled}
use Rattle.guard_check.specs.Check.{Checking, CheckSays}
use Rattle.importer.specs.Packed.{packed_answer, packed_verdict, packed_value, packed_found, packed_guard, packed_stretch}

-- check answers the number of the verdict on the text at the depth
pub record CheckAnswers (text : List ℕ) (depth r : ℕ) : Type 0 where
  pub verdict : Checking
  pub says : CheckSays text depth verdict
  pub number : r ≡ packed_answer packed_verdict verdict

-- evaluate answers the number of the guard's value in the state
abbrev pub evaluate_number : List ℕ → ℕ → ℕ
evaluate_number text state = packed_answer packed_value (evaluated (reading text) state)

-- list answers the number of what it found, and the slice holds the gaps
pub record ListAnswers (text : List ℕ) (start : ℕ) (out : List ℕ) (r : ℕ) (after : List ℕ) : Type 0 where
  pub number : r ≡ packed_answer packed_found (listed (reading text) start (length out))
  pub holds : after ≡ filled (reading text) start out

-- read answers the number of the guard, and the room holds its triplets
pub record ReadAnswers (text room : List ℕ) (r : ℕ) (after : List ℕ) : Type 0 where
  pub number : r ≡ packed_answer packed_guard (read_answer (reading text) (length room))
  pub holds : after ≡ room_after (reading text) room

-- name answers the number of the part where flag i first stands
abbrev pub name_number : List ℕ → ℕ → ℕ
name_number text i = packed_answer packed_stretch (name_answer (reading text) i)
