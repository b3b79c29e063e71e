-- What covercheck answers to a line.
use Rattle.std.specs.Prelude.{ℕ, ◌≤◌, ◌≡◌, List, ◌++◌, length, drop}
use Rattle.guard_check.specs.Check.{Checking}
use Rattle.lines.specs.Question.{guard_of, LineSays}
use Rattle.lines.specs.Printed.{printed}

-- the bytes are the output line for a line with this number
pub record AnswerLine (number : ℕ) (line bytes : List ℕ) : Type 0 where
  pub verdict : Checking
  pub says : LineSays line verdict
  pub text : bytes ≡ printed number (guard_of line) verdict

-- the room afterwards: the r bytes of the output line, and behind them what stood there before
pub record Answers (number : ℕ) (line before after : List ℕ) (r : ℕ) : Type 0 where
  pub output : List ℕ
  pub answer : AnswerLine number line output
  pub count : r ≡ length output
  pub inside : r ≤ length after
  pub holds : after ≡ output ++ drop r before
