-- The number that a digit stands for.
use Rattle.std.specs.Prelude.{ℕ, Option, Some, None}
use Rattle.ground.specs.Choice.{choose}
use Rattle.lines.specs.Question.{is_digit, digit_value}

-- none where the byte is no digit
unfoldable pub digit : ℕ → Option ℕ
digit b = choose (is_digit b) (Some (digit_value b)) None
