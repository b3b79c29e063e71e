-- What a line asks: a depth of one or two digits, one space, a guard.
use Rattle.std.specs.Prelude.{ℕ, ◌+◌, ◌*◌, ◌-◌, ◌≡◌, Bool, List, [], get_or, drop, eqb, Option, Some, None, Err}
use Rattle.notation.specs.Tokens.{among}
use Rattle.notation.specs.declared.refusal.Reason.TheVariants.{MalformedLine}
use Rattle.ground.specs.Choice.{choose}
use Rattle.guard_check.specs.Check.{Checking, CheckSays}
use Rattle.lines.specs.declared.question.Question.{Question}

-- the byte i of a line, 0 past its end
abbrev pub byte_at : List ℕ → ℕ → ℕ
byte_at line i = get_or line i 0

-- `0` to `9`
abbrev pub is_digit : ℕ → Bool
is_digit b = among 48 57 b

-- the number that a digit stands for
abbrev pub digit_value : ℕ → ℕ
digit_value b = b - 48

-- a depth, and where the guard starts in the line
abbrev pub asks : ℕ → ℕ → Option Question
asks d s = Some (record { depth = d; start = s })

-- one digit and a space, or two digits and a space; the guard starts after the space
unfoldable pub question : List ℕ → Option Question
question line =
    choose (is_digit (byte_at line 0))
    (choose (eqb (byte_at line 1) 32) (asks (digit_value (byte_at line 0)) 2)
    (choose (is_digit (byte_at line 1))
    (choose (eqb (byte_at line 2) 32) (asks (10 * digit_value (byte_at line 0) + digit_value (byte_at line 1)) 3) None)
    None))
    None

-- the guard that a question asks about
abbrev pub guard_in : List ℕ → Option Question → List ℕ
guard_in line None = []
guard_in line (Some q) = drop q.start line

-- a line that is not of the form is refused 12; else check answers
abbrev pub QuestionSays : List ℕ → Option Question → Checking → Type 0
QuestionSays line None r = r ≡ Err (record { reason = MalformedLine; place = 0 })
QuestionSays line (Some q) r = CheckSays (drop q.start line) q.depth r

-- the guard of a line
abbrev pub guard_of : List ℕ → List ℕ
guard_of line = guard_in line (question line)

-- the verdict on a line
abbrev pub LineSays : List ℕ → Checking → Type 0
LineSays line r = QuestionSays line (question line) r
