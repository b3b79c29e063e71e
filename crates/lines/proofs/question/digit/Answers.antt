-- `lines::question::digit` meets its contract: the library's digits are those of the definition.
use Rattle.lines.proofs.Asking.{digit-some, digit-none}
use Rattle.lines.proofs.question.digit.Goals as goal

pub returns-then-not-is_ascii_digit : goal.returns-then-not-is_ascii_digit
returns-then-not-is_ascii_digit c =
    digit-none c.args.b c.if-not-is_ascii_digit.ensures.cases

pub returns : goal.returns
returns c =
    let some = digit-some c.args.b c.if-not-is_ascii_digit.ensures.cases in rw (c.from.ensures, some)
