-- `lines::answer::put_answer` meets its contract: by the two cases.
use Rattle.lines.specs.Printed.{answered}
use Rattle.lines.proofs.Answering.{verdict-as}
use Rattle.lines.proofs.answer.put_answer.Goals as goal

pub returns-in-Err : goal.returns-in-Err
unfolding answered
returns-in-Err c = verdict-as c.args.text.now c.in-Err.is c.put_refusal.ensures
