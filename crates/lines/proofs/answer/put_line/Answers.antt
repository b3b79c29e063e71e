-- `lines::answer::put_line` meets its contract: the line number, a space, the verdict and LF.
use Rattle.ground.specs.Bytes.{bytes}
use Rattle.lines.proofs.Answering.{line-put}
use Rattle.lines.proofs.answer.put_line.Goals as goal

pub returns : goal.returns
unfolding bytes
returns c =
    line-put c.args.number c.args.text.now c.args.verdict c.put_number-space.ensures c.put-answer.ensures c.put_answer-end.ensures c.put.ensures
