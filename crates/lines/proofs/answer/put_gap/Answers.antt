-- `lines::answer::put_gap` meets its contract: the word, then the flags.
use Rattle.ground.specs.Bytes.{bytes}
use Rattle.lines.proofs.Answering.{gap-put}
use Rattle.lines.proofs.answer.put_gap.Goals as goal

pub returns : goal.returns
unfolding bytes
returns c =
    gap-put c.args.text.now c.args.state c.put_all-next.ensures c.put_flags.ensures
