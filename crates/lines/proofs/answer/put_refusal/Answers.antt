-- `lines::answer::put_refusal` meets its contract: the word, the number, a space and the place.
use mathlib.Core.List.{[]}
use Rattle.ground.specs.Bytes.{bytes}
use Rattle.lines.proofs.Answering.{refusal-put}
use Rattle.lines.proofs.answer.put_refusal.Goals as goal

pub returns : goal.returns
unfolding bytes
returns c =
    refusal-put [] c.args.refusal c.put_all-number.ensures (rw c.number.ensures at c.put_number-space.ensures) c.put-place.ensures c.put_number.ensures
