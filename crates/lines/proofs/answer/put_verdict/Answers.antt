-- `lines::answer::put_verdict` meets its contract: by the three cases.
use mathlib.Core.Path.{ap}
use Rattle.std.specs.Prelude.{Ok}
use Rattle.ground.specs.Bytes.{bytes}
use Rattle.lines.proofs.Answering.{covered-put, undecided-put, verdict-as}
use Rattle.lines.proofs.answer.put_verdict.Goals as goal

pub returns-in-Covered : goal.returns-in-Covered
unfolding bytes
returns-in-Covered c =
    verdict-as c.args.text.now (ap Ok c.in-Covered.is) (covered-put c.args.text.now c.put_all.ensures)

pub returns-in-Undecided : goal.returns-in-Undecided
unfolding bytes
returns-in-Undecided c =
    verdict-as c.args.text.now (ap Ok c.in-Undecided.is) (undecided-put c.args.text.now c.put_all-in-Undecided.ensures)
