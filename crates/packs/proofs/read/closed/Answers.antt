-- `packs::read::closed` meets its contract: one sum decides for every question.
use native.Mathlib.Omega.{arith}
use mathlib.Core.Path.{refl}
use Rattle.packs.proofs.Ending.{over-says, line-says}
use Rattle.packs.proofs.read.closed.Goals as goal

pub returns-then-p-gt-CONNECTIVES : goal.returns-then-p-gt-CONNECTIVES
returns-then-p-gt-CONNECTIVES c =
    over-says c.args.file.now c.args.codes.now c.args.pool.now c.args.spans.now c.args.p c.requires (omega arith) _ (rw c.fault.ensures)

pub returns : goal.returns
returns c =
    line-says c.args.file.now c.args.codes.now c.args.pool.now c.args.spans.now c.args.p c.requires (omega arith) _ refl
