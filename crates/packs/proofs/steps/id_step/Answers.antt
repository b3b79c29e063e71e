-- `packs::steps::id_step` meets its contract.
use native.Mathlib.Omega.{arith}
use Rattle.packs.proofs.Stepping.{empty-says, long-says, id-says}
use Rattle.packs.proofs.steps.id_step.Goals as goal

pub returns-then-len-eq0 : goal.returns-then-len-eq0
returns-then-len-eq0 c =
    rw c.fault.ensures (empty-says c.args.file.now c.args.codes.now c.args.pool.now c.args.spans.now c.args.p c.args.start
    c.args.end c.requires (omega arith))

pub returns-then-len-gt-ID : goal.returns-then-len-gt-ID
returns-then-len-gt-ID c =
    rw c.fault-then-len-gt-ID.ensures (long-says c.args.file.now c.args.codes.now c.args.pool.now c.args.spans.now c.args.p c.args.start
    c.args.end c.requires (omega arith))

pub returns : goal.returns
returns c =
    id-says c.args.file.now c.args.codes.now c.args.pool.now c.args.spans.now c.args.p c.args.start c.args.end c.requires
    (λ q. omega arith) (omega arith)
