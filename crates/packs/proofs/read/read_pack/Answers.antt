use Rattle.std.proofs.lemmas.Result.{err_from_is_err_and}
use Rattle.packs.proofs.Ending.{starts, refused_says, refused-of}
use Rattle.packs.proofs.read.read_pack.Goals as goal

pub loop-next-init : goal.loop-next-init
loop-next-init c =
    starts c.args.file.now c.args.codes.now c.args.pool.now c.args.spans.now _ c.requires c.note.ensures

pub returns-in_err-next : goal.returns-in_err-next
returns-in_err-next c =
    let p = err_from_is_err_and c.from_residual.result c.from_residual.ensures.1 in
    rw (p.1, p.2) (refused_says c.args.file.now _ _ _ _
    (refused-of c.args.file.now c.loop-next.p c.step_on.result _ _ _ c.step_on.ensures _ c.in_err-next.was))
