-- `packs::steps::text_step` meets its contract.
use Rattle.packs.proofs.Stepping.{text_says}
use Rattle.packs.proofs.steps.text_step.Goals as goal

pub returns : goal.returns
returns c =
    text_says c.args.file.now c.args.codes.now c.args.pool.now c.args.spans.now c.args.p c.args.start c.args.end c.requires _
    c.note_text.ensures
