-- `packs::steps::field_step` meets its contract: each role has its step.
use mathlib.Core.Path.{sym, ◌∙◌}
use Rattle.packs.proofs.Stepping.{wrong-says}
use Rattle.packs.proofs.steps.field_step.Goals as goal

pub returns-in-Wrong : goal.returns-in-Wrong
returns-in-Wrong c =
    rw c.fault.ensures
    (wrong-says c.args.file.now c.args.codes.now c.args.pool.now c.args.spans.now c.args.p c.args.start c.args.end
    (record { going = c.requires.going; field = record { tag = c.args.tag; here = c.requires.field_here; role = sym c.role_of.ensures ∙ c.in-Wrong.is } }))
