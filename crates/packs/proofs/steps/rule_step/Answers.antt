-- `packs::steps::rule_step` meets its contract.
use native.Mathlib.Omega.{arith}
use Rattle.std.proofs.lemmas.Result.{err_from_is_err_and}
use Rattle.packs.specs.declared.due.Role.TheVariants as is
use Rattle.packs.proofs.Stepping.{guard-asks, rule-says-refused, rule-says-on}
use Rattle.packs.proofs.steps.rule_step.Goals as goal

pub read_guard-requires : goal.read_guard-requires
read_guard-requires c =
    guard-asks c.args.file.now c.args.codes.now c.args.pool.now c.args.spans.now c.args.p is.Rule c.args.start c.args.end c.requires _
    (omega arith)

pub returns-in_err-guard : goal.returns-in_err-guard
returns-in_err-guard c =
    let p = err_from_is_err_and c.from_residual.result c.from_residual.ensures.1 in
    rw (p.1, p.2) (rule-says-refused c.args.file.now c.args.codes.now c.args.pool.now c.args.spans.now c.args.p c.args.start c.args.end
    c.read_guard.result _ _ _ c.requires c.read_guard.ensures _ c.in_err-guard.was)

pub returns : goal.returns
returns c =
    rule-says-on c.args.file.now c.args.codes.now c.args.pool.now c.args.spans.now c.args.p c.args.start c.args.end
    c.read_guard.result _ _ _ c.requires c.read_guard.ensures _ c.in_ok-guard.was
