-- `questions::lay_guard` meets its contract: the table of spans says where the guard stands, and laying writes it.
use native.Mathlib.Omega.{arith}
use Rattle.questions.proofs.Guards.{lay-asks, root-small, lay-says}
use Rattle.questions.proofs.lay_guard.Goals as goal

pub overflow_cast-span : goal.overflow_cast-span
overflow_cast-span c =
    omega (arith, root-small c.args.pool.now c.args.spans.now c.args.k c.args.out.now c.args.before c.requires)

pub lay-root-requires : goal.lay-root-requires
lay-root-requires c =
    lay-asks c.args.pool.now c.args.spans.now c.args.k c.args.out.now c.args.before c.requires

pub returns : goal.returns
returns c =
    lay-says c.args.pool.now c.args.spans.now c.args.k c.args.out.now c.args.before _ _ c.lay-root.ensures
