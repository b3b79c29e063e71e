-- `steps::step::x_place` meets its contract: a literal of variable 0 is false or true.
use mathlib.Core.Path.{sym}
use Rattle.steps.proofs.Placing.{x-first, x-own}
use Rattle.steps.proofs.step.x_place.Goals as goal

pub returns-then-a-eq0 : goal.returns-then-a-eq0
returns-then-a-eq0 c =
    sym (x-first c.args.a c.if-a-eq0.true)

pub returns : goal.returns
returns c =
    sym (x-own c.args.a c.if-a-eq0.false)
