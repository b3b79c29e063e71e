-- `steps::step::y_place` meets its contract: by the variable that y leads to.
use mathlib.Core.Path.{sym}
use Rattle.steps.proofs.Placing.{y-first, y-second, y-own}
use Rattle.steps.proofs.step.y_place.Goals as goal

pub returns-then-b-eq0 : goal.returns-then-b-eq0
returns-then-b-eq0 c =
    sym (y-first c.args.a c.args.b c.if-b-eq0.true)

pub returns-then-b-a : goal.returns-then-b-a
returns-then-b-a c =
    sym (y-second c.args.a c.args.b c.if-b-eq0.false c.if-b-a.true)

pub returns : goal.returns
returns c =
    sym (y-own c.args.a c.args.b c.if-b-eq0.false c.if-b-a.false)
