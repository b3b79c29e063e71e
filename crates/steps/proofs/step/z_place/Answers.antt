-- `steps::step::z_place` meets its contract: by the variable that z leads to.
use mathlib.Core.Path.{sym}
use Rattle.steps.proofs.Placing.{z-first, z-second, z-third, z-own}
use Rattle.steps.proofs.step.z_place.Goals as goal

pub returns-then-c-eq0 : goal.returns-then-c-eq0
returns-then-c-eq0 c =
    sym (z-first c.args.a c.args.b c.args.c c.if-c-eq0.true)

pub returns-then-c-a : goal.returns-then-c-a
returns-then-c-a c =
    sym (z-second c.args.a c.args.b c.args.c c.if-c-eq0.false c.if-c-a.true)

pub returns-then-c-b : goal.returns-then-c-b
returns-then-c-b c =
    sym (z-third c.args.a c.args.b c.args.c c.if-c-eq0.false c.if-c-a.false c.if-c-b.true)

pub returns : goal.returns
returns c =
    sym (z-own c.args.a c.args.b c.args.c c.if-c-eq0.false c.if-c-a.false c.if-c-b.false)
