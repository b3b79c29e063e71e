-- `steps::step::apart` meets its contract: each test that leads to true tells two variables apart.
use Prim.Native.Nat.{◌/◌}
use mathlib.Core.Path.{sym, ◌∙◌}
use Rattle.steps.proofs.Placing.{own-names, told_apart}
use Rattle.steps.proofs.step.apart.Goals as goal
use Rattle.steps.proofs.step.apart.Goals.{then-b-a, else-b-a}

pub returns-then-c-a : goal.returns-then-c-a
returns-then-c-a c e =
    elim c.if-b-a.branch [
      | then-b-a w ↦ own-names c.args.a c.args.b c.args.c c.if-a-eq0.false c.if-b-eq0.false c.if-c-eq0.false w.if-b-a.true
          (told_apart (c.args.c / 2) (c.args.a / 2) (sym w.value-is ∙ c.if-c-a.true)) (told_apart (c.args.c / 2) (c.args.b / 2) e)
      | else-b-a w ↦ absurd (told_apart (c.args.b / 2) (c.args.a / 2) (sym w.value-is ∙ c.if-c-a.true) w.if-b-a.false)
    ]
