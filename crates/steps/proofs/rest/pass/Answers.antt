use Prim.Native.Nat.{ℕ, ◌*◌}
use mathlib.Core.Path.{◌∙◌, subst}
use native.Mathlib.Omega.{arith}
use Rattle.notation.specs.clauses.Shape.{kind_at, y_at, z_at}
use Rattle.relation.proofs.ClassLaws.{contradictory-told}
use Rattle.steps.specs.clauses.Resting.{in_use, Stepped}
use Rattle.steps.proofs.Resting.{passing-next, passing-done, passing-broken}
use Rattle.steps.proofs.rest.pass.Goals as goal

pub returns-then-is_contradictory-clause-passed : goal.returns-then-is_contradictory-clause-passed
returns-then-is_contradictory-clause-passed c =
    passing-broken c.args.triplets.now c.args.count c.loop-j.j c.args.relation.now.of c.loop-j.relation.of
    (contradictory-told c.loop-j.relation.of c.is_contradictory.ensures c.if-is_contradictory.true) c.loop-j.invariant.passing

pub loop-j-preserved : goal.loop-j-preserved
loop-j-preserved c =
    record {
      size = c.step.ensures.size ∙ c.loop-j.invariant.size;
      passing = passing-next c.args.triplets.now c.args.count c.loop-j.j (2 * in_use c.loop-j.j) c.args.relation.now.of
          c.loop-j.relation.of c.step.new.relation.of c.loop-j-test.true c.loop-j.invariant.passing (omega arith)
          (subst (λ (n : ℕ). Stepped n (kind_at c.args.triplets.now c.loop-j.j) (2 * in_use c.loop-j.j) (y_at c.args.triplets.now c.loop-j.j)
          (z_at c.args.triplets.now c.loop-j.j) c.loop-j.relation.of c.step.new.relation.of) (c.loop-j.invariant.size ∙ c.requires.size)
          c.step.ensures.stepped);
    }

pub returns-clause-passed : goal.returns-clause-passed
returns-clause-passed c =
    passing-done c.args.triplets.now c.args.count c.loop-j.j c.args.relation.now.of c.loop-j.relation.of c.loop-j-test.false
    c.loop-j.invariant.passing
