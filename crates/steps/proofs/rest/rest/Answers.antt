use Prim.Native.Nat.{ℕ}
use mathlib.Core.Path.{◌≡◌, refl, ◌∙◌, ap}
use native.Mathlib.Omega.{arith}
use Rattle.relation.specs.clauses.Classes.{entry, rank}
use Rattle.relation.proofs.ClassLaws.{classes-at}
use Rattle.relation.proofs.RankLaws.{rank_most}
use Rattle.steps.proofs.Resting.{settling-start, settling-next, settling-done}
use Rattle.steps.proofs.rest.rest.Goals as goal

pub overflow_add-was : goal.overflow_add-was
overflow_add-was c =
    omega (
      arith,
      c.rank-left.ensures,
      rank_most c.args.relation.now.size (entry c.args.relation.now.of),
      c.args.relation.now.classes.fits,
    )

pub loop-left-init : goal.loop-left-init
loop-left-init c =
    record {
      size = refl;
      settling = settling-start c.args.triplets.now c.args.count c.args.relation.now.of c.rank-left.result
          (classes-at c.requires.size c.args.relation.now.classes)
          (c.rank-left.ensures ∙ ap (λ (n : ℕ). rank n (entry c.args.relation.now.of)) c.requires.size);
    }

pub loop-left-preserved : goal.loop-left-preserved
loop-left-preserved c =
    let same : c.pass.new.relation.size ≡ c.args.relation.now.size = c.pass.ensures.size ∙ c.loop-left.invariant.size in
    record {
      size = same;
      settling = settling-next c.args.triplets.now c.args.count c.args.relation.now.of c.loop-left.relation.of c.pass.new.relation.of
          c.loop-left.left c.loop-left.was c.rank-left-in-loop-left.result c.loop-left.invariant.settling c.pass.ensures.passed
          (c.rank-left-in-loop-left.ensures ∙ ap (λ (n : ℕ). rank n (entry c.pass.new.relation.of)) (same ∙ c.requires.size));
    }

pub returns-clause-rested : goal.returns-clause-rested
returns-clause-rested c =
    settling-done c.args.triplets.now c.args.count c.args.relation.now.of c.loop-left.relation.of c.loop-left.left c.loop-left.was
    c.loop-left-test.false c.loop-left.invariant.settling
