-- `questions::lay_whole` meets its contract: the rule, the first variant and the others are laid, and what is tied is the question.
use native.Mathlib.Omega.{arith}
use Rattle.questions.proofs.Whole.{asks-first, asks-others, tie-fits, whole-laid}
use Rattle.questions.proofs.lay_whole.Goals as goal

pub lay_guard-first-requires : goal.lay_guard-first-requires
lay_guard-first-requires c =
    asks-first c.args.pool.now c.args.spans.now c.args.variants c.args.out.now _ _ c.lay_guard-rule.ensures c.requires

pub lay_others-any-requires : goal.lay_others-any-requires
lay_others-any-requires c =
    asks-others c.args.pool.now c.args.spans.now c.args.variants c.args.out.now _ _ c.lay_guard-rule.ensures _ _
    c.lay_guard-first.ensures c.requires

pub tie-root-requires : goal.tie-root-requires
tie-root-requires c =
    let m = tie-fits c.args.pool.now c.args.spans.now c.args.variants c.args.out.now _ _ c.lay_guard-rule.ensures _ _
    c.lay_guard-first.ensures _ _ c.lay_others-any.ensures c.requires in
    record {
      out_len = (c.lay_others-any.ensures.room, m.0);
      left_le_literal_ceiling = (omega (arith, m), omega (arith, m));
    }

pub overflow_add-result : goal.overflow_add-result
overflow_add-result c =
    omega (
      arith,
      (tie-fits c.args.pool.now c.args.spans.now c.args.variants c.args.out.now _ _ c.lay_guard-rule.ensures _ _
          c.lay_guard-first.ensures _ _ c.lay_others-any.ensures c.requires).0,
    )

pub returns : goal.returns
returns c =
    whole-laid c.args.pool.now c.args.spans.now c.args.variants c.args.out.now _ _ c.lay_guard-rule.ensures _ _
    c.lay_guard-first.ensures _ _ c.lay_others-any.ensures _ _ c.tie-root.ensures.0 c.tie-root.ensures.1
