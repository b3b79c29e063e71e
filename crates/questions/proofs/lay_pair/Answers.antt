-- `questions::lay_pair` meets its contract: the rule and both variants find room one behind the other, and what is tied is the question.
use native.Mathlib.Omega.{arith}
use Rattle.questions.proofs.Pairs.{tied-small, flipped-small, asks-left, asks-right, count_fits, smalls, both-room, pair-laid}
use Rattle.questions.proofs.lay_pair.Goals as goal

pub lay_guard-left-requires : goal.lay_guard-left-requires
lay_guard-left-requires c =
    asks-left c.args.pool.now c.args.spans.now c.args.i c.args.j c.args.out.now c.requires _ _ c.lay_guard-given.ensures

pub lay_guard-right-requires : goal.lay_guard-right-requires
lay_guard-right-requires c =
    asks-right c.args.pool.now c.args.spans.now c.args.i c.args.j c.args.out.now c.requires _ _ c.lay_guard-given.ensures _ _
    c.lay_guard-left.ensures

pub tie-both-requires : goal.tie-both-requires
tie-both-requires c =
    let p = count_fits c.args.pool.now c.args.spans.now c.args.i c.args.j c.args.out.now c.requires _ _ c.lay_guard-given.ensures _ _
    c.lay_guard-left.ensures _ _ c.lay_guard-right.ensures in
    let m = smalls c.args.pool.now c.args.spans.now c.args.i c.args.j c.args.out.now c.requires _ _ c.lay_guard-given.ensures _ _
    c.lay_guard-left.ensures _ _ c.lay_guard-right.ensures in
    record {
      out_len = (c.lay_guard-right.ensures.room, omega (arith, p));
      left_le_literal_ceiling = (omega (arith, m), omega (arith, m));
    }

pub overflow_add-right : goal.overflow_add-right
overflow_add-right c =
    omega (
      arith,
      count_fits c.args.pool.now c.args.spans.now c.args.i c.args.j c.args.out.now c.requires _ _ c.lay_guard-given.ensures _ _
          c.lay_guard-left.ensures _ _ c.lay_guard-right.ensures,
    )

pub flipped-requires : goal.flipped-requires
flipped-requires c =
    let p = count_fits c.args.pool.now c.args.spans.now c.args.i c.args.j c.args.out.now c.requires _ _ c.lay_guard-given.ensures _ _
    c.lay_guard-left.ensures _ _ c.lay_guard-right.ensures in
    omega (arith, tied-small _ _ _ c.tie-both.ensures.0 (omega (arith, p)))

pub tie-root-requires : goal.tie-root-requires
tie-root-requires c =
    let p = count_fits c.args.pool.now c.args.spans.now c.args.i c.args.j c.args.out.now c.requires _ _ c.lay_guard-given.ensures _ _
    c.lay_guard-left.ensures _ _ c.lay_guard-right.ensures in
    let m = smalls c.args.pool.now c.args.spans.now c.args.i c.args.j c.args.out.now c.requires _ _ c.lay_guard-given.ensures _ _
    c.lay_guard-left.ensures _ _ c.lay_guard-right.ensures in
    record {
      out_len = (
        both-room c.args.pool.now c.args.spans.now c.args.i c.args.j c.args.out.now c.requires _ _ c.lay_guard-given.ensures _ _
            c.lay_guard-left.ensures _ _ c.lay_guard-right.ensures _ _ _ _ c.tie-both.ensures.1,
        omega (arith, p),
      );
      left_le_literal_ceiling = (omega (arith, m), flipped-small _ _ _ c.flipped.ensures (tied-small _ _ _ c.tie-both.ensures.0 (omega (arith, p))));
    }

pub overflow_add-result : goal.overflow_add-result
overflow_add-result c =
    omega (
      arith,
      count_fits c.args.pool.now c.args.spans.now c.args.i c.args.j c.args.out.now c.requires _ _ c.lay_guard-given.ensures _ _
          c.lay_guard-left.ensures _ _ c.lay_guard-right.ensures,
    )

pub returns : goal.returns
returns c =
    pair-laid c.args.pool.now c.args.spans.now c.args.i c.args.j c.args.out.now c.requires _ _ c.lay_guard-given.ensures _ _
    c.lay_guard-left.ensures _ _ c.lay_guard-right.ensures _ _ _ _ _
    c.tie-both.ensures.0 c.tie-both.ensures.1 c.flipped.ensures c.tie-root.ensures.0 c.tie-root.ensures.1
