use native.Mathlib.Omega.{arith}
use Rattle.questions.proofs.Others.{grown-start, done, asks-next, more-fits, right-small, grown-more}
use Rattle.questions.proofs.lay_others.Goals as goal

pub loop-k-init : goal.loop-k-init
loop-k-init c =
    grown-start c.args.pool.now c.args.spans.now c.args.variants c.args.out.now c.args.first c.requires

pub lay_guard-right-requires : goal.lay_guard-right-requires
lay_guard-right-requires c =
    asks-next c.args.pool.now c.args.spans.now c.args.variants c.args.out.now c.args.first c.requires
    c.loop-k.out c.loop-k.count c.loop-k.root c.loop-k.k c.loop-k.invariant (omega arith)

pub tie-root-requires : goal.tie-root-requires
tie-root-requires c =
    let p = more-fits c.args.pool.now c.args.spans.now c.args.variants c.args.out.now c.args.first c.requires
    c.loop-k.out c.loop-k.count c.loop-k.root c.loop-k.k c.loop-k.invariant (omega arith) _ _ c.lay_guard-right.ensures in
    let m = right-small c.args.pool.now c.args.spans.now c.args.variants c.args.out.now c.args.first c.requires
    c.loop-k.out c.loop-k.count c.loop-k.root c.loop-k.k c.loop-k.invariant (omega arith) _ _ c.lay_guard-right.ensures in
    record {
      out_len = (c.lay_guard-right.ensures.room, omega (arith, p));
      left_le_literal_ceiling = (omega (arith, m, c.loop-k.invariant.small), omega (arith, m, c.loop-k.invariant.small));
    }

pub overflow_add-count : goal.overflow_add-count
overflow_add-count c =
    omega (
      arith,
      more-fits c.args.pool.now c.args.spans.now c.args.variants c.args.out.now c.args.first c.requires
          c.loop-k.out c.loop-k.count c.loop-k.root c.loop-k.k c.loop-k.invariant (omega arith) _ _ c.lay_guard-right.ensures,
    )

pub loop-k-preserved : goal.loop-k-preserved
loop-k-preserved c =
    grown-more c.args.pool.now c.args.spans.now c.args.variants c.args.out.now c.args.first c.requires
    c.loop-k.out c.loop-k.count c.loop-k.root c.loop-k.k c.loop-k.invariant (omega arith) _ _ c.lay_guard-right.ensures _ _
    c.tie-root.ensures.0 c.tie-root.ensures.1

pub returns : goal.returns
returns c =
    done c.args.pool.now c.args.spans.now c.args.variants c.args.out.now c.args.first c.requires
    c.loop-k.out c.loop-k.count c.loop-k.root c.loop-k.k c.loop-k.invariant (omega arith)
