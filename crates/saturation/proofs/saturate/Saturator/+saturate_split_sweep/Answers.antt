use Prim.Native.Nat.{ℕ, suc, ◌+◌, ◌-◌, ◌<◌}
use mathlib.Core.Path.{◌≡◌, sym, ◌∙◌, ap}
use native.Mathlib.Omega.{arith}
use native.Mathlib.Nat.{pos_of_ne-zero}
use Rattle.relation.specs.clauses.Classes.{entry, rank}
use Rattle.relation.proofs.ClassLaws.{classes-at}
use Rattle.relation.proofs.JoinLaws.{joined-at}
use Rattle.relation.proofs.ShareLaws.{shared-at}
use Rattle.relation.proofs.RankLaws.{rank_most}
use Rattle.saturation.proofs.Saturating.{saturating-next, saturating-done, sweeping-next, sweeping-done, divided-tied, divided-idle, divided-rested}
use Rattle.saturation.proofs.saturate.Saturator.+saturate_split_sweep.Goals as goal

-- the depth below a depth that is not 0
deep : (depth : ℕ) → (depth ≡ 0 → ⊥) → depth ≡ suc (depth - 1)
deep depth h = let p : 0 < depth = pos_of_ne-zero h in omega arith

pub saturate-overflow_add-was : goal.saturate-overflow_add-was
saturate-overflow_add-was t c =
    omega (
      arith,
      c.rank-left.ensures,
      rank_most c.rest.new.relation.size (entry c.rest.new.relation.of),
      c.rest.new.relation.classes.fits,
    )

pub saturate-loop-left-preserved : goal.saturate-loop-left-preserved
saturate-loop-left-preserved t c =
    let same : c.sweep.new.relation.size ≡ c.rest.new.relation.size = c.sweep.ensures.size ∙ c.loop-left.invariant.size in
    record {
      size = same;
      saturating = saturating-next c.args.self.now.triplets.now c.args.self.now.count c.args.self.now.flags (c.args.depth - 1) c.rest.new.relation.of
          c.loop-left.relation.of c.sweep.new.relation.of c.loop-left.left c.loop-left.was c.rank-left-in-loop-left.result
          c.loop-left.invariant.saturating c.sweep.ensures.swept
          (c.rank-left-in-loop-left.ensures ∙ ap (λ (n : ℕ). rank n (entry c.sweep.new.relation.of))
          (same ∙ c.rest.ensures.size ∙ c.requires));
    }

pub saturate-returns-clause-saturated : goal.saturate-returns-clause-saturated
saturate-returns-clause-saturated t c =
    saturating-done c.args.self.now.triplets.now c.args.self.now.count c.args.self.now.flags (c.args.depth - 1) c.args.relation.now.of c.rest.new.relation.of
    c.loop-left.relation.of c.loop-left.left c.loop-left.was c.args.depth (deep c.args.depth c.if-depth-eq0.false) c.loop-left-test.false
    c.rest.ensures.rested c.loop-left.invariant.saturating

pub split-returns-then-is_tied-clause-divided : goal.split-returns-then-is_tied-clause-divided
split-returns-then-is_tied-clause-divided t c =
    divided-tied c.args.self.now.triplets.now c.args.self.now.count c.args.self.now.flags c.args.below c.args.relation.now.of c.args.flag
    (classes-at c.requires.size c.args.relation.now.classes) c.requires.no_step_enlarges (sym c.is_tied.ensures ∙ c.if-is_tied.true)

pub split-returns-then-before-rank-clause-divided : goal.split-returns-then-before-rank-clause-divided
split-returns-then-before-rank-clause-divided t c =
    let here = c.requires.size in
    let there = c.saturate-2.ensures.size ∙ c.join-2.ensures.size ∙ here in
    divided-idle c.args.self.now.triplets.now c.args.self.now.count c.args.self.now.flags c.args.below c.args.flag c.args.relation.now.of c.join.new.self.of
    c.saturate.new.relation.of c.join-2.new.self.of c.saturate-2.new.relation.of c.share.new.self.of
    (classes-at here c.args.relation.now.classes) c.requires.no_step_enlarges c.requires.flags
    (joined-at here c.join.ensures.joined) c.saturate.ensures.saturated (joined-at here c.join-2.ensures.joined)
    c.saturate-2.ensures.saturated (shared-at there c.share.ensures.shared)
    (omega (
      arith,
      c.rank-before.ensures ∙ ap (λ (n : ℕ). rank n (entry c.args.relation.now.of)) here,
      c.rank.ensures ∙ ap (λ (n : ℕ). rank n (entry c.share.new.self.of)) (c.share.ensures.size ∙ there),
      c.if-before-rank.true,
    ))

pub split-returns-clause-divided : goal.split-returns-clause-divided
split-returns-clause-divided t c =
    let here = c.requires.size in
    let there = c.saturate-2.ensures.size ∙ c.join-2.ensures.size ∙ here in
    divided-rested c.args.self.now.triplets.now c.args.self.now.count c.args.self.now.flags c.args.below c.args.flag c.args.relation.now.of c.join.new.self.of
    c.saturate.new.relation.of c.join-2.new.self.of c.saturate-2.new.relation.of c.share.new.self.of
    (classes-at here c.args.relation.now.classes) c.requires.no_step_enlarges c.requires.flags
    (joined-at here c.join.ensures.joined) c.saturate.ensures.saturated (joined-at here c.join-2.ensures.joined)
    c.saturate-2.ensures.saturated (shared-at there c.share.ensures.shared) c.rest.new.relation.of c.rest.ensures.rested

pub sweep-loop-flag-preserved : goal.sweep-loop-flag-preserved
sweep-loop-flag-preserved t c =
    record {
      size = c.split.ensures.size ∙ c.loop-flag.invariant.size;
      sweeping = sweeping-next c.args.self.now.triplets.now c.args.self.now.count c.args.self.now.flags c.args.below c.loop-flag.flag c.args.relation.now.of
          c.loop-flag.relation.of c.split.new.relation.of c.loop-flag.invariant.sweeping c.split.ensures.divided;
    }

pub sweep-returns-2-clause-swept : goal.sweep-returns-2-clause-swept
sweep-returns-2-clause-swept t c =
    sweeping-done c.args.self.now.triplets.now c.args.self.now.count c.args.self.now.flags c.args.below (c.loop-flag.flag + 1) c.args.relation.now.of
    c.split.new.relation.of (omega arith)
    (sweeping-next c.args.self.now.triplets.now c.args.self.now.count c.args.self.now.flags c.args.below c.loop-flag.flag c.args.relation.now.of
    c.loop-flag.relation.of c.split.new.relation.of c.loop-flag.invariant.sweeping c.split.ensures.divided)
