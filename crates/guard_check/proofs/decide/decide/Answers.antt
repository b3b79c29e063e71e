use Prim.Native.Nat.{ℕ, ◌/◌, ◌<◌}
use mathlib.Core.Path.{◌≡◌, refl, sym, ap, ◌∙◌, subst}
use native.Mathlib.Omega.{arith}
use Rattle.notation.specs.clauses.Writing.{signed}
use Rattle.truth.proofs.Computing.{named-below}
use Rattle.relation.specs.clauses.Keeping.{Fresh}
use Rattle.relation.proofs.LiteralLaws.{signed-half, signed_odd}
use Rattle.relation.proofs.JoinLaws.{joined-at}
use Rattle.steps.specs.clauses.Resting.{in_use}
use Rattle.guard_check.proofs.Trying.{trying_start, trying-next, trying-fits, decided-covered, decided-gap, decided-undecided}
use Rattle.guard_check.proofs.decide.decide.Goals as goal

-- a literal with either sign is of the same variable
half_of : (l s r m : ℕ) → r ≡ signed l s → l / 2 < m → r / 2 < m
half_of l s r m e h = omega (arith, ap (λ (x : ℕ). x / 2) e, signed-half l s)

pub join-requires : goal.join-requires
join-requires c =
    let inside : c.args.formula.now.root / 2 < in_use c.args.formula.now.count =
    omega (
      arith,
      named-below c.args.formula.now.flags c.args.formula.now.count c.args.formula.now.root
          c.args.formula.now.proper.flags c.args.formula.now.proper.named,
    ) in
    let below : c.flipped.result / 2 < in_use c.args.formula.now.count =
    half_of c.args.formula.now.root _ c.flipped.result (in_use c.args.formula.now.count) c.flipped.ensures inside in
    (omega (arith, below, c.over-relation.ensures.in_use), omega (arith, c.over-relation.ensures.in_use))

pub returns-then-is_contradictory : goal.returns-then-is_contradictory
returns-then-is_contradictory c =
    let start =
    trying_start c.args.formula.now.triplets.now c.args.formula.now.count c.args.formula.now.flags c.args.depth c.args.formula.now.root
    c.over-relation.result.of c.join.new.self.of c.saturate.new.relation.of c.flipped.result (c.flipped.ensures ∙ signed_odd c.args.formula.now.root 1 refl)
    (subst Fresh (sym c.over-relation.ensures.same) c.fresh.ensures.only)
    (joined-at c.over-relation.ensures.in_use c.join.ensures.joined) c.saturate.ensures.saturated in
    decided-covered c.args.formula.now.triplets.now c.args.formula.now.count c.args.formula.now.flags c.args.depth c.args.formula.now.root
    c.saturate.new.relation.of start (sym c.is_contradictory.ensures ∙ c.if-is_contradictory.true)

pub loop-done-init : goal.loop-done-init
loop-done-init c =
    let start =
    trying_start c.args.formula.now.triplets.now c.args.formula.now.count c.args.formula.now.flags c.args.depth c.args.formula.now.root
    c.over-relation.result.of c.join.new.self.of c.saturate.new.relation.of c.flipped.result (c.flipped.ensures ∙ signed_odd c.args.formula.now.root 1 refl)
    (subst Fresh (sym c.over-relation.ensures.same) c.fresh.ensures.only)
    (joined-at c.over-relation.ensures.in_use c.join.ensures.joined) c.saturate.ensures.saturated in
    record { size = c.saturate.ensures.size ∙ c.join.ensures.size ∙ c.over-relation.ensures.in_use; trying = start }

pub overflow_mul-state : goal.overflow_mul-state
overflow_mul-state c =
    omega (
      arith,
      trying-fits c.args.formula.now.triplets.now c.args.formula.now.count c.args.formula.now.flags c.args.depth c.args.formula.now.root
          c.loop-done.done c.loop-done.state
          c.loop-done.relation.of (omega (arith, c.args.formula.now.proper.flags)) c.loop-done.invariant.trying,
    )

pub overflow_add-state : goal.overflow_add-state
overflow_add-state c =
    omega (
      arith,
      c.test-bit.ensures.tested.bit,
      trying-fits c.args.formula.now.triplets.now c.args.formula.now.count c.args.formula.now.flags c.args.depth c.args.formula.now.root
          c.loop-done.done c.loop-done.state
          c.loop-done.relation.of (omega (arith, c.args.formula.now.proper.flags)) c.loop-done.invariant.trying,
    )

pub loop-done-preserved : goal.loop-done-preserved
loop-done-preserved c =
    record {
      size = c.test-bit.ensures.size ∙ c.loop-done.invariant.size;
      trying = trying-next c.args.formula.now.triplets.now c.args.formula.now.count c.args.formula.now.flags c.args.depth c.args.formula.now.root
          c.loop-done.done c.loop-done.state
          c.test-bit.result c.loop-done.relation.of c.test-bit.new.relation.of c.loop-done.invariant.trying c.test-bit.ensures.tested;
    }

pub returns-then-is_contradictory-2 : goal.returns-then-is_contradictory-2
returns-then-is_contradictory-2 c =
    let start =
    trying_start c.args.formula.now.triplets.now c.args.formula.now.count c.args.formula.now.flags c.args.depth c.args.formula.now.root
    c.over-relation.result.of c.join.new.self.of c.saturate.new.relation.of c.flipped.result (c.flipped.ensures ∙ signed_odd c.args.formula.now.root 1 refl)
    (subst Fresh (sym c.over-relation.ensures.same) c.fresh.ensures.only)
    (joined-at c.over-relation.ensures.in_use c.join.ensures.joined) c.saturate.ensures.saturated in
    decided-undecided c.args.formula.now.triplets.now c.args.formula.now.count c.args.formula.now.flags c.args.depth c.args.formula.now.root
    c.loop-done.done c.loop-done.state
    c.saturate.new.relation.of c.loop-done.relation.of (omega arith) start (sym c.is_contradictory.ensures ∙ c.if-is_contradictory.false)
    c.loop-done.invariant.trying (sym c.is_contradictory-2.ensures ∙ c.if-is_contradictory-2.true)

pub returns : goal.returns
returns c =
    let start =
    trying_start c.args.formula.now.triplets.now c.args.formula.now.count c.args.formula.now.flags c.args.depth c.args.formula.now.root
    c.over-relation.result.of c.join.new.self.of c.saturate.new.relation.of c.flipped.result (c.flipped.ensures ∙ signed_odd c.args.formula.now.root 1 refl)
    (subst Fresh (sym c.over-relation.ensures.same) c.fresh.ensures.only)
    (joined-at c.over-relation.ensures.in_use c.join.ensures.joined) c.saturate.ensures.saturated in
    decided-gap c.args.formula.now.triplets.now c.args.formula.now.count c.args.formula.now.flags c.args.depth c.args.formula.now.root
    c.loop-done.done c.loop-done.state
    c.saturate.new.relation.of c.loop-done.relation.of (omega arith) start (sym c.is_contradictory.ensures ∙ c.if-is_contradictory.false)
    c.loop-done.invariant.trying (sym c.is_contradictory-2.ensures ∙ c.if-is_contradictory-2.false)
