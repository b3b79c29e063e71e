-- `guard_check::decide::test` meets its contract: a tied flag has its value, another is 1 where 0 is contradictory.
use mathlib.Core.Path.{sym, ◌∙◌}
use Rattle.relation.proofs.ClassLaws.{classes-at}
use Rattle.relation.proofs.JoinLaws.{joined-at}
use Rattle.guard_check.proofs.Trying.{tested-true, tested-false, tested_low, tested-high}
use Rattle.guard_check.proofs.decide.test.Goals as goal

pub returns-then-equal-clause-tested : goal.returns-then-equal-clause-tested
returns-then-equal-clause-tested c =
    tested-true c.args.saturator.now.triplets.now c.args.saturator.now.count c.args.saturator.now.flags c.args.depth c.args.flag c.args.relation.now.of
    (classes-at c.requires.size c.args.relation.now.classes) c.requires.stable (sym c.equal.ensures ∙ c.if-equal.true)

pub returns-then-equal-2-clause-tested : goal.returns-then-equal-2-clause-tested
returns-then-equal-2-clause-tested c =
    tested-false c.args.saturator.now.triplets.now c.args.saturator.now.count c.args.saturator.now.flags c.args.depth c.args.flag c.args.relation.now.of
    (classes-at c.requires.size c.args.relation.now.classes) c.requires.stable
    (sym c.equal.ensures ∙ c.if-equal.false) (sym c.equal-2.ensures ∙ c.if-equal-2.true)

pub returns-then-is_contradictory-clause-tested : goal.returns-then-is_contradictory-clause-tested
returns-then-is_contradictory-clause-tested c =
    tested-high c.args.saturator.now.triplets.now c.args.saturator.now.count c.args.saturator.now.flags
    c.args.depth c.args.flag c.args.relation.now.of c.join.new.self.of
    c.saturate.new.relation.of (joined-at c.requires.size c.join.ensures.joined) c.saturate.ensures.saturated
    c.join-then-is_contradictory.new.self.of c.saturate-then-is_contradictory.new.relation.of
    (sym c.is_contradictory.ensures ∙ c.if-is_contradictory.true)
    (joined-at c.requires.size c.join-then-is_contradictory.ensures.joined) c.saturate-then-is_contradictory.ensures.saturated

pub returns-clause-tested : goal.returns-clause-tested
returns-clause-tested c =
    tested_low c.args.saturator.now.triplets.now c.args.saturator.now.count c.args.saturator.now.flags
    c.args.depth c.args.flag c.args.relation.now.of c.join.new.self.of
    c.saturate.new.relation.of (joined-at c.requires.size c.join.ensures.joined) c.saturate.ensures.saturated
    (sym c.is_contradictory.ensures ∙ c.if-is_contradictory.false)
