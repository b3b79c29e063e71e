-- `fixing::triplet::simplified` meets its contract: each test is a line of the truth tables.
use mathlib.Core.Path.{◌∙◌}
use mathlib.Core.Logic.{inr}
use Rattle.fixing.proofs.Standing.{of-either, of_same}
use Rattle.fixing.proofs.Standing.{implies-y-true, implies-y-false, implies-z-true, implies-z-false, implies-equal, implies-opposed}
use Rattle.fixing.proofs.Standing.{same-y-true, same-y-false, same-z-true, same-z-false, same-equal, same-opposed}
use Rattle.fixing.proofs.triplet.simplified.Goals as goal

pub returns-then-y-eq0 : goal.returns-then-y-eq0
returns-then-y-eq0 c =
    inr (of-either _ _ _ _ c.requires.0 (implies-y-true _ _ c.if-y-eq0.true) (same-y-true _ _ c.if-y-eq0.true))

pub returns-then-z-eq1 : goal.returns-then-z-eq1
returns-then-z-eq1 c =
    inr (of-either _ _ _ _ c.requires.0 (implies-z-false _ _ _ c.if-z-eq1.true c.negated.ensures) (same-z-false _ _ _ c.if-z-eq1.true c.negated.ensures))

pub returns-then-y-z : goal.returns-then-y-z
returns-then-y-z c =
    inr (of-either _ _ _ _ c.requires.0 (implies-equal _ _ c.if-y-z.true) (same-equal _ _ c.if-y-z.true))

pub returns-then-implies : goal.returns-then-implies
returns-then-implies c =
    inr (rw c.if-implies.true (implies-y-false _ _ c.if-y-eq1.true))

pub returns-else-implies : goal.returns-else-implies
returns-else-implies c =
    inr (of_same _ _ _ _ c.requires.0 c.if-implies.false (same-y-false _ _ _ c.if-y-eq1.true c.negated-else-implies.ensures))

pub returns-then-implies-2 : goal.returns-then-implies-2
returns-then-implies-2 c =
    inr (rw c.if-implies-2.true (implies-z-true _ _ c.if-z-eq0.true))

pub returns-else-implies-2 : goal.returns-else-implies-2
returns-else-implies-2 c =
    inr (of_same _ _ _ _ c.requires.0 c.if-implies-2.false (same-z-true _ _ c.if-z-eq0.true))

pub returns-then-implies-3 : goal.returns-then-implies-3
returns-then-implies-3 c =
    inr (rw c.if-implies-3.true (implies-opposed _ _ (c.if-y-negated.true ∙ c.negated-2.ensures)))

pub returns-else-implies-3 : goal.returns-else-implies-3
returns-else-implies-3 c =
    inr (of_same _ _ _ _ c.requires.0 c.if-implies-3.false (same-opposed _ _ (c.if-y-negated.true ∙ c.negated-2.ensures)))
