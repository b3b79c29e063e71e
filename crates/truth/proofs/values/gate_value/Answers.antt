-- `truth::values::gate_value` meets its contract, by the truth table of each kind.
use Prim.Native.Nat.{ℕ, zero, suc}
use mathlib.Core.Path.{◌≡◌, refl}
use mathlib.Core.Bool.{Bool, true, false, not, ◌||◌, beq}
use Rattle.truth.specs.Connectives.{table, gate}
use Rattle.truth.proofs.values.gate_value.Goals as goal

by-implies : (k : ℕ) (y z : Bool) → k ≡ 0 → (not y || z) ≡ gate k y z
unfolding gate table
by-implies k true z e = rw e
by-implies k false z e = rw e

by-same : (k : ℕ) (y z : Bool) → (k ≡ 0 → ⊥) → beq y z ≡ gate k y z
unfolding gate table
by-same zero y z n = absurd (n refl)
by-same (suc k) true true n = refl
by-same (suc k) true false n = refl
by-same (suc k) false true n = refl
by-same (suc k) false false n = refl

pub returns-then-kind-eq0 : goal.returns-then-kind-eq0
returns-then-kind-eq0 c =
    by-implies c.args.kind c.args.y c.args.z c.if-kind-eq0.true

pub returns : goal.returns
returns c =
    by-same c.args.kind c.args.y c.args.z c.if-kind-eq0.false
