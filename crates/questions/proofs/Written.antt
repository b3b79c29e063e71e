-- What is written where a guard is negated, and the literal of a triplet.
use Prim.Native.Nat.{ℕ, ◌+◌, ◌*◌, ◌/◌, ◌%◌, ◌≤◌}
use native.Mathlib.Omega.{arith}
use mathlib.Core.Path.{ap}
use mathlib.Core.List.{List}
use Rattle.notation.specs.Ceilings.{connective_ceiling}
use Rattle.notation.specs.Tokens.{Sign, same, implies, or, and}
use Rattle.notation.specs.Guard.{Guard, negated, connectives}
use Rattle.notation.specs.Triplets.{negation, literal_of, literal, triplets, triplet_variable, literal_ceiling}
use Rattle.levels.specs.clauses.Levels.{Writes}

-- the literal of a triplet within the ceiling is at most the largest
pub own-small : (s : Sign) (j : ℕ) → j ≤ connective_ceiling → literal_of s (triplet_variable j) ≤ literal_ceiling
unfolding literal_of
own-small same j h = omega arith
own-small implies j h = omega arith
own-small or j h = omega arith
own-small and j h = omega arith

-- a guard and its negation have the same triplets
pub writes-negated : (c c' : ℕ) (out out' : List ℕ) (g : Guard) (l : ℕ) → Writes c c' out out' g l
    → Writes c c' out out' (negated g) (negation l)
unfolding literal triplets connectives negation
writes-negated c c' out out' g l w = record {
  literal = ap (λ (x : ℕ). 2 * (x / 2) + (x + 1) % 2) w.literal;
  small = omega (arith, w.small);
  count = w.count;
  written = w.written;
}
