-- Two slips that steps must not make: `!A>A` with root true makes A true, and `A=B` with root false ties no flag.
use Prim.Native.Nat.{ℕ, zero, suc, ◌*◌, ◌≤◌, ◌<◌}
use mathlib.Core.Path.{◌≡◌, refl, sym}
use mathlib.Core.Bool.{Bool, true, false, not, false≢true}
use mathlib.Core.List.{[], ◌∷◌}
use native.Mathlib.Omega.{arith}
use Rattle.notation.specs.Tokens.{same, implies}
use Rattle.notation.specs.Guard.{Guard, flag, negated, joined, connectives}
use Rattle.notation.specs.Triplets.{negation, triplet_of, literal_of, literal, triplets}
use Rattle.truth.specs.Connectives.{table, gate}
use Rattle.truth.specs.Value.{value}
use Rattle.ground.specs.Bits.{bit}
use Rattle.steps.specs.Step.{always, own_x, not-y, own-z}
use Rattle.saturation.specs.Saturation.{taken, Saturated}
use Rattle.saturation.proofs.Taking.{taken-above, above-taken}
use Rattle.saturation.proofs.Fixed.{literal_for}
use Rattle.truth.specs.clauses.Written.{Proper}
use Rattle.saturation.proofs.Verdicts.{tied-in-gaps}

-- `!A>A`
abbrev pub unless-itself : Guard
unless-itself = joined implies (negated (flag 1)) (flag 1)

must-be : (x y z : Bool) → x ≡ true → not y ≡ z → x ≡ gate 0 y z → z ≡ true
unfolding gate table
must-be true true true p q r = refl
must-be true true false p q r = sym r
must-be true false true p q r = refl
must-be true false false p q r = sym q
must-be false true z p q r = absurd (false≢true p)
must-be false false z p q r = absurd (false≢true p)

-- with root true, steps alone make A true
pub slip-1 : (D : ℕ → Type 0) → Saturated D (triplets 0 unless-itself) 0 (taken (literal 0 unless-itself ∷ [])) 2 0
unfolding triplets literal triplet_of literal_of connectives negation
slip-1 D A a w rests =
    rests.0 own-z always
    (λ v sat obeys.
    must-be v.x v.y v.z (obeys own_x always (taken-above A (literal 0 unless-itself ∷ []) w).0) (obeys not-y own-z (a.reflexive 2)) sat)

-- `A=B`
abbrev pub alike : Guard
alike = joined same (flag 1) (flag 2)

alike-proper : Proper 2 alike
alike-proper = record { few = omega arith; within = ((omega arith, omega arith), (omega arith, omega arith)) }

gap-1 : value 2 1 alike ≡ false
unfolding value table bit
gap-1 = refl

gap-2 : value 2 2 alike ≡ false
unfolding value table bit
gap-2 = refl

-- with root false no flag is tied, at rest or at any depth: each is 1 in one of the gaps 1 and 2, and 0 in the other
pub slip-4 : (D : ℕ → Type 0) (k i : ℕ) (b : Bool) → 0 < i → i ≤ 2
    → Saturated D (triplets 0 alike) k (taken (negation (literal 0 alike) ∷ [])) (2 * i) (literal_for b) → ⊥
unfolding bit
slip-4 D k zero b p q h = absurd (omega arith)
slip-4 D k (suc zero) true p q h = false≢true (tied-in-gaps D 2 alike alike-proper k 1 1 true gap-1 p q h)
slip-4 D k (suc zero) false p q h = false≢true (sym (tied-in-gaps D 2 alike alike-proper k 2 1 false gap-2 p q h))
slip-4 D k (suc (suc zero)) true p q h = false≢true (tied-in-gaps D 2 alike alike-proper k 2 2 true gap-2 p q h)
slip-4 D k (suc (suc zero)) false p q h = false≢true (sym (tied-in-gaps D 2 alike alike-proper k 1 2 false gap-1 p q h))
slip-4 D k (suc (suc (suc i))) b p q h = absurd (omega arith)

-- and so with nothing fixed
pub slip-4-free : (D : ℕ → Type 0) (k i : ℕ) (b : Bool) → 0 < i → i ≤ 2
    → Saturated D (triplets 0 alike) k (taken []) (2 * i) (literal_for b) → ⊥
slip-4-free D k i b p q h =
    slip-4 D k i b p q (λ A a w stable. h A a (above-taken A [] tt) stable)
