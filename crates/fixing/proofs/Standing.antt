-- The literals that stand for a triplet: by the truth tables, where an operand is constant or the operands are equal or opposite.
use Prim.Native.Nat.{ℕ, zero, suc, ◌/◌, ◌≤◌}
use mathlib.Core.Path.{◌≡◌, refl, ap, ◌∙◌}
use mathlib.Core.Bool.{Bool, true, false, not}
use mathlib.Core.Logic.{inl, inr}
use native.Mathlib.Omega.{arith}
use Rattle.notation.specs.Tokens.{same, implies}
use Rattle.ground.specs.Choice.{choose}
use Rattle.notation.specs.Triplets.{negation}
use Rattle.truth.specs.Connectives.{table, gate}
use Rattle.truth.specs.clauses.Computed.{literal_value}
use Rattle.truth.proofs.Literals.{literal-even, literal-odd, literal-negation}
use Rattle.notation.proofs.Shaped.{negation-half}
use Rattle.fixing.specs.clauses.Fixing.{Stands}

module _ (v : ℕ → Bool) (t : v 0 ≡ true) where
  value-true : literal_value v 0 ≡ true
  value-true = literal-even v 0 0 refl ∙ t

  value-false : literal_value v 1 ≡ false
  value-false = literal-odd v 1 0 refl ∙ ap not t

implies_true : (a : Bool) → true ≡ table implies a true
unfolding table
implies_true true = refl
implies_true false = refl

implies-false : (a : Bool) → not a ≡ table implies a false
unfolding table
implies-false true = refl
implies-false false = refl

implies-self : (a : Bool) → true ≡ table implies a a
unfolding table
implies-self true = refl
implies-self false = refl

implies-opposite : (a : Bool) → a ≡ table implies (not a) a
unfolding table
implies-opposite true = refl
implies-opposite false = refl

same_true : (a : Bool) → a ≡ table same a true
unfolding table
same_true true = refl
same_true false = refl

same_false : (a : Bool) → not a ≡ table same a false
unfolding table
same_false true = refl
same_false false = refl

same_self : (a : Bool) → true ≡ table same a a
unfolding table
same_self true = refl
same_self false = refl

same-opposite : (a : Bool) → false ≡ table same (not a) a
unfolding table
same-opposite true = refl
same-opposite false = refl

module _ (y z : ℕ) where
  -- kind 0
  pub implies-y-true : y ≡ 0 → Stands 0 y z z
  unfolding gate table
  implies-y-true e = record { value = λ v t. rw (e, value-true v t); of = inr (inr refl) }

  pub implies-y-false : y ≡ 1 → Stands 0 y z 0
  unfolding gate table
  implies-y-false e = record { value = λ v t. rw (e, value-false v t, value-true v t); of = inl refl }

  pub implies-z-true : z ≡ 0 → Stands 0 y z 0
  unfolding gate
  implies-z-true e = record { value = λ v t. rw (e, value-true v t) (implies_true (literal_value v y)); of = inl refl }

  pub implies-z-false : (r : ℕ) → z ≡ 1 → r ≡ negation y → Stands 0 y z r
  unfolding gate
  implies-z-false r e n =
      record { value = λ v t. rw (e, n, literal-negation v y, value-false v t) (implies-false (literal_value v y)); of = inr (inl (rw n (negation-half y))) }

  pub implies-equal : y ≡ z → Stands 0 y z 0
  unfolding gate
  implies-equal e = record { value = λ v t. rw (e, value-true v t) (implies-self (literal_value v z)); of = inl refl }

  pub implies-opposed : y ≡ negation z → Stands 0 y z z
  unfolding gate
  implies-opposed e = record { value = λ v t. rw (e, literal-negation v z) (implies-opposite (literal_value v z)); of = inr (inr refl) }

  -- kind 1
  pub same-y-true : y ≡ 0 → Stands 1 y z z
  unfolding gate table
  same-y-true e = record { value = λ v t. rw (e, value-true v t); of = inr (inr refl) }

  pub same-y-false : (r : ℕ) → y ≡ 1 → r ≡ negation z → Stands 1 y z r
  unfolding gate table
  same-y-false r e n = record { value = λ v t. rw (e, n, literal-negation v z, value-false v t); of = inr (inr (rw n (negation-half z))) }

  pub same-z-true : z ≡ 0 → Stands 1 y z y
  unfolding gate
  same-z-true e = record { value = λ v t. rw (e, value-true v t) (same_true (literal_value v y)); of = inr (inl refl) }

  pub same-z-false : (r : ℕ) → z ≡ 1 → r ≡ negation y → Stands 1 y z r
  unfolding gate
  same-z-false r e n =
      record { value = λ v t. rw (e, n, literal-negation v y, value-false v t) (same_false (literal_value v y)); of = inr (inl (rw n (negation-half y))) }

  pub same-equal : y ≡ z → Stands 1 y z 0
  unfolding gate
  same-equal e = record { value = λ v t. rw (e, value-true v t) (same_self (literal_value v z)); of = inl refl }

  pub same-opposed : y ≡ negation z → Stands 1 y z 1
  unfolding gate
  same-opposed e = record { value = λ v t. rw (e, literal-negation v z, value-false v t) (same-opposite (literal_value v z)); of = inl refl }

-- what stands for a triplet of kind 0, and for one of kind 1, stands for one of either
pub of-either : (kind y z r : ℕ) → kind ≤ 1 → Stands 0 y z r → Stands 1 y z r → Stands kind y z r
of-either zero y z r h s t = s
of-either (suc zero) y z r h s t = t
of-either (suc (suc k)) y z r h s t = absurd (omega (arith, h))

-- of kind 1, where it is not 0
pub of_same : (kind y z r : ℕ) → kind ≤ 1 → (kind ≡ 0 → ⊥) → Stands 1 y z r → Stands kind y z r
of_same kind y z r h n s = let e : kind ≡ 1 = omega (arith, h, n) in rw e s

pub constant-value : (v : ℕ → Bool) → v 0 ≡ true → (b : Bool) → literal_value v (choose b 0 1) ≡ b
constant-value v t true = value-true v t
constant-value v t false = value-false v t

pub constant_of : (b : Bool) → (◌/◌ (choose b 0 1) 2 ≡ 0) × (◌/◌ (choose b 1 0) 2 ≡ 0)
constant_of true = (refl, refl)
constant_of false = (refl, refl)
