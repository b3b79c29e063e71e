-- The value of a literal: of a variable, of its negation, and of a negated literal.
use Prim.Native.Nat.{ℕ, ◌+◌, ◌*◌, ◌/◌, ◌%◌}
use mathlib.Core.Path.{◌≡◌, sym}
use mathlib.Core.Bool.{Bool, not, not-not}
use mathlib.Core.Logic.{⊎_elim}
use native.Mathlib.Omega.{arith}
use borrow.Author.Tests.{eq-eqb, ne_eqb}
use Rattle.notation.specs.Triplets.{negation}
use Rattle.truth.specs.clauses.Computed.{literal_value}
use Rattle.ground.proofs.Cases.{parity}

module _ (v : ℕ → Bool) where
  pub literal-even : (l x : ℕ) → l ≡ 2 * x → literal_value v l ≡ v x
  unfolding literal_value
  literal-even l x e =
      let p : l % 2 ≡ 0 = omega arith in
      let q : l / 2 ≡ x = omega arith in
      rw (eq-eqb (l % 2) 0 p, q)

  pub literal-odd : (l x : ℕ) → l ≡ 2 * x + 1 → literal_value v l ≡ not (v x)
  unfolding literal_value
  literal-odd l x e =
      let p : (l % 2 ≡ 0 → ⊥) = λ h. omega arith in
      let q : l / 2 ≡ x = omega arith in
      rw (ne_eqb (l % 2) 0 p, q)

  pub literal-negation : (l : ℕ) → literal_value v (negation l) ≡ not (literal_value v l)
  unfolding negation
  literal-negation l =
      ⊎_elim
      (λ (p : l % 2 ≡ 0). rw (literal-even l (l / 2) (omega arith), literal-odd (2 * (l / 2) + (l + 1) % 2) (l / 2) (omega arith)))
      (λ (p : l % 2 ≡ 1).
      rw (literal-odd l (l / 2) (omega arith), literal-even (2 * (l / 2) + (l + 1) % 2) (l / 2) (omega arith))
      (sym (not-not (v (l / 2)))))
      (parity l)

-- two valuations that agree on a literal's variable give it one value
pub literal-agrees : (v w : ℕ → Bool) (l : ℕ) → v (l / 2) ≡ w (l / 2) → literal_value v l ≡ literal_value w l
unfolding literal_value
literal-agrees v w l e = rw e
