-- Fixing the first flag: the table at the start, and what it reads.
use Prim.Native.Nat.{ℕ, zero, suc, ◌+◌, ◌*◌, ◌-◌, ◌/◌, ◌≤◌, ◌<◌}
use mathlib.Core.Path.{◌≡◌, refl, sym, ap, ◌∙◌}
use mathlib.Core.Bool.{Bool, true, false}
use mathlib.Core.List.{List, []}
use native.Mathlib.Omega.{arith}
use Rattle.ground.specs.Bits.{bit}
use Rattle.ground.specs.Choice.{choose}
use Rattle.notation.specs.Triplets.{negation}
use Rattle.truth.specs.clauses.Computed.{computed}
use Rattle.truth.proofs.Literals.{literal-even}
use Rattle.truth.proofs.Computing.{true-at-start, flag-at-start}
use Rattle.fixing.specs.clauses.Fixing.{StartedBy, Fixed}
use Rattle.fixing.specs.clauses.Folding.{reading, Table, Reads, Folded}
use Rattle.fixing.proofs.Standing.{constant-value, constant_of}

-- where there is a flag, one follows the others
pub one-more : (flags : ℕ) → 0 < flags → suc (flags - 1) ≡ flags
one-more flags h = omega (arith, h)

other-constant : (b : Bool) → choose b 1 0 ≡ negation (choose b 0 1)
unfolding negation
other-constant true = refl
other-constant false = refl

one-less-odd : (i : ℕ) → 2 ≤ i → 2 * i + 1 - 2 ≡ negation (2 * i - 2)
unfolding negation
one-less-odd i h = omega (arith, h)

module _ (n : ℕ) (b : Bool) (to after : List ℕ) (f : StartedBy b to after (2 * n + 4)) where
  within-started : (i : ℕ) → 0 < i → i ≤ suc n → reading after (2 * i) / 2 ≤ n
  within-started zero p q = absurd (omega (arith, p))
  within-started (suc zero) p q = rw (f.first, (constant_of b).0) (omega arith)
  within-started (suc (suc i)) p q = rw (f.others (2 * suc (suc i)) (omega arith) (omega (arith, q))) (omega (arith, q))

  odd-started : (i : ℕ) → 0 < i → i ≤ suc n → reading after (2 * i + 1) ≡ negation (reading after (2 * i))
  odd-started zero p q = absurd (omega (arith, p))
  odd-started (suc zero) p q = rw (f.not_first, f.first) (other-constant b)
  odd-started (suc (suc i)) p q =
      rw (f.others (2 * suc (suc i) + 1) (omega arith) (omega (arith, q)), f.others (2 * suc (suc i)) (omega arith) (omega (arith, q)))
      (one-less-odd (suc (suc i)) (omega arith))

  pub table-first : (m : ℕ) → suc n ≡ m → Table n m (reading after)
  table-first m e =
      let t : Table n (suc n) (reading after) = record { top = f.top; bottom = f.bottom; within = within-started; odd = odd-started } in
      rw e at t

  -- a state with bit n as b stands for itself
  reads-started : (s : ℕ) → bit s n ≡ b → Reads n (suc n) (reading after) s s
  reads-started s h zero p q = absurd (omega (arith, p))
  reads-started s h (suc zero) p q =
      let e : suc n - 1 ≡ n = omega arith in
      rw (f.first, e) (constant-value (computed n s [] 0) (true-at-start n s []) b ∙ sym h)
  reads-started s h (suc (suc i)) p q =
      let e : n - suc i ≡ suc n - suc (suc i) = omega arith in
      rw (f.others (2 * suc (suc i)) (omega arith) (omega (arith, q)))
      (literal-even (computed n s [] 0) (2 * suc (suc i) - 2) (suc i) (omega arith) ∙ flag-at-start n s [] (suc i) (omega arith) ∙ ap (bit s) e)

  pub fixed-first : (m : ℕ) → suc n ≡ m → (xs : List ℕ) (count root : ℕ) (ys : List ℕ) (c r : ℕ)
      → Folded n m (reading after) xs count root ys c r → Fixed n b xs count root ys c r
  fixed-first m e xs count root ys c r w =
      let u : Folded n (suc n) (reading after) xs count root ys c r = rw (← e) at w in
      record { few = u.few; shape = u.shape; named = u.named; valued = λ s h. u.valued s s (reads-started s h) }
