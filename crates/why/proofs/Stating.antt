-- Every way to give the flags values is a state, and one only.
use Prim.Native.Nat.{ℕ, zero, suc, ◌+◌, ◌*◌, ◌-◌, ◌/◌, ◌%◌, ◌^◌, ◌≤◌, ◌<◌}
use native.Mathlib.Omega.{arith}
use native.Mathlib.Nat.{pow-suc}
use mathlib.Core.Path.{◌≡◌, sym, ap, ◌∙◌}
use mathlib.Core.Bool.{Bool, true, false}
use mathlib.Core.Logic.{⊎_elim}
use borrow.Author.Tests.{eq-eqb, ne_eqb}
use Rattle.ground.specs.Choice.{choose}
use Rattle.ground.proofs.Cases.{split-eq}
use Rattle.ground.specs.Bits.{bit}
use Rattle.rows.proofs.Bits.{bit-halved}
use Rattle.why.specs.Numbered.{state_with}

pub bit-of : (b : Bool) → choose b 1 0 ≤ 1
bit-of true = omega arith
bit-of false = omega arith

pub last_bit : (s : ℕ) (b : Bool) → bit (2 * s + choose b 1 0) 0 ≡ b
unfolding bit
last_bit s true = let e : (2 * s + 1) / 2 ^ 0 % 2 ≡ 1 = omega arith in eq-eqb ((2 * s + 1) / 2 ^ 0 % 2) 1 e
last_bit s false = let e : (2 * s + 0) / 2 ^ 0 % 2 ≡ 0 = omega arith in ne_eqb ((2 * s + 0) / 2 ^ 0 % 2) 1 (λ q. omega (arith, e, q))

pub state-below : (n : ℕ) (b : ℕ → Bool) → state_with n b < 2 ^ n
unfolding state_with
state-below zero b = omega arith
state-below (suc n) b = rw (pow-suc 2 n) (omega (arith, state-below n b, bit-of (b (suc n))))

pub state-bit : (n : ℕ) (b : ℕ → Bool) (i : ℕ) → 0 < i → i ≤ n → bit (state_with n b) (n - i) ≡ b i
unfolding state_with
state-bit zero b i p q = absurd (omega (arith, p, q))
state-bit (suc n) b i p q =
    ⊎_elim
    (λ (e : i ≡ suc n). let z : suc n - i ≡ 0 = omega (arith, e) in rw (z, e) (last_bit (state_with n b) (b (suc n))))
    (λ (e : i ≡ suc n → ⊥).
    let z : suc n - i ≡ suc (n - i) = omega (arith, e, q) in
    let h : (2 * state_with n b + choose (b (suc n)) 1 0) / 2 ≡ state_with n b = omega (arith, bit-of (b (suc n))) in
    rw z (sym (bit-halved (2 * state_with n b + choose (b (suc n)) 1 0) (n - i)) ∙ ap (λ (x : ℕ). bit x (n - i)) h
    ∙ state-bit n b i p (omega (arith, e, q))))
    (split-eq i (suc n))
