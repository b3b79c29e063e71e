-- The kept flags as a number: all of them, and without one.
use Prim.Native.Nat.{ℕ, zero, suc, ◌+◌, ◌-◌, ◌^◌, ◌≤◌, ◌<◌}
use mathlib.Core.Path.{◌≡◌, refl, sym}
use mathlib.Core.Bool.{Bool, true, false}
use mathlib.Core.Logic.{⊎_elim}
use native.Mathlib.Omega.{arith}
use native.Mathlib.Nat.{pow-suc}
use lib.Pow.{pow_pos}
use borrow.Author.Tests.{eq-eqb, ne_eqb}
use Rattle.ground.proofs.Cases.{split-eq}
use Rattle.why.specs.Numbered.{state_with}
use Rattle.why.specs.Kept.{every, without}

-- a flag dropped is gone, and the others stay
pub gone : (kept : ℕ → Bool) (j : ℕ) → without kept j j ≡ false
unfolding without
gone kept j = rw (eq-eqb j j refl)

pub stays : (kept : ℕ → Bool) (j i : ℕ) → (i ≡ j → ⊥) → without kept j i ≡ kept i
unfolding without
stays kept j i h = rw (ne_eqb i j h)

-- the mask of all flags
pub mask-every : (n : ℕ) → state_with n every ≡ 2 ^ n - 1
unfolding state_with every
mask-every zero = refl
mask-every (suc n) = rw (pow-suc 2 n, mask-every n) (omega (arith, pow_pos n))

-- a flag past the last is not in the mask
mask-past : (n : ℕ) (k : ℕ → Bool) (j : ℕ) → n < j → state_with n (without k j) ≡ state_with n k
unfolding state_with
mask-past zero k j h = refl
mask-past (suc n) k j h = rw (mask-past n k j (omega (arith, h)), stays k j (suc n) (λ (e : suc n ≡ j). omega (arith, e, h))) refl

-- the mask without a flag that it has
pub mask-without : (n : ℕ) (k : ℕ → Bool) (j : ℕ) → 0 < j → j ≤ n → k j ≡ true → state_with n (without k j) + 2 ^ (n - j) ≡ state_with n k
unfolding state_with
mask-without zero k j a b h = absurd (omega (arith, a, b))
mask-without (suc n) k j a b h =
    ⊎_elim
    (λ (e : j ≡ suc n).
    let z : suc n - j ≡ 0 = omega (arith, e) in
    let past : state_with n (without k j) ≡ state_with n k = mask-past n k j (omega (arith, e)) in
    let off : without k j (suc n) ≡ false = rw e (gone k (suc n)) in
    let on : k (suc n) ≡ true = rw e at h in
    rw (z, past, off, on) (omega arith))
    (λ (e : j ≡ suc n → ⊥).
    let z : suc n - j ≡ suc (n - j) = omega (arith, e, b) in
    let same : without k j (suc n) ≡ k (suc n) = stays k j (suc n) (λ (q : suc n ≡ j). e (sym q)) in
    rw (z, pow-suc 2 (n - j), same) (omega (arith, mask-without n k j a (omega (arith, e, b)) h)))
    (split-eq j (suc n))
