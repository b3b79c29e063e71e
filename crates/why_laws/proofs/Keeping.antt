-- The kept flags force a gap, and none of them can be dropped.
use Prim.Native.Nat.{ℕ, zero, suc, ◌*◌, ◌-◌, ◌/◌, ◌%◌, ◌^◌, ◌≤◌, ◌<◌}
use mathlib.Core.Path.{◌≡◌, refl, sym, ◌∙◌}
use mathlib.Core.Bool.{Bool, true, false}
use mathlib.Core.Logic.{⊎_elim}
use native.Mathlib.Omega.{arith}
use native.Mathlib.Nat.{pow-suc}
use lib.Dec.{eqb}
use borrow.Author.Tests.{eq-eqb, ne_eqb}
use Rattle.ground.specs.Bits.{bit}
use Rattle.ground.proofs.Cases.{split-eq, never}
use Rattle.rows.proofs.Bits.{bit-halved}
use Rattle.why.specs.Kept.{Agrees, Forces, every, without, Went}
use Rattle.why.proofs.Masks.{gone, stays}

-- the flags of k are all in m
abbrev pub Within : (ℕ → Bool) → (ℕ → Bool) → Type 0
Within k m = (i : ℕ) → k i ≡ true → m i ≡ true

pub without-within : (kept : ℕ → Bool) (j : ℕ) → Within (without kept j) kept
without-within kept j i h =
    ⊎_elim
    (λ (e : i ≡ j). absurd (never (without kept j i) h (rw e (gone kept j))))
    (λ (e : i ≡ j → ⊥). sym (stays kept j i e) ∙ h)
    (split-eq i j)

-- dropping one flag keeps the order
pub without-both : (k m : ℕ → Bool) (j : ℕ) → Within k m → Within (without k j) (without m j)
without-both k m j w i h =
    ⊎_elim
    (λ (e : i ≡ j). absurd (never (without k j i) h (rw e (gone k j))))
    (λ (e : i ≡ j → ⊥). stays m j i e ∙ w i (sym (stays k j i e) ∙ h))
    (split-eq i j)

-- what fewer flags force, more force too
pub forces-more : (n : ℕ) (v : ℕ → Bool) (gap : ℕ) (k m : ℕ → Bool) → Within k m → Forces n v gap k → Forces n v gap m
forces-more n v gap k m w f s small a = f s small (λ i p q h. a i p q (w i h))

-- a number below 2^n by its bits
bit-last : (s t : ℕ) → bit s 0 ≡ bit t 0 → s % 2 ≡ t % 2
unfolding bit
bit-last s t h =
    ⊎_elim
    (λ (p : s % 2 ≡ 1). ⊎_elim (λ (q : t % 2 ≡ 1). p ∙ sym q) (λ (q : t % 2 ≡ 1
    → ⊥). absurd (never (eqb (s / 2 ^ 0 % 2) 1) (eq-eqb (s / 2 ^ 0 % 2) 1 (omega (arith, p))) (h
    ∙ ne_eqb (t / 2 ^ 0 % 2) 1 (λ (z : t / 2 ^ 0 % 2 ≡ 1). q (omega (arith, z)))))) (split-eq (t % 2) 1))
    (λ (p : s % 2 ≡ 1 → ⊥). ⊎_elim (λ (q : t % 2 ≡ 1). absurd (never (eqb (t / 2 ^ 0 % 2) 1) (eq-eqb (t / 2 ^ 0 % 2) 1 (omega (arith, q))) (sym h
    ∙ ne_eqb (s / 2 ^ 0 % 2) 1 (λ (z : s / 2 ^ 0 % 2 ≡ 1). p (omega (arith, z)))))) (λ (q : t % 2 ≡ 1 → ⊥). omega (arith, p, q))
    (split-eq (t % 2) 1))
    (split-eq (s % 2) 1)

pub bits-same : (n s t : ℕ) → s < 2 ^ n → t < 2 ^ n → ((i : ℕ) → i < n → bit s i ≡ bit t i) → s ≡ t
bits-same zero s t p q h = omega (arith, p, q)
bits-same (suc n) s t p q h =
    let p₁ : s < 2 ^ n * 2 = rw (pow-suc 2 n) at p in
    let q₁ : t < 2 ^ n * 2 = rw (pow-suc 2 n) at q in
    let halves : s / 2 ≡ t / 2 = bits-same n (s / 2) (t / 2) (omega (arith, p₁)) (omega (arith, q₁)) (λ i l. bit-halved s i
    ∙ h (suc i) (omega (arith, l)) ∙ sym (bit-halved t i)) in
    let ends : s % 2 ≡ t % 2 = bit-last s t (h 0 (omega arith)) in
    omega (arith, halves, ends)

-- only the gap agrees with the gap on every flag
pub agrees-all : (n gap s : ℕ) → gap < 2 ^ n → s < 2 ^ n → Agrees n every gap s → s ≡ gap
unfolding every
agrees-all n gap s p q a =
    bits-same n s gap q p (λ i l. let e : n - (n - i) ≡ i = omega (arith, l) in rw e at (a (n - i) (omega (arith, l)) (omega arith) refl))

module _ (n : ℕ) (v : ℕ → Bool) (gap : ℕ) where
  -- the kept flags alone force a gap
  pub kept-forces : gap < 2 ^ n → v gap ≡ false → (i : ℕ) (k : ℕ → Bool) → Went n v gap i k → Forces n v gap k
  kept-forces small here zero k p = λ s q a. let e : s ≡ gap = agrees-all n gap s small q (rw p at a) in rw e here
  kept-forces small here (suc i) k p =
      ⊎_elim
      (λ (x : Forces n v gap (without p.0 (suc i)) × (k ≡ without p.0 (suc i))). rw x.1 x.0)
      (λ (x : (Forces n v gap (without p.0 (suc i)) → ⊥) × (k ≡ p.0)). rw x.1 (kept-forces small here i p.0 p.1))
      p.2

  -- none of k, but perhaps flags after i, can be dropped
  abbrev pub NoneOf : ℕ → (ℕ → Bool) → Type 0
  NoneOf i k = (j : ℕ) → 0 < j → j ≤ i → k j ≡ true → Forces n v gap (without k j) → ⊥

  none_left : (i : ℕ) (was : ℕ → Bool) → NoneOf i was → NoneOf (suc i) (without was (suc i))
  none_left i was o j a b h f =
      ⊎_elim
      (λ (z : j ≡ suc i). never (without was (suc i) j) h (rw z (gone was (suc i))))
      (λ (z : j ≡ suc i → ⊥).
      o j a (omega (arith, b, z)) (without-within was (suc i) j h)
      (forces-more n v gap (without (without was (suc i)) j) (without was j) (without-both (without was (suc i)) was j (without-within was (suc i)))
      f))
      (split-eq j (suc i))

  none-held : (i : ℕ) (was : ℕ → Bool) → NoneOf i was → (Forces n v gap (without was (suc i)) → ⊥) → NoneOf (suc i) was
  none-held i was o refused j a b h f =
      ⊎_elim
      (λ (z : j ≡ suc i). refused (rw z at f))
      (λ (z : j ≡ suc i → ⊥). o j a (omega (arith, b, z)) h f)
      (split-eq j (suc i))

  -- none of the kept flags can be dropped
  pub none_dropped : (i : ℕ) (k : ℕ → Bool) → Went n v gap i k → NoneOf i k
  none_dropped zero k p = λ j a b h f. omega (arith, a, b)
  none_dropped (suc i) k p =
      ⊎_elim
      (λ (x : Forces n v gap (without p.0 (suc i)) × (k ≡ without p.0 (suc i))). rw x.1 (none_left i p.0 (none_dropped i p.0 p.1)))
      (λ (x : (Forces n v gap (without p.0 (suc i)) → ⊥) × (k ≡ p.0)). rw x.1 (none-held i p.0 (none_dropped i p.0 p.1) x.0))
      p.2
