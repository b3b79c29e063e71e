-- A known gap is check's answer once each of its true flags is refuted as false: by truth tables alone at full depth,
-- and at a greater depth wherever it was the answer before.
use Prim.Native.Nat.{ℕ, zero, suc, ◌*◌, ◌-◌, ◌/◌, ◌%◌, ◌^◌, ◌≤◌, ◌<◌}
use mathlib.Core.Path.{◌≡◌}
use mathlib.Core.Bool.{true, false}
use mathlib.Core.List.{List, [], ◌∷◌}
use mathlib.Core.Logic.{⊎_elim}
use native.Mathlib.Omega.{arith}
use native.Mathlib.Nat.{div-eq_of_lt, div-lt_iff_lt-mul}
use lib.Pow.{pow_pos, shr_mono}
use Rattle.notation.specs.Guard.{Guard}
use Rattle.notation.specs.Triplets.{Triplet, negation, literal, triplets}
use Rattle.truth.specs.Value.{value}
use Rattle.ground.proofs.Cases.{lt-or-ge, parity}
use Rattle.saturation.specs.Saturation.{taken, Flags}
use Rattle.truth.specs.clauses.Written.{Proper}
use Rattle.saturation.specs.Answer.{flag_as, flags_as, Refuted, Trial, Answer}
use Rattle.saturation.proofs.Depth.{raised}
use Rattle.saturation.proofs.States.{first_of, first-all, first-half}
use Rattle.saturation.specs.declared.verdict.Verdict.TheVariants.{Covered, Gap}
use Rattle.saturation.proofs.Verdicts.{not-refuted, first-flags, next-as, gap-false}
use Rattle.saturation.proofs.Enough.{one-more-0, no-gap-refuted}

-- each flag that is 1 in the state s of i flags is refuted as 0, with those before it as in s
abbrev pub Confirms : (ℕ → Type 0) → List Triplet → ℕ → ℕ → ℕ → ℕ → Type 0
Confirms D ts root k zero s = s ≡ 0
Confirms D ts root k (suc i) s =
    Confirms D ts root k i (s / 2) × (s % 2 ≡ 1 → Refuted D ts root k (flag_as (suc i) 0 ∷ flags_as i (s / 2)))

-- a trial is a state of its flags
pub trial-below : (D : ℕ → Type 0) (ts : List Triplet) (root k i s : ℕ) → Trial D ts root k i s → s < 2 ^ i
trial-below D ts root k zero s t = omega arith
trial-below D ts root k (suc i) s t =
    let half : s / 2 < 2 ^ i = trial-below D ts root k i (s / 2) t.0 in
    let double : 2 ^ suc i ≡ 2 * 2 ^ i = omega arith in
    rw double (omega arith)

module _ (D : ℕ → Type 0) (n : ℕ) (g : Guard) (proper : Proper n g) where
  confirmed-trial : (k s : ℕ) → value n s g ≡ false → (i : ℕ) → i ≤ n → Confirms D (triplets 0 g) (literal 0 g) k i (first_of n s i)
      → Trial D (triplets 0 g) (literal 0 g) k i (first_of n s i)
  confirmed-trial k s e zero h c = c
  confirmed-trial k s e (suc i) h c =
      let half : first_of n s (suc i) / 2 ≡ first_of n s i = first-half n s i h in (
        rw half (confirmed-trial k s e i (omega arith) (rw half at c.0)),
        (
          c.1,
          λ r.
              ⊎_elim
              (λ (z : first_of n s (suc i) % 2 ≡ 0).
              absurd (not-refuted D n g proper k s (flag_as (suc i) 0 ∷ flags_as i (first_of n s i)) e (next-as D n g proper k s i h z) (rw half at r)))
              (λ (o : first_of n s (suc i) % 2 ≡ 1). o)
              (parity (first_of n s (suc i))),
        ),
      )

  -- a known gap is check's answer once each of its true flags is refuted as false
  pub confirmed : (k s : ℕ) → value n s g ≡ false → Confirms D (triplets 0 g) (literal 0 g) k n s
      → Answer D (triplets 0 g) (literal 0 g) k n (Gap s)
  confirmed k s e c = (
    not-refuted D n g proper k s [] e tt,
    rw (first-all n s) at (confirmed-trial k s e n (omega arith) (rw (first-all n s) c)),
    not-refuted D n g proper k s (flags_as n s) e (rw (first-all n s) at (first-flags D n g proper k s n (omega arith))),
  )

  trial-confirms : (j k : ℕ) → j ≤ k → (i s : ℕ) → Trial D (triplets 0 g) (literal 0 g) j i s → Confirms D (triplets 0 g) (literal 0 g) k i s
  trial-confirms j k h zero s t = t
  trial-confirms j k h (suc i) s t = (
    trial-confirms j k h i (s / 2) t.0,
    λ o. raised D (triplets 0 g) j k (taken (negation (literal 0 g) ∷ flag_as (suc i) 0 ∷ flags_as i (s / 2))) 0 1 h (t.1.0 o),
  )

  -- a greater depth keeps "covered"
  pub covered-kept : (j k : ℕ) → j ≤ k → Answer D (triplets 0 g) (literal 0 g) j n Covered → Answer D (triplets 0 g) (literal 0 g) k n Covered
  covered-kept j k h = raised D (triplets 0 g) j k (taken (negation (literal 0 g) ∷ [])) 0 1 h

  -- and "gap" with the same state
  pub gap-kept : (j k s : ℕ) → j ≤ k → Answer D (triplets 0 g) (literal 0 g) j n (Gap s) → Answer D (triplets 0 g) (literal 0 g) k n (Gap s)
  gap-kept j k s h a = confirmed k s (gap-false D n g proper j s a) (trial-confirms j k h n s a.1)

  -- at a depth not below n the answer is that of truth tables
  module _ (splits : (f : ℕ) → Flags n f → D f) (k : ℕ) (deep : n ≤ k) where
    pub full-covered : ((s : ℕ) → s < 2 ^ n → value n s g ≡ true) → Answer D (triplets 0 g) (literal 0 g) k n Covered
    unfolding flags_as
    full-covered all = no-gap-refuted D n g proper splits n 0 0 k (omega arith) deep
        (λ s e. all s (omega (arith, (div-lt_iff_lt-mul {k = 2 ^ n} {x = s} {y = 1} (pow_pos n)).0 (omega arith))))

    full-confirms : (s : ℕ) → ((t : ℕ) → t < s → value n t g ≡ true) → s < 2 ^ n → (i : ℕ) → i ≤ n
        → Confirms D (triplets 0 g) (literal 0 g) k i (first_of n s i)
    full-confirms s all b zero h = let e : n - 0 ≡ n = omega arith in rw e (div-eq_of_lt b)
    full-confirms s all b (suc i) h = (
      rw (first-half n s i h) (full-confirms s all b i (omega arith)),
      λ o.
          rw (one-more-0 i (first_of n s (suc i) / 2)) at
          (no-gap-refuted D n g proper splits (n - suc i) (suc i) (2 * (first_of n s (suc i) / 2)) k (omega arith) (omega arith)
          (λ t e.
          ⊎_elim
          (λ (less : t < s). all t less)
          (λ (more : s ≤ t). absurd (omega (arith, shr_mono (n - suc i) more)))
          (lt-or-ge t s))),
    )

    pub full-gap : (s : ℕ) → s < 2 ^ n → value n s g ≡ false → ((t : ℕ) → t < s → value n t g ≡ true)
        → Answer D (triplets 0 g) (literal 0 g) k n (Gap s)
    full-gap s b e all = confirmed k s e (rw (first-all n s) at (full-confirms s all b n (omega arith)))
