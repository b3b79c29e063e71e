-- What a reader may rely on: the demands on check's answer, as theorems about what check is said to answer.
use Prim.Native.Nat.{ℕ, ◌^◌, ◌≤◌, ◌<◌}
use mathlib.Core.Path.{◌≡◌}
use mathlib.Core.Bool.{true, false}
use Rattle.notation.specs.Guard.{Guard}
use Rattle.notation.specs.Triplets.{literal, triplets}
use Rattle.truth.specs.Value.{value}
use Rattle.saturation.specs.Saturation.{Flags}
use Rattle.truth.specs.clauses.Written.{Proper}
use Rattle.saturation.specs.Answer.{Checked}
use Rattle.saturation.specs.declared.verdict.Verdict.{Verdict}
use Rattle.saturation.specs.declared.verdict.Verdict.TheVariants.{Covered, Gap, Undecided}
use Rattle.saturation.proofs.Verdicts.{covered-true, gap-false, gap-first, answer-unique}
use Rattle.saturation.proofs.Enough.{never-undecided}
use Rattle.saturation.proofs.Confirmed.{trial-below, covered-kept, gap-kept, full-covered, full-gap}

-- no second answer satisfies check's statement
pub checked-unique : (n : ℕ) (g : Guard) (k : ℕ) (v w : Verdict) → Checked n g k v → Checked n g k w → v ≡ w
checked-unique n g k = answer-unique (Flags n) (triplets 0 g) (literal 0 g) k n

module _ (n : ℕ) (g : Guard) (proper : Proper n g) where
  -- covered is said only where the guard is true in every state
  pub checked-covered : (k : ℕ) → Checked n g k Covered → (s : ℕ) → value n s g ≡ true
  checked-covered = covered-true (Flags n) n g proper

  -- a gap that is named, at any depth, is a state that makes the guard false, and the first
  pub checked-gap : (k s : ℕ) → Checked n g k (Gap s) → (s < 2 ^ n) × (value n s g ≡ false) × ((t : ℕ) → value n t g ≡ false → s ≤ t)
  checked-gap k s a =
      (trial-below (Flags n) (triplets 0 g) (literal 0 g) k n s a.1, gap-false (Flags n) n g proper k s a, gap-first (Flags n) n g proper k s a)

  -- at a depth not below the number of flags the answer is never undecided
  pub checked-decided : (k : ℕ) → n ≤ k → Checked n g k Undecided → ⊥
  checked-decided = never-undecided (Flags n) n g proper (λ f h. h)

  -- there it is the answer of truth tables: covered, or the first gap
  pub checked-full : (k : ℕ) → n ≤ k → ((s : ℕ) → s < 2 ^ n → value n s g ≡ true) → Checked n g k Covered
  checked-full = full-covered (Flags n) n g proper (λ f h. h)

  pub checked-full-gap : (k : ℕ) → n ≤ k → (s : ℕ) → s < 2 ^ n → value n s g ≡ false → ((t : ℕ) → t < s → value n t g ≡ true)
      → Checked n g k (Gap s)
  checked-full-gap = full-gap (Flags n) n g proper (λ f h. h)

  -- a greater depth keeps "covered", and "gap" with its state
  pub checked-deeper : (j k : ℕ) → j ≤ k → Checked n g j Covered → Checked n g k Covered
  checked-deeper = covered-kept (Flags n) n g proper

  pub checked-deeper-gap : (j k s : ℕ) → j ≤ k → Checked n g j (Gap s) → Checked n g k (Gap s)
  checked-deeper-gap = gap-kept (Flags n) n g proper
