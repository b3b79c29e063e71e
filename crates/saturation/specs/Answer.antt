-- What check answers at a depth, by saturation and the trial of flags.
use Rattle.std.specs.Prelude.{ℕ, zero, suc, ◌+◌, ◌*◌, ◌/◌, ◌%◌, ◌≡◌, List, [], ◌∷◌, ◌↔◌}
use Rattle.notation.specs.Guard.{Guard}
use Rattle.notation.specs.Triplets.{Triplet, negation, literal, triplets}
use Rattle.saturation.specs.Saturation.{taken, Saturated, Flags}
use Rattle.saturation.specs.declared.verdict.Verdict.{Verdict}
use Rattle.saturation.specs.declared.verdict.Verdict.TheVariants.{Covered, Gap, Undecided}

-- the literal of flag i that is true where the flag is 1, or where it is 0
abbrev pub flag_as : ℕ → ℕ → ℕ
flag_as i zero = 2 * i + 1
flag_as i (suc b) = 2 * i

-- flags 1 to i as the state s of i flags has them: the last flag is its lowest bit
unfoldable pub flags_as : ℕ → ℕ → List ℕ
flags_as zero s = []
flags_as (suc i) s = flag_as (suc i) (s % 2) ∷ flags_as i (s / 2)

module _ (D : ℕ → Type 0) (ts : List Triplet) (root k : ℕ) where
  -- the k-saturation of "root = false", with the literals of a list taken as true, is contradictory
  abbrev pub Refuted : List ℕ → Type 0
  Refuted ls = Saturated D ts k (taken (negation root ∷ ls)) 0 1

  -- s is the state of flags 1 to i that the trial fixes: a flag is 1 where 0, added to those before it, is contradictory
  abbrev pub Trial : ℕ → ℕ → Type 0
  Trial zero s = s ≡ 0
  Trial (suc i) s = Trial i (s / 2) × ((s % 2 ≡ 1) ↔ Refuted (flag_as (suc i) 0 ∷ flags_as i (s / 2)))

  -- the answer of check for a guard of n flags
  abbrev pub Answer : ℕ → Verdict → Type 0
  Answer n Covered = Refuted []
  Answer n (Gap s) = (Refuted [] → ⊥) × Trial n s × (Refuted (flags_as n s) → ⊥)
  Answer n Undecided = (Refuted [] → ⊥) × ((s : ℕ) × Trial n s × Refuted (flags_as n s))

-- what check answers for a guard of n flags at depth k, splitting on flags
abbrev pub Checked : ℕ → Guard → ℕ → Verdict → Type 0
Checked n g k v = Answer (Flags n) (triplets 0 g) (literal 0 g) k n v
