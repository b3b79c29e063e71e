-- What deciding on triplets answers, and what fixing a flag in the trial does.
use Rattle.std.specs.Prelude.{ℕ, ◌*◌, ◌≤◌, ◌≡◌, List, ◌↔◌, length}
use Rattle.notation.specs.Ceilings.{connective_ceiling}
use Rattle.notation.specs.Guard.{Guard}
use Rattle.truth.specs.clauses.Written.{Begins}
use Rattle.relation.specs.clauses.Classes.{Classes, kept}
use Rattle.steps.specs.clauses.Resting.{in_use, triplets_at}
use Rattle.saturation.specs.Saturation.{taking, Saturated, SaturationOf, Flags}
use Rattle.saturation.specs.Answer.{flag_as, Answer}
use Rattle.gaps.specs.declared.writing.Found.{Found}
use Rattle.gaps.specs.declared.writing.Found.TheVariants.{Done, More}
use Rattle.saturation.specs.declared.verdict.Verdict.{Verdict}
use Rattle.saturation.specs.declared.verdict.Verdict.TheVariants.{Covered, Gap}

-- xs begins with the c triplets of a guard of n flags, and root is its literal
pub record FromGuard (xs : List ℕ) (c n root : ℕ) : Type 0 where
  pub guard : Guard
  pub begins : Begins n c root guard xs
  pub room : (c ≤ connective_ceiling) × (3 * c ≤ length xs)

-- what check answers at depth k for the first c triplets over n flags
abbrev pub Decided : List ℕ → ℕ → ℕ → ℕ → ℕ → Verdict → Type 0
Decided xs c n root k r = Answer (Flags n) (triplets_at xs c) root k n r

-- what check answers at each depth that is not below the number of flags
abbrev pub FullyDecided : List ℕ → ℕ → ℕ → ℕ → Verdict → Type 0
FullyDecided xs c n root r = (k : ℕ) → n ≤ k → Decided xs c n root k r

-- no gap found is covered
abbrev pub first_gap : Found → Verdict
first_gap (Done m) = Covered
first_gap (More m s) = Gap s

-- the flag f fixed to the value b, and saturated: to 1 exactly where 0 is contradictory
pub record Tested (triplets : List ℕ) (c n k f : ℕ) (xs : List ℕ) (b : ℕ) (ys : List ℕ) : Type 0 where
  pub bit : b ≤ 1
  pub classes : Classes (in_use c) ys
  pub saturated : SaturationOf (Flags n) (triplets_at triplets c) k (taking (kept xs) (flag_as f b)) (kept ys)
  pub refuted : (b ≡ 1) ↔ Saturated (Flags n) (triplets_at triplets c) k (taking (kept xs) (flag_as f 0)) 0 1
