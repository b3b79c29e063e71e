-- The outline's trial, line by line: "root = false" is saturated; then flag after flag is added, and saturated again.
use Rattle.std.specs.Prelude.{ℕ, suc, ◌^◌, ◌<◌, ◌≡◌, true, List, [], ◌∷◌, ◌↔◌}
use Rattle.notation.specs.Guard.{Guard}
use Rattle.notation.specs.Triplets.{Triplet, negation, literal, triplets}
use Rattle.relation.specs.Relation.{Rel, Within}
use Rattle.saturation.specs.Saturation.{taking, taken, SaturationOf, Flags}
use Rattle.saturation.specs.Answer.{flag_as, flags_as, Refuted, Trial}
use Rattle.saturation.specs.declared.verdict.Verdict.{Verdict}
use Rattle.saturation.specs.declared.verdict.Verdict.TheVariants.{Covered, Gap, Undecided}

-- a relation is contradictory where it holds true = false
abbrev pub Contradictory : Rel → Type 0
Contradictory T = T 0 1 ≡ true

-- S is "root = false", saturated at depth k
abbrev pub Started : (ℕ → Type 0) → List Triplet → ℕ → ℕ → Rel → Type 0
Started D ts root k S = SaturationOf D ts k (taken (negation root ∷ [])) S

-- T is U with flag f added as false (bit 0) or as true (bit 1), saturated at depth k
abbrev pub Added : (ℕ → Type 0) → List Triplet → ℕ → ℕ → ℕ → Rel → Rel → Type 0
Added D ts k f b U T = SaturationOf D ts k (taking U (flag_as f b)) T

-- flag f is tried: from U on to T
pub data Tried (D : ℕ → Type 0) (ts : List Triplet) (k f : ℕ) (U T : Rel) : Type 0 where
  -- add "flag false" and saturate at k
  as-false : Added D ts k f 0 U T → (Contradictory T → ⊥) → Tried D ts k f U T
  -- if that is contradictory, add "flag true" instead and saturate
  as-true : {F : Rel} → Added D ts k f 0 U F → Contradictory F → Added D ts k f 1 U T → Tried D ts k f U T

-- go through flags 1 to i: from S on to T
pub data Through (D : ℕ → Type 0) (ts : List Triplet) (k : ℕ) (S : Rel) : ℕ → Rel → Type 0 where
  no_flag : Through D ts k S 0 S
  next-flag : {i : ℕ} {U T : Rel} → Through D ts k S i U → Tried D ts k (suc i) U T → Through D ts k S (suc i) T

-- s is a state of n flags that T fixes: T holds each flag as s has it
abbrev pub Fixes : ℕ → Rel → ℕ → Type 0
Fixes n T s = (s < 2 ^ n) × Within (taken (flags_as n s)) T

-- the outline's answer for n flags
pub data Outline (D : ℕ → Type 0) (ts : List Triplet) (root k n : ℕ) : Verdict → Type 0 where
  -- contradictory: covered
  is-covered : {S : Rel} → Started D ts root k S → Contradictory S → Outline D ts root k n Covered
  -- else go through flags 1 to n: if the last relation is not contradictory the state it fixes is the gap
  is-gap : {S T : Rel} {s : ℕ} → Started D ts root k S → (Contradictory S → ⊥)
      → Through D ts k S n T → (Contradictory T → ⊥) → Fixes n T s → Outline D ts root k n (Gap s)
  -- otherwise undecided
  is-undecided : {S T : Rel} → Started D ts root k S → (Contradictory S → ⊥)
      → Through D ts k S n T → Contradictory T → Outline D ts root k n Undecided

-- the state s of flags 1 to i is the one that `Trial` names; T fixes it, and is contradictory exactly where it is refuted
pub record Reached (D : ℕ → Type 0) (ts : List Triplet) (root k i : ℕ) (T : Rel) (s : ℕ) : Type 0 where
  pub trial : Trial D ts root k i s
  pub fixes : Fixes i T s
  pub refuted : Contradictory T ↔ Refuted D ts root k (flags_as i s)

-- the outline's answer for a guard of n flags at depth k: its triplets, its root literal, and splits on its flags
abbrev pub OutlineSays : ℕ → Guard → ℕ → Verdict → Type 0
OutlineSays n g k v = Outline (Flags n) (triplets 0 g) (literal 0 g) k n v
