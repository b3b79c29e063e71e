-- What putting the questions of a line asks and answers: some line stands in the pool, and what is answered holds of whichever does.
use Rattle.std.specs.Prelude.{ℕ, suc, ◌≤◌, ◌<◌, ◌≡◌, Bool, true, false, List, length, Option, Some, None}
use Rattle.notation.specs.Guard.{Guard}
use Rattle.saturation.specs.Answer.{Checked}
use Rattle.saturation.specs.declared.verdict.Verdict.{Verdict}
use Rattle.saturation.specs.declared.verdict.Verdict.TheVariants.{Covered, Gap, Undecided}
use Rattle.building.specs.declared.spans.GuardSpan.{GuardSpan}
use Rattle.questions.specs.Questions.{whole_of}
use Rattle.questions.specs.clauses.Laying.{LineHeld}
use Rattle.pack_check.specs.PackCheck.{PairIs, OverlapSays}
use Rattle.pack_check.specs.declared.verdict.Overlap.{Overlap}
use Rattle.pack_check.specs.declared.verdict.LineVerdict.{LineVerdict}

-- an answer is any other than covered
abbrev pub is_open : Verdict → Bool
is_open Covered = false
is_open (Gap s) = true
is_open Undecided = true

-- a line of n flags and so many variants stands in the pool
pub record Stands (pool : List ℕ) (spans : List GuardSpan) (n variants : ℕ) : Type 0 where
  pub rule : Guard
  pub vs : List Guard
  pub held : LineHeld n rule vs spans pool
  pub many : length vs ≡ variants

-- P holds of each such line
abbrev pub OfEach : List ℕ → List GuardSpan → ℕ → ℕ → (Guard → List Guard → Type 0) → Type 0
OfEach pool spans n variants P = (rule : Guard) (vs : List Guard) → LineHeld n rule vs spans pool → length vs ≡ variants → P rule vs

-- the whole question's answer
abbrev pub WholeAnswered : List ℕ → List GuardSpan → ℕ → ℕ → ℕ → Verdict → Type 0
WholeAnswered pool spans n variants depth r = OfEach pool spans n variants (λ rule vs. Checked n (whole_of rule vs) depth r)

-- that of a pair
abbrev pub PairAnswered : List ℕ → List GuardSpan → ℕ → ℕ → ℕ → ℕ → ℕ → Verdict → Type 0
PairAnswered pool spans n variants depth i j r = OfEach pool spans n variants (λ rule vs. PairIs n rule vs depth i j r)

-- the pairs of variant i before variant j are covered
abbrev pub RowCovered : List ℕ → List GuardSpan → ℕ → ℕ → ℕ → ℕ → ℕ → Type 0
RowCovered pool spans n variants depth i j = (b : ℕ) → i < b → b < j → PairAnswered pool spans n variants depth i b Covered

-- variant j is the first after variant i that is not covered with it, and v is the answer
pub record RowFound (pool : List ℕ) (spans : List GuardSpan) (n variants depth i first j : ℕ) (v : Verdict) : Type 0 where
  pub same : first ≡ i
  pub below : i < j
  pub last : j ≤ variants
  pub answer : PairAnswered pool spans n variants depth i j v
  pub not_covered : v ≡ Covered → ⊥
  pub before : RowCovered pool spans n variants depth i j

-- the pairs of variant i: all covered, or the first that is not
abbrev pub RowAnswered : List ℕ → List GuardSpan → ℕ → ℕ → ℕ → ℕ → Option Overlap → Type 0
RowAnswered pool spans n variants depth i None = RowCovered pool spans n variants depth i (suc variants)
RowAnswered pool spans n variants depth i (Some o) = RowFound pool spans n variants depth i o.first o.second o.verdict

-- the pairs of each variant before variant i are covered
abbrev pub RowsCovered : List ℕ → List GuardSpan → ℕ → ℕ → ℕ → ℕ → Type 0
RowsCovered pool spans n variants depth i = (a : ℕ) → 0 < a → a < i → RowCovered pool spans n variants depth a (suc variants)

-- all pairs: all covered, or the first that is not
abbrev pub PairsAnswered : List ℕ → List GuardSpan → ℕ → ℕ → ℕ → Option Overlap → Type 0
PairsAnswered pool spans n variants depth r = OfEach pool spans n variants (λ rule vs. OverlapSays n rule vs depth r)

-- both answers of a line
abbrev pub LineAnswered : List ℕ → List GuardSpan → ℕ → ℕ → ℕ → LineVerdict → Type 0
LineAnswered pool spans n variants depth r =
    WholeAnswered pool spans n variants depth r.whole × PairsAnswered pool spans n variants depth r.overlap
