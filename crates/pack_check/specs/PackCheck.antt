-- What the check of a line pack answers at a depth: for the whole line, and for the first pair of variants that is not covered.
use Rattle.std.specs.Prelude.{ℕ, ◌≤◌, ◌<◌, ◌≡◌, ◌⊎◌, List, length, leb, Option, Some, None, Result, Ok, Err, IsOkAnd}
use Rattle.ground.specs.Choice.{choose}
use Rattle.notation.specs.Refusals.{fault}
use Rattle.notation.specs.Guard.{Guard}
use Rattle.saturation.specs.Answer.{Checked}
use Rattle.saturation.specs.declared.verdict.Verdict.{Verdict}
use Rattle.saturation.specs.declared.verdict.Verdict.TheVariants.{Covered}
use Rattle.guard_check.specs.Check.{depth_ceiling}
use Rattle.questions.specs.Questions.{whole_of, pair_of}
use Rattle.packs.specs.Pack.{PackReading, refusal, line, pack_read}
use Rattle.pack_check.specs.declared.verdict.Overlap.{Overlap}
use Rattle.pack_check.specs.declared.verdict.LineVerdict.{LineVerdict}
use Rattle.notation.specs.declared.refusal.Reason.TheVariants.{HighDepth}
use Rattle.notation.specs.declared.refusal.Refusal.{Refusal}

-- both answers of a line, or the refusal of its pack
abbrev pub PackVerdict : Type 0
PackVerdict = Result LineVerdict Refusal

-- these two answers of a line
abbrev pub line_with : Verdict → Option Overlap → PackVerdict
line_with w o = Ok (record { whole = w; overlap = o })

-- the pair i, j with this answer
abbrev pub pair_with : ℕ → ℕ → Verdict → Option Overlap
pair_with i j v = Some (record { first = i; second = j; verdict = v })

-- a depth over its ceiling is refused first; then the pack decides
unfoldable pub asked : List ℕ → ℕ → PackReading
asked file depth = choose (leb depth depth_ceiling) (pack_read file) (refusal (fault HighDepth 0))

-- i and j are two of the variants, counted from 1, i below j
pub record IsPair (variants : List Guard) (i j : ℕ) : Type 0 where
  pub first : 0 < i
  pub below : i < j
  pub last : j ≤ length variants

-- the pair a, b stands before the pair i, j: by the first and then the second
abbrev pub Before : ℕ → ℕ → ℕ → ℕ → Type 0
Before a b i j = (a < i) ⊎ ((a ≡ i) × (b < j))

module _ (n : ℕ) (rule : Guard) (variants : List Guard) (depth : ℕ) where
  -- check's answer for the pair i, j, over all n flags of the pack
  abbrev pub PairIs : ℕ → ℕ → Verdict → Type 0
  PairIs i j v = Checked n (pair_of rule variants i j) depth v

  -- i, j is the first pair that is not covered, and v is its answer
  pub record FirstPair (i j : ℕ) (v : Verdict) : Type 0 where
    pub pair : IsPair variants i j
    pub answer : PairIs i j v
    pub not_covered : v ≡ Covered → ⊥
    pub before : (a b : ℕ) → IsPair variants a b → Before a b i j → PairIs a b Covered

  -- no pair, where every one is covered; or the first that is not
  abbrev pub OverlapSays : Option Overlap → Type 0
  OverlapSays None = (i j : ℕ) → IsPair variants i j → PairIs i j Covered
  OverlapSays (Some o) = FirstPair o.first o.second o.verdict

  -- both answers of a line
  pub record LineSays (whole : Verdict) (overlap : Option Overlap) : Type 0 where
    pub whole-line : Checked n (whole_of rule variants) depth whole
    pub pairs : OverlapSays overlap

-- a refusal is passed on, and a line is answered
abbrev pub PackReadingSays : PackReading → ℕ → PackVerdict → Type 0
PackReadingSays (refusal f) depth r = r ≡ Err f
PackReadingSays (line l) depth r = IsOkAnd r (λ v. LineSays (length l.flags) l.rule l.variants depth v.whole v.overlap)

-- what the check of a pack answers
abbrev pub PackChecked : List ℕ → ℕ → PackVerdict → Type 0
PackChecked file depth r = PackReadingSays (asked file depth) depth r
