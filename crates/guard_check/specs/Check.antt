-- What check answers for a text at a depth.
use Rattle.std.specs.Prelude.{ℕ, ◌≡◌, List, length, leb, Result, Err, IsOkAnd}
use Rattle.notation.specs.Ceilings.{text_ceiling}
use Rattle.ground.specs.Choice.{choose}
use Rattle.notation.specs.Reading.{Reading, refusal, guard, reading}
use Rattle.saturation.specs.Answer.{Checked}
use Rattle.saturation.specs.declared.verdict.Verdict.{Verdict}
use Rattle.notation.specs.declared.refusal.Reason.TheVariants.{LongText, HighDepth}
use Rattle.notation.specs.declared.refusal.Refusal.{Refusal}
use Rattle.notation.specs.Refusals.{fault}

-- the depth of a check
abbrev pub depth_ceiling : ℕ
depth_ceiling = 24

-- a text over its ceiling is refused first, then a depth over its own; then the text decides
unfoldable pub asked : List ℕ → ℕ → Reading
asked text depth =
    choose (leb (length text) text_ceiling)
    (choose (leb depth depth_ceiling) (reading text) (refusal HighDepth 0))
    (refusal LongText text_ceiling)

-- a verdict, or a refusal
abbrev pub Checking : Type 0
Checking = Result Verdict Refusal

-- a refusal is passed on, and a guard is checked
abbrev pub ReadingSays : Reading → ℕ → Checking → Type 0
ReadingSays (refusal k p) depth r = r ≡ Err (fault k p)
ReadingSays (guard g u) depth r = IsOkAnd r (Checked (length u) g depth)

-- what check answers
abbrev pub CheckSays : List ℕ → ℕ → Checking → Type 0
CheckSays text depth r = ReadingSays (asked text depth) depth r
