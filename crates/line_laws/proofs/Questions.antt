-- The demands on check's answer, of the questions that are put of a pack.
use Prim.Native.Nat.{ℕ, suc, ◌^◌, ◌≤◌, ◌<◌}
use native.Mathlib.Omega.{arith}
use mathlib.Core.Path.{◌≡◌}
use mathlib.Core.Bool.{true, false}
use mathlib.Core.List.{List}
use Rattle.notation.specs.Guard.{Guard}
use Rattle.notation.specs.clauses.Shape.{FlagsWithin}
use Rattle.truth.specs.clauses.Written.{Proper}
use Rattle.truth.specs.Value.{value}
use Rattle.saturation.specs.Answer.{Checked}
use Rattle.saturation.specs.declared.verdict.Verdict.TheVariants.{Covered, Gap, Undecided}
use Rattle.verdict_laws.proofs.Guards.{checked-covered, checked-gap, checked-decided}
use Rattle.questions.specs.Questions.{whole_of, apart, pair_of}
use Rattle.questions.proofs.Within.{any-within}
use Rattle.packs.specs.Pack.{Line, line, pack_read}
use Rattle.pack_check.specs.PackCheck.{IsPair}
use Rattle.line_laws.specs.Promises.{flags_of, ProperLine, Question, whole, pair}
use Rattle.line_laws.proofs.Lines.{line-proper}

module _ (l : Line) (h : ProperLine l) where
  whole-within : FlagsWithin (flags_of l) (whole_of l.rule l.variants)
  unfolding whole_of
  whole-within = (h.rule.within, any-within (flags_of l) l.variants (λ m b. (h.variants (suc m) (omega arith) (omega (arith, b))).within))

  pair-within : (i j : ℕ) → IsPair l.variants i j → FlagsWithin (flags_of l) (pair_of l.rule l.variants i j)
  unfolding apart
  pair-within i j p = (
    h.rule.within,
    (
      (h.variants i p.first (omega (arith, p.below, p.last))).within,
      (h.variants j (omega (arith, p.first, p.below)) p.last).within,
    ),
  )

  proper : (q : Guard) → Question l q → Proper (flags_of l) q
  proper q whole = record { few = h.rule.few; within = whole-within }
  proper q (pair i j p) = record { few = h.rule.few; within = pair-within i j p }

module _ (file : List ℕ) (l : Line) (says : pack_read file ≡ line l) (q : Guard) (put : Question l q) where
  -- each question has its flags among the pack's
  pub question-proper : Proper (flags_of l) q
  question-proper = proper l (line-proper file l says) q put

  -- covered is said of a question only where it is true in every state
  pub question-covered : (k : ℕ) → Checked (flags_of l) q k Covered → (s : ℕ) → value (flags_of l) s q ≡ true
  question-covered = checked-covered (flags_of l) q question-proper

  -- a gap that is named, at any depth, is a state that makes the question false, and the first
  pub question-gap : (k s : ℕ) → Checked (flags_of l) q k (Gap s)
      → (s < 2 ^ flags_of l) × (value (flags_of l) s q ≡ false) × ((t : ℕ) → value (flags_of l) t q ≡ false → s ≤ t)
  question-gap = checked-gap (flags_of l) q question-proper

  -- at a depth not below the number of the pack's flags the answer is never undecided
  pub question-decided : (k : ℕ) → flags_of l ≤ k → Checked (flags_of l) q k Undecided → ⊥
  question-decided = checked-decided (flags_of l) q question-proper
