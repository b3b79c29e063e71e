-- What is decided of a question that has been laid is check's answer for it.
use Prim.Native.Nat.{ℕ, ◌*◌, ◌≤◌, ◌<◌}
use mathlib.Core.Path.{◌≡◌, refl, sym, ap, ◌∙◌}
use mathlib.Core.Bool.{true, false, true≢false}
use mathlib.Core.List.{List}
use native.Mathlib.Omega.{arith}
use lib.ListN.{length}
use Rattle.notation.specs.Ceilings.{flag_ceiling, connective_ceiling}
use Rattle.notation.specs.Guard.{Guard, connectives}
use Rattle.notation.specs.clauses.Shape.{FlagsWithin}
use Rattle.levels.specs.clauses.Levels.{Writes}
use Rattle.truth.specs.clauses.Written.{Begins}
use Rattle.saturation.specs.Answer.{Checked}
use Rattle.saturation.specs.declared.verdict.Verdict.{Verdict}
use Rattle.saturation.specs.declared.verdict.Verdict.TheVariants.{Covered, Gap, Undecided}
use Rattle.guard_check.specs.clauses.Deciding.{FromGuard, Decided}
use Rattle.guard_check.proofs.Tables.{of_guard}
use Rattle.building.specs.declared.spans.GuardSpan.{GuardSpan}
use Rattle.questions.specs.Questions.{whole_of, pair_of}
use Rattle.questions.specs.clauses.Laying.{PairLaid, WholeLaid}
use Rattle.questions.specs.declared.Built.{Built}
use Rattle.pack_check.specs.clauses.Asking.{is_open, Stands, WholeAnswered, PairAnswered}
use Rattle.questions.proofs.Within.{whole-within, pair-within, whole-fits, pair-in-ceiling}

-- what is not open is covered
pub closed-covered : (v : Verdict) → is_open v ≡ false → v ≡ Covered
closed-covered Covered e = refl
closed-covered (Gap s) e = absurd (true≢false e)
closed-covered Undecided e = absurd (true≢false e)

pub open-not-covered : (v : Verdict) → is_open v ≡ true → v ≡ Covered → ⊥
open-not-covered v e c = true≢false (sym e ∙ ap is_open c)

-- a guard that has been written after no others is one whose triplets the table begins with
module _ (n c root : ℕ) (g : Guard) (out out' : List ℕ) (few : n ≤ flag_ceiling) (within : FlagsWithin n g) (w : Writes 0 c out out' g root) where
  begun : Begins n c root g out'
  begun = record { few = few; within = within; count = omega (arith, w.count); literal = w.literal; written = w.written }

  from-laid : connectives g ≤ connective_ceiling → length out' ≡ 3 * connective_ceiling → FromGuard out' c n root
  from-laid h l = record { guard = g; begins = begun; room = (omega (arith, w.count), omega (arith, w.count)) }

  laid-says : (depth : ℕ) (r : Verdict) → Decided out' c n root depth r → Checked n g depth r
  laid-says depth r a = of_guard out' c n root g begun depth r a

module _ (pool : List ℕ) (spans : List GuardSpan) (n variants : ℕ) (out out' : List ℕ) (b : Built) where
  -- the whole question can be decided, and what is decided is its answer
  pub whole-asks : WholeLaid pool spans variants out out' b → Stands pool spans n variants → FromGuard out' b.count n b.root
  whole-asks w s =
      from-laid n b.count b.root (whole_of s.rule s.vs) out out' s.held.few
      (whole-within n s.rule s.vs spans pool s.held) (w.writes n s.rule s.vs s.held s.many)
      (whole-fits n s.rule s.vs spans pool s.held) w.room

  pub whole_says : WholeLaid pool spans variants out out' b → (depth : ℕ) (r : Verdict) → Decided out' b.count n b.root depth r
      → WholeAnswered pool spans n variants depth r
  whole_says w depth r a rule vs held many =
      laid-says n b.count b.root (whole_of rule vs) out out' held.few (whole-within n rule vs spans pool held)
      (w.writes n rule vs held many) depth r a

  -- so is that of a pair
  pub pair-asks : (i j : ℕ) → PairLaid pool spans i j out out' b → Stands pool spans n variants → 0 < i → i < j → j ≤ variants
      → FromGuard out' b.count n b.root
  pair-asks i j w s f h l =
      from-laid n b.count b.root (pair_of s.rule s.vs i j) out out' s.held.few
      (pair-within n s.rule s.vs spans pool s.held i j (omega (arith, s.many)) (omega (arith, s.many)))
      (w.writes n s.rule s.vs s.held (omega (arith, s.many)))
      (pair-in-ceiling n s.rule s.vs spans pool s.held i j f h (omega (arith, s.many))) w.room

  pub pair-says : (i j : ℕ) → PairLaid pool spans i j out out' b → i < j → j ≤ variants → (depth : ℕ) (r : Verdict)
      → Decided out' b.count n b.root depth r → PairAnswered pool spans n variants depth i j r
  pair-says i j w h l depth r a rule vs held many =
      laid-says n b.count b.root (pair_of rule vs i j) out out' held.few
      (pair-within n rule vs spans pool held i j (omega (arith, many)) (omega (arith, many)))
      (w.writes n rule vs held (omega (arith, many))) depth r a
