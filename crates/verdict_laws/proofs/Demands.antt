-- The three demands, of texts: what check's statement says of a guard's truth and of the list of its gaps.
use Prim.Native.Nat.{ℕ, zero, suc, ◌+◌, ◌-◌, ◌^◌, ◌≤◌, ◌<◌}
use mathlib.Core.Path.{◌≡◌, refl, subst, ◌∙◌}
use mathlib.Core.Bool.{Bool, true, false}
use mathlib.Core.List.{List, ◌∷◌}
use mathlib.Core.Logic.{⊎_elim}
use native.Mathlib.Omega.{arith}
use native.Mathlib.Nat.{sub-zero}
use lib.ListN.{length}
use Rattle.notation.specs.Ceilings.{text_ceiling}
use Rattle.notation.specs.Walk.{Flag}
use Rattle.notation.specs.Guard.{Guard}
use Rattle.notation.specs.Reading.{Reading, guard, reading}
use Rattle.ground.proofs.Cases.{split-eq, lt-or-ge}
use Rattle.notation.proofs.Accepted.{reading-accepted}
use Rattle.notation.specs.declared.refusal.Reason.{Reason}
use Rattle.notation.specs.declared.refusal.Reason.TheVariants.{LongText, HighDepth}
use Rattle.truth.specs.Value.{value}
use Rattle.gaps.specs.Gaps.{false_from, gaps_from}
use Rattle.gaps.proofs.Ascending.{false-not, false-one}
use Rattle.truth.specs.clauses.Written.{Proper}
use Rattle.saturation.specs.Answer.{Checked}
use Rattle.verdict_laws.proofs.Guards.{checked-covered, checked-gap, checked-decided}
use Rattle.guard_check.specs.Check.{depth_ceiling, Checking, ReadingSays, CheckSays}
use Rattle.saturation.specs.declared.verdict.Verdict.{Verdict}
use Rattle.saturation.specs.declared.verdict.Verdict.TheVariants.{Covered, Gap, Undecided}
use Rattle.std.specs.Prelude.{Ok, Err}
use Rattle.guard_check.proofs.Checking.{asks-long, asks-deep, asks-text}

-- a number at which v is false, and below which it is true, is the first of the list
first-listed : (v : ℕ → Bool) (lo k s : ℕ) → lo ≤ s → s < lo + k → v s ≡ false → ((t : ℕ) → lo ≤ t → t < s → v t ≡ true)
    → (l : List ℕ) × (false_from v lo k ≡ s ∷ l)
first-listed v lo zero s a b f h = absurd (omega arith)
first-listed v lo (suc k) s a b f h =
    ⊎_elim
    (λ (q : s ≡ lo). rw q (false_from v (suc lo) k, false-one v lo k (rw q at f)))
    (λ (q : s ≡ lo → ⊥).
    let r : (l : List ℕ) × (false_from v (suc lo) k ≡ s ∷ l) = first-listed v (suc lo) k s (omega arith) (omega arith) f (λ t c d. h t (omega arith) d)
    in
    (r.0, false-not v lo k (h lo (omega arith) (omega arith)) ∙ r.1))
    (split-eq s lo)

-- a verdict is no refusal
pub verdict-no-refusal : (v : Verdict) (k : Reason) (p : ℕ) → ◌≡◌ {A = Checking} (Ok v) (Err (record { reason = k; place = p })) → ⊥
verdict-no-refusal v k p e = cc

module _ (text : List ℕ) (g : Guard) (u : List Flag) (says : reading text ≡ guard g u) (depth : ℕ) where
  proper : Proper (length u) g
  proper = record { few = (reading-accepted text g u says).few; within = (reading-accepted text g u says).within }

  -- a verdict on the text is one on its guard
  on-guard : (v : Verdict) → CheckSays text depth (Ok v) → Checked (length u) g depth v
  on-guard v h =
      ⊎_elim
      (λ (a : text_ceiling < length text). absurd (verdict-no-refusal v LongText text_ceiling (subst (λ (x : Reading). ReadingSays x depth (Ok v))
      (asks-long text depth a) h)))
      (λ (a : length text ≤ text_ceiling).
      ⊎_elim
      (λ (b : depth_ceiling < depth). absurd
      (verdict-no-refusal v HighDepth 0 (subst (λ (x : Reading). ReadingSays x depth (Ok v)) (asks-deep text depth a b) h)))
      (λ (b : depth ≤ depth_ceiling). subst (λ (x : Reading). ReadingSays x depth (Ok v)) (asks-text text depth a b ∙ says) h)
      (lt-or-ge depth_ceiling depth))
      (lt-or-ge text_ceiling (length text))

  -- covered is said only where the guard is true in every state
  pub covered-true : CheckSays text depth (Ok Covered) → (s : ℕ) → value (length u) s g ≡ true
  covered-true h =
      checked-covered (length u) g proper depth (on-guard Covered h)

  -- a gap that is named is the first of the list from state 0, and so a state that makes the guard false
  pub gap-first : (s : ℕ) → CheckSays text depth (Ok (Gap s)) → (l : List ℕ) × (gaps_from (length u) g 0 ≡ s ∷ l)
  unfolding gaps_from
  gap-first s h =
      let c = checked-gap (length u) g proper depth s (on-guard (Gap s) h) in
      let below : s < 2 ^ length u = c.0 in
      first-listed (λ t. value (length u) t g) 0 (2 ^ length u - 0) s (omega arith) (rw sub-zero (omega arith)) c.1 (true_below s c.2)
    where
      true_below : (s : ℕ) → ((t : ℕ) → value (length u) t g ≡ false → s ≤ t) → (t : ℕ) → 0 ≤ t → t < s → value (length u) t g
          ≡ true
      true_below s f t a b = by_value (value (length u) t g) (f t)
        where
          by_value : (x : Bool) → (x ≡ false → s ≤ t) → x ≡ true
          by_value true k = refl
          by_value false k = absurd (omega (arith, k refl))

  -- at a depth not below the number of flags the answer is never undecided
  pub never-undecided : length u ≤ depth → CheckSays text depth (Ok Undecided) → ⊥
  never-undecided a h =
      checked-decided (length u) g proper depth a (on-guard Undecided h)
