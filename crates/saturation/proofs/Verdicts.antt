-- Check's answer: covered is said only of a guard that is true in every state, a gap is the first state that makes
-- it false, no second answer holds, and from depth n up the answer is never undecided.
use Prim.Native.Nat.{ℕ, zero, suc, ◌*◌, ◌-◌, ◌/◌, ◌%◌, ◌≤◌, ◌<◌}
use mathlib.Core.Path.{◌≡◌, refl, sym, ap, ◌∙◌}
use mathlib.Core.Bool.{Bool, true, false, not}
use mathlib.Core.List.{List, [], ◌∷◌}
use mathlib.Core.Logic.{⊎_elim}
use native.Mathlib.Omega.{arith}
use Rattle.notation.specs.Guard.{Guard}
use Rattle.notation.specs.Triplets.{Triplet, negation, literal, triplets}
use Rattle.relation.specs.Relation.{Rel, IsRelation}
use Rattle.truth.specs.Value.{value}
use Rattle.ground.specs.Bits.{bit}
use Rattle.truth.specs.clauses.Computed.{literal_value}
use Rattle.truth.proofs.Literals.{literal-even, literal-negation}
use Rattle.ground.proofs.Cases.{split-eq, either, parity}
use Rattle.steps.specs.Rest.{NoStepEnlarges}
use Rattle.steps.proofs.Sides.{negation-twice}
use Rattle.saturation.specs.Saturation.{taken, Saturated}
use Rattle.truth.specs.clauses.Written.{Proper}
use Rattle.saturation.specs.Answer.{flag_as, flags_as, Refuted, Trial, Answer}
use Rattle.saturation.specs.declared.verdict.Verdict.{Verdict}
use Rattle.saturation.specs.declared.verdict.Verdict.TheVariants.{Covered, Gap, Undecided}
use Rattle.saturation.proofs.Taking.{HoldsAll, above-taken, taken-above}
use Rattle.saturation.proofs.Depth.{stable-rest}
use Rattle.saturation.proofs.Truth.{AllTrue, Satisfying, agreeing, all_held, true-literal, false-literal, saturated-true, never-refuted}
use Rattle.saturation.proofs.Fixed.{root_tied, literal_for}
use Rattle.saturation.proofs.States.{not-both, first_of, first-all, first-half, first-true, first-tied}
use Rattle.saturation.proofs.Valuations.{valuation, valuation-satisfies, valuation-flags, valuation-root}

for-value : (v : ℕ → Bool) → v 0 ≡ true → (b : Bool) → literal_value v (literal_for b) ≡ b
for-value v top true = true-literal v top
for-value v top false = false-literal v top

module _ (D : ℕ → Type 0) (n : ℕ) (g : Guard) (proper : Proper n g) (k : ℕ) where
  -- the literals taken as true, with "root = false"
  abbrev pub Refutes : List ℕ → Type 0
  Refutes ls = Refuted D (triplets 0 g) (literal 0 g) k ls

  abbrev pub Tries : ℕ → ℕ → Type 0
  Tries i s = Trial D (triplets 0 g) (literal 0 g) k i s

  -- a state that makes the guard false and the literals of a list true is never refuted
  pub not-refuted : (s : ℕ) (ls : List ℕ) → value n s g ≡ false → AllTrue (valuation n g s) ls → Refutes ls → ⊥
  not-refuted s ls e h =
      never-refuted D (triplets 0 g) (valuation n g s) (valuation-satisfies n g proper s) k (negation (literal 0 g) ∷ ls)
      (literal-negation (valuation n g s) (literal 0 g) ∙ ap not (valuation-root n g proper s ∙ e), h)

  pub first-flags : (s i : ℕ) → i ≤ n → AllTrue (valuation n g s) (flags_as i (first_of n s i))
  first-flags s = first-true n s (valuation n g s) (valuation-flags n g proper s)

  -- flags that are refuted leave no state that makes the guard false
  pub refuted-true : (i s : ℕ) → i ≤ n → Refutes (flags_as i (first_of n s i)) → value n s g ≡ true
  refuted-true i s h r =
      ⊎_elim (λ (e : value n s g ≡ true). e)
      (λ (e : value n s g ≡ false). absurd (not-refuted s (flags_as i (first_of n s i)) e (first-flags s i h) r))
      (either (value n s g))

  -- demand: covered is said only where the guard is true in every state
  pub covered-true : Answer D (triplets 0 g) (literal 0 g) k n Covered → (s : ℕ) → value n s g ≡ true
  covered-true r s =
      ⊎_elim (λ (e : value n s g ≡ true). e) (λ (e : value n s g ≡ false). absurd (not-refuted s [] e tt r))
      (either (value n s g))

  -- a flag that is tied where "root = false" is saturated is so in every state that makes the guard false
  pub tied-in-gaps : (s i : ℕ) (b : Bool) → value n s g ≡ false → 0 < i → i ≤ n
      → Saturated D (triplets 0 g) k (taken (negation (literal 0 g) ∷ [])) (2 * i) (literal_for b) → bit s (n - i) ≡ b
  tied-in-gaps s i b e p q h =
      let v : ℕ → Bool = valuation n g s in
      let fits : Satisfying (triplets 0 g) v = valuation-satisfies n g proper s in
      sym (valuation-flags n g proper s i p q)
      ∙ sym (literal-even v (2 * i) i refl)
      ∙ saturated-true D (triplets 0 g) v fits k (taken (negation (literal 0 g) ∷ [])) (2 * i) (literal_for b)
      (above-taken (agreeing v) (negation (literal 0 g) ∷ [])
      (all_held v fits.top (negation (literal 0 g) ∷ [])
      (literal-negation v (literal 0 g) ∙ ap not (valuation-root n g proper s ∙ e), tt)))
      h
      ∙ for-value v fits.top b

  -- where true is the guard's value, holding its flags and "root = false" is contradictory
  both-roots : (A : Rel) → IsRelation A → A (literal 0 g) 0 ≡ true → A (negation (literal 0 g)) 0 ≡ true → A 0 1 ≡ true
  unfolding negation
  both-roots A r p q =
      r.transitive 0 (literal 0 g) 1 (r.symmetric (literal 0 g) 0 p)
      (rw (negation-twice (literal 0 g)) at (r.negating (negation (literal 0 g)) 0 q))

  pub tied-contradicts : (s : ℕ) (A : Rel) → value n s g ≡ true → IsRelation A → NoStepEnlarges (triplets 0 g) A
      → A (negation (literal 0 g)) 0 ≡ true → ((i : ℕ) → 0 < i → i ≤ n → A (2 * i) (literal_for (bit s (n - i))) ≡ true) → A 0 1 ≡ true
  tied-contradicts s A e r rests root tied = both-roots A r (rw e at (root_tied A r n s tied g 0 proper.within rests)) root

  pub all-fixed : (s : ℕ) (A : Rel) → value n s g ≡ true → IsRelation A → NoStepEnlarges (triplets 0 g) A
      → A (negation (literal 0 g)) 0 ≡ true → HoldsAll A (flags_as n s) → A 0 1 ≡ true
  all-fixed s A e r rests root flags =
      tied-contradicts s A e r rests root (λ i p q. first-tied n s A r n (omega arith) (rw (first-all n s) flags) i p q)

  pub fixed-refuted : (s : ℕ) → value n s g ≡ true → Refutes (flags_as n s)
  fixed-refuted s e A r w stable =
      let holds : HoldsAll A (negation (literal 0 g) ∷ flags_as n s) = taken-above A (negation (literal 0 g) ∷ flags_as n s) w in
      all-fixed s A e r (stable-rest D (triplets 0 g) k A stable) holds.0 holds.1

  -- demand: a gap that is named makes the guard false
  pub gap-false : (s : ℕ) → Answer D (triplets 0 g) (literal 0 g) k n (Gap s) → value n s g ≡ false
  gap-false s a =
      ⊎_elim (λ (e : value n s g ≡ true). absurd (a.2 (fixed-refuted s e))) (λ (e : value n s g ≡ false). e)
      (either (value n s g))

  -- the flag after the first i as 0, with those before it, where that is how t has them
  pub next-as : (t i : ℕ) → suc i ≤ n → first_of n t (suc i) % 2 ≡ 0 → AllTrue (valuation n g t) (flag_as (suc i) 0 ∷ flags_as i (first_of n t i))
  unfolding flags_as
  next-as t i h e = rw (e, first-half n t i h) at (first-flags t (suc i) h)

  -- the trial never passes over a state that makes the guard false
  not-passed : (t : ℕ) → value n t g ≡ false → (i p : ℕ) → i ≤ n → Tries i p → p ≤ first_of n t i
  not-passed t e zero p h trial = omega arith
  not-passed t e (suc i) p h trial =
      let q : ℕ = first_of n t (suc i) in
      let before : p / 2 ≤ q / 2 = rw (first-half n t i h) (not-passed t e i (p / 2) (omega arith) trial.0) in
      ⊎_elim
      (λ (same : p / 2 ≡ q / 2).
      ⊎_elim
      (λ (zero : p % 2 ≡ 0). omega arith)
      (λ (one : p % 2 ≡ 1).
      ⊎_elim
      (λ (none : q % 2 ≡ 0).
      absurd
      (not-refuted t (flag_as (suc i) 0 ∷ flags_as i (first_of n t i)) e (next-as t i h none)
      (rw (same ∙ first-half n t i h) at (trial.1.0 one))))
      (λ (some : q % 2 ≡ 1). omega arith)
      (parity q))
      (parity p))
      (λ (other : p / 2 ≡ q / 2 → ⊥). omega arith)
      (split-eq (p / 2) (q / 2))

  -- demand: a gap that is named is the first state that makes the guard false
  pub gap-first : (s : ℕ) → Answer D (triplets 0 g) (literal 0 g) k n (Gap s) → (t : ℕ) → value n t g ≡ false → s ≤ t
  gap-first s a t e = rw (first-all n t) at (not-passed t e n s (omega arith) a.1)

-- no second answer holds
module _ (D : ℕ → Type 0) (ts : List Triplet) (root k : ℕ) where
  pub trial-unique : (i p q : ℕ) → Trial D ts root k i p → Trial D ts root k i q → p ≡ q
  trial-unique zero p q a b = a ∙ sym b
  trial-unique (suc i) p q a b =
      let half : p / 2 ≡ q / 2 = trial-unique i (p / 2) (q / 2) a.0 b.0 in
      ⊎_elim
      (λ (zero : p % 2 ≡ 0).
      ⊎_elim
      (λ (none : q % 2 ≡ 0). omega arith)
      (λ (some : q % 2 ≡ 1). absurd (not-both (p % 2) (a.1.1 (rw half (b.1.0 some))) zero))
      (parity q))
      (λ (one : p % 2 ≡ 1).
      ⊎_elim
      (λ (none : q % 2 ≡ 0). absurd (not-both (q % 2) (b.1.1 (rw half at (a.1.0 one))) none))
      (λ (some : q % 2 ≡ 1). omega arith)
      (parity q))
      (parity p)

  pub answer-unique : (n : ℕ) (v w : Verdict) → Answer D ts root k n v → Answer D ts root k n w → v ≡ w
  answer-unique n Covered Covered a b = refl
  answer-unique n Covered (Gap t) a b = absurd (b.0 a)
  answer-unique n Covered Undecided a b = absurd (b.0 a)
  answer-unique n (Gap s) Covered a b = absurd (a.0 b)
  answer-unique n (Gap s) (Gap t) a b = ap Gap (trial-unique n s t a.1 b.1)
  answer-unique n (Gap s) Undecided a b = absurd (a.2 (rw (trial-unique n s b.1.0 a.1 b.1.1) b.1.2))
  answer-unique n Undecided Covered a b = absurd (a.0 b)
  answer-unique n Undecided (Gap t) a b = absurd (b.2 (rw (trial-unique n t a.1.0 b.1 a.1.1) a.1.2))
  answer-unique n Undecided Undecided a b = refl
