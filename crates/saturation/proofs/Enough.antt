-- Enough depth decides: from as many splits as flags are left, a relation that leaves no gap is contradictory.
use Prim.Native.Nat.{ℕ, zero, suc, ◌+◌, ◌*◌, ◌-◌, ◌/◌, ◌%◌, ◌^◌, ◌≤◌}
use mathlib.Core.Path.{◌≡◌, sym, ap, ◌∙◌}
use mathlib.Core.Bool.{true}
use mathlib.Core.List.{[], ◌∷◌}
use mathlib.Core.Logic.{⊎_elim}
use native.Mathlib.Omega.{arith}
use native.Mathlib.Nat.{div-one}
use lib.Pow.{shr-shr}
use Rattle.notation.specs.Guard.{Guard}
use Rattle.notation.specs.Triplets.{negation, literal, triplets}
use Rattle.relation.specs.Relation.{Rel, IsRelation}
use Rattle.truth.specs.Value.{value}
use Rattle.ground.proofs.Cases.{parity}
use Rattle.saturation.specs.Saturation.{Stable, Flags}
use Rattle.truth.specs.clauses.Written.{Proper}
use Rattle.saturation.specs.Answer.{flag_as, flags_as, Refuted, Trial, Answer}
use Rattle.saturation.proofs.Taking.{HoldsAll, taken-above, taking-above, taking-holds}
use Rattle.saturation.proofs.Depth.{stable-rest}
use Rattle.saturation.proofs.States.{not-both, first_of, holds_more}
use Rattle.saturation.specs.declared.verdict.Verdict.TheVariants.{Undecided}
use Rattle.saturation.proofs.Verdicts.{all-fixed, refuted-true}

-- one flag more, as 0 or as 1
pub one-more-0 : (i p : ℕ) → flags_as (suc i) (2 * p) ≡ flag_as (suc i) 0 ∷ flags_as i p
unfolding flags_as
one-more-0 i p =
    let a : 2 * p % 2 ≡ 0 = omega arith in
    let b : 2 * p / 2 ≡ p = omega arith in
    rw (a, b)

pub one-more-1 : (i p : ℕ) → flags_as (suc i) (2 * p + 1) ≡ flag_as (suc i) 1 ∷ flags_as i p
unfolding flags_as
one-more-1 i p =
    let a : (2 * p + 1) % 2 ≡ 1 = omega arith in
    let b : (2 * p + 1) / 2 ≡ p = omega arith in
    rw (a, b)

module _ (D : ℕ → Type 0) (n : ℕ) (g : Guard) (proper : Proper n g) (splits : (f : ℕ) → Flags n f → D f) where
  -- every state whose first flags are p makes the guard true, where r flags are left
  abbrev NoGap : ℕ → ℕ → Type 0
  NoGap r p = (s : ℕ) → s / 2 ^ r ≡ p → value n s g ≡ true

  no-gap-next : (r p q : ℕ) → q / 2 ≡ p → NoGap (suc r) p → NoGap r q
  no-gap-next r p q h all s e =
      let m : r + 1 ≡ suc r = omega arith in
      all s (sym (rw m at (shr-shr s r 1)) ∙ ap (λ (t : ℕ). t / 2) e ∙ h)

  pub enough : (r i p k : ℕ) (A : Rel) → i + r ≡ n → r ≤ k → NoGap r p → IsRelation A → Stable D (triplets 0 g) k A
      → HoldsAll A (negation (literal 0 g) ∷ flags_as i p) → A 0 1 ≡ true
  enough zero i p k A e h all a stable holds =
      let here : i ≡ n = omega arith in
      all-fixed D n g proper k p A (all p (div-one p)) a (stable-rest D (triplets 0 g) k A stable) holds.0
      (rw here at holds.1)
  enough (suc r) i p zero A e h all a stable holds = absurd (omega arith)
  enough (suc r) i p (suc k) A e h all a stable holds =
      stable.1 (suc i) 0 1 (splits (suc i) (omega arith, omega arith))
      (λ B b w stable'.
      enough r (suc i) (2 * p + 1) k B (omega arith) (omega arith) (no-gap-next r p (2 * p + 1) (omega arith) all) b stable' (
        taking-above A B (2 * suc i) w (negation (literal 0 g)) 0 holds.0,
        rw (one-more-1 i p)
            (taking-holds A B (2 * suc i) w, holds_more A B (flags_as i p) (taking-above A B (2 * suc i) w) holds.1),
      ))
      (λ B b w stable'.
      enough r (suc i) (2 * p) k B (omega arith) (omega arith) (no-gap-next r p (2 * p) (omega arith) all) b stable' (
        taking-above A B (2 * suc i + 1) w (negation (literal 0 g)) 0 holds.0,
        rw (one-more-0 i p)
            (taking-holds A B (2 * suc i + 1) w, holds_more A B (flags_as i p) (taking-above A B (2 * suc i + 1) w) holds.1),
      ))

  pub no-gap-refuted : (r i p k : ℕ) → i + r ≡ n → r ≤ k → NoGap r p → Refuted D (triplets 0 g) (literal 0 g) k (flags_as i p)
  no-gap-refuted r i p k e h all A a w stable =
      enough r i p k A e h all a stable (taken-above A (negation (literal 0 g) ∷ flags_as i p) w)

  -- flags that are refuted leave no gap
  refuted-no-gap : (r i p k : ℕ) → i + r ≡ n → Refuted D (triplets 0 g) (literal 0 g) k (flags_as i p) → NoGap r p
  refuted-no-gap r i p k e h s q =
      let left : n - i ≡ r = omega arith in
      let here : first_of n s i ≡ p = rw left q in
      refuted-true D n g proper k i s (omega arith) (rw here h)

  module _ (k : ℕ) (deep : n ≤ k) where
    -- the trial of a guard that is not covered never meets a contradiction
    trial-goes-on : (i p : ℕ) → i ≤ n → (Refuted D (triplets 0 g) (literal 0 g) k [] → ⊥) → Trial D (triplets 0 g) (literal 0 g) k i p
        → Refuted D (triplets 0 g) (literal 0 g) k (flags_as i p) → ⊥
    unfolding flags_as
    trial-goes-on zero p h open' trial refuted = open' refuted
    trial-goes-on (suc i) p h open' trial refuted =
        ⊎_elim
        (λ (z : p % 2 ≡ 0). not-both (p % 2) (trial.1.1 (rw z at refuted)) z)
        (λ (o : p % 2 ≡ 1).
        trial-goes-on i (p / 2) (omega arith) open' trial.0
        (no-gap-refuted (suc (n - suc i)) i (p / 2) k (omega arith) (omega arith) (both o)))
        (parity p)
      where
        both : p % 2 ≡ 1 → NoGap (suc (n - suc i)) (p / 2)
        both o s e =
            let r : ℕ = n - suc i in
            let m : r + 1 ≡ suc r = omega arith in
            let half : s / 2 ^ r / 2 ≡ p / 2 = rw m at (shr-shr s r 1) ∙ e in
            ⊎_elim
            (λ (z : s / 2 ^ r % 2 ≡ 0).
            refuted-no-gap r (suc i) (2 * (p / 2)) k (omega arith) (rw (one-more-0 i (p / 2)) (trial.1.0 o)) s (omega arith))
            (λ (q : s / 2 ^ r % 2 ≡ 1). refuted-no-gap r (suc i) p k (omega arith) refuted s (omega arith))
            (parity (s / 2 ^ r))

    -- demand: from depth n up the answer is never undecided
    pub never-undecided : Answer D (triplets 0 g) (literal 0 g) k n Undecided → ⊥
    never-undecided a = trial-goes-on n a.1.0 (omega arith) a.0 a.1.1 a.1.2
