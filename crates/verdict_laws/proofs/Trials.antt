-- The outline's trial is the one that check's statement names: each run of it fixes the state of `Trial`, and answers as `Answer` does.
use Prim.Native.Nat.{ℕ, zero, suc, ◌+◌, ◌*◌, ◌/◌, ◌%◌, ◌^◌, ◌<◌}
use mathlib.Core.Path.{◌≡◌, refl}
use mathlib.Core.Bool.{true}
use mathlib.Core.List.{List, [], ◌∷◌}
use native.Mathlib.Omega.{arith}
use Rattle.notation.specs.Triplets.{Triplet, negation}
use Rattle.relation.specs.Relation.{Rel, IsRelation}
use Rattle.saturation.specs.Saturation.{taken, SaturationOf}
use Rattle.saturation.specs.Answer.{flag_as, flags_as, Refuted, Trial, Answer}
use Rattle.saturation.proofs.Taking.{HoldsAll, above-taken, taken-above}
use Rattle.saturation.proofs.Fixed.{negation-even}
use Rattle.saturation.proofs.Splits.{refuted-held, trial-next}
use Rattle.saturation.proofs.Confirmed.{trial-below}
use Rattle.saturation.specs.declared.verdict.Verdict.{Verdict}
use Rattle.saturation.proofs.Verdicts.{answer-unique}
use Rattle.verdict_laws.specs.Trial.{Contradictory, Started, Added, Tried, as-false, as-true, Through, no_flag, next-flag, Fixes, Outline}
use Rattle.verdict_laws.specs.Trial.{is-covered, is-gap, is-undecided, Reached}

module _ (D : ℕ → Type 0) (ts : List Triplet) (root k : ℕ) where
  -- on the way: T is "root = false" and flags 1 to i as the state s has them, saturated
  record Going (i s : ℕ) (T : Rel) : Type 0 where
    trial : Trial D ts root k i s
    saturated : SaturationOf D ts k (taken (negation root ∷ flags_as i s)) T

  going_start : (S : Rel) → Started D ts root k S → Going 0 0 S
  unfolding flags_as
  going_start S h = record { trial = refl; saturated = h }

  -- "flag false" is refuted exactly where its relation is contradictory
  going-false : (i s : ℕ) (U T : Rel) → Going i s U → Added D ts k (suc i) 0 U T → (Contradictory T → ⊥)
      → (s' : ℕ) → s' / 2 ≡ s → s' % 2 ≡ 0 → Going (suc i) s' T
  unfolding flags_as
  going-false i s U T h a e s' p q =
      let sat : SaturationOf D ts k (taken (negation root ∷ flag_as (suc i) 0 ∷ flags_as i s)) T =
      trial-next D ts root k (flags_as i s) U h.saturated (flag_as (suc i) 0) T a in
      record {
        trial = rw (p, q) (
          h.trial,
          (λ z. absurd (omega arith), λ r. absurd (e ((refuted-held D ts root k (flag_as (suc i) 0 ∷ flags_as i s) T sat).1 r))),
        );
        saturated = rw (p, q) sat;
      }

  going-true : (i s : ℕ) (U F T : Rel) → Going i s U → Added D ts k (suc i) 0 U F → Contradictory F → Added D ts k (suc i) 1 U T
      → (s' : ℕ) → s' / 2 ≡ s → s' % 2 ≡ 1 → Going (suc i) s' T
  unfolding flags_as
  going-true i s U F T h f e a s' p q =
      let low : SaturationOf D ts k (taken (negation root ∷ flag_as (suc i) 0 ∷ flags_as i s)) F =
      trial-next D ts root k (flags_as i s) U h.saturated (flag_as (suc i) 0) F f in
      record {
        trial = rw (p, q) (
          h.trial,
          (λ z. (refuted-held D ts root k (flag_as (suc i) 0 ∷ flags_as i s) F low).0 e, λ r. refl),
        );
        saturated = rw (p, q) (trial-next D ts root k (flags_as i s) U h.saturated (flag_as (suc i) 1) T a);
      }

  going_next : (i s : ℕ) (U T : Rel) → Going i s U → Tried D ts k (suc i) U T → (s' : ℕ) × Going (suc i) s' T
  going_next i s U T h (as-false a e) = (2 * s, going-false i s U T h a e (2 * s) (omega arith) (omega arith))
  going_next i s U T h (as-true {F = F} f e a) = (2 * s + 1, going-true i s U F T h f e a (2 * s + 1) (omega arith) (omega arith))

  going : (S T : Rel) (i : ℕ) → Started D ts root k S → Through D ts k S i T → (s : ℕ) × Going i s T
  going S T i h no_flag = (0, going_start S h)
  going S T i h (next-flag {i = j} {U = U} r t) =
      let g : (s : ℕ) × Going j s U = going S U j h r in
      going_next j g.0 U T g.1 t

  -- ---- what the trial reaches
  reached : (i s : ℕ) (T : Rel) → Going i s T → Reached D ts root k i T s
  reached i s T g =
      record {
        trial = g.trial;
        fixes = (
          trial-below D ts root k i s g.trial,
          above-taken T (flags_as i s) (taken-above T (negation root ∷ flags_as i s) g.saturated.above).1,
        );
        refuted = refuted-held D ts root k (flags_as i s) T g.saturated;
      }

  -- through flags 1 to i, the trial fixes the state that `Trial` names, and the last relation is contradictory exactly where it is refuted
  pub through_reaches : (S T : Rel) (i : ℕ) → Started D ts root k S → Through D ts k S i T → (s : ℕ) × Reached D ts root k i T s
  through_reaches S T i h r = let g : (s : ℕ) × Going i s T = going S T i h r in (g.0, reached i g.0 T g.1)

  relation-kept : (S T : Rel) (i : ℕ) → Started D ts root k S → Through D ts k S i T → IsRelation T
  relation-kept S T i h r = (going S T i h r).1.saturated.relation

-- ---- a relation that is not contradictory fixes one state at most
both_ways : (T : Rel) (f : ℕ) → IsRelation T → T (2 * f) 0 ≡ true → T (2 * f + 1) 0 ≡ true → Contradictory T
unfolding negation
both_ways T f r p q =
    r.transitive 0 (2 * f + 1) 1 (r.symmetric (2 * f + 1) 0 q) (rw (negation-even f) at (r.negating (2 * f) 0 p))

one_bit : (T : Rel) (f a b : ℕ) → IsRelation T → (Contradictory T → ⊥) → a < 2 → b < 2 → T (flag_as f a) 0 ≡ true → T (flag_as f b) 0
    ≡ true → a ≡ b
one_bit T f zero zero r e l m p q = refl
one_bit T f zero (suc b) r e l m p q = absurd (e (both_ways T f r q p))
one_bit T f (suc a) zero r e l m p q = absurd (e (both_ways T f r p q))
one_bit T f (suc a) (suc b) r e l m p q = omega arith

one_state : (T : Rel) (n s t : ℕ) → IsRelation T → (Contradictory T → ⊥) → s < 2 ^ n → t < 2 ^ n → HoldsAll T (flags_as n s) → HoldsAll T
    (flags_as n t) → s ≡ t
unfolding flags_as
one_state T zero s t r e l m p q = omega arith
one_state T (suc n) s t r e l m p q =
    let double : 2 ^ suc n ≡ 2 * 2 ^ n = omega arith in
    let half : s / 2 ≡ t / 2 = one_state T n (s / 2) (t / 2) r e (omega arith) (omega arith) p.1 q.1 in
    let last : s % 2 ≡ t % 2 = one_bit T (suc n) (s % 2) (t % 2) r e (omega arith) (omega arith) p.0 q.0 in
    omega arith

pub fixes-once : (T : Rel) (n s t : ℕ) → IsRelation T → (Contradictory T → ⊥) → Fixes n T s → Fixes n T t → s ≡ t
fixes-once T n s t r e p q =
    one_state T n s t r e p.0 q.0 (taken-above T (flags_as n s) p.1) (taken-above T (flags_as n t) q.1)

-- ---- the answer
module _ (D : ℕ → Type 0) (ts : List Triplet) (root k n : ℕ) where
  started-refuted : (S : Rel) → Started D ts root k S → (Contradictory S → ⊥) → Refuted D ts root k [] → ⊥
  started-refuted S h e r = e ((refuted-held D ts root k [] S h).1 r)

  -- what the outline's trial answers is what check's statement says
  pub outline-answer : (v : Verdict) → Outline D ts root k n v → Answer D ts root k n v
  outline-answer v (is-covered {S = S} h e) = (refuted-held D ts root k [] S h).0 e
  outline-answer v (is-gap {S = S} {T = T} {s = s} h e r d f) =
      let g : (t : ℕ) × Reached D ts root k n T t = through_reaches D ts root k S T n h r in
      let same : g.0 ≡ s = fixes-once T n g.0 s (relation-kept D ts root k S T n h r) d g.1.fixes f in
      (started-refuted S h e, rw same at g.1.trial, λ x. d (g.1.refuted.1 (rw same x)))
  outline-answer v (is-undecided {S = S} {T = T} h e r d) =
      let g : (t : ℕ) × Reached D ts root k n T t = through_reaches D ts root k S T n h r in
      (started-refuted S h e, (g.0, g.1.trial, g.1.refuted.0 d))

  -- so an answer by check's statement and one by the outline's trial are the same
  pub outline-same : (v w : Verdict) → Answer D ts root k n v → Outline D ts root k n w → v ≡ w
  outline-same v w a o = answer-unique D ts root k n v w a (outline-answer w o)

  -- and the trial has no second answer
  pub outline-unique : (v w : Verdict) → Outline D ts root k n v → Outline D ts root k n w → v ≡ w
  outline-unique v w o p = outline-same v w (outline-answer v o) p
