-- The trial of flags, from saturated relation to saturated relation.
use Prim.Native.Nat.{ℕ, suc, ◌+◌, ◌*◌, ◌/◌, ◌%◌, ◌^◌, ◌≤◌, ◌<◌}
use mathlib.Core.Path.{◌≡◌, refl, sym, ◌∙◌}
use mathlib.Core.Bool.{true, false}
use mathlib.Core.List.{List, [], ◌∷◌}
use mathlib.Core.Logic.{◌↔◌}
use native.Mathlib.Omega.{arith}
use native.Mathlib.Numerals.{add-one}
use lib.Pow.{pow_mono}
use borrow.Author.Tests.{eqb-true}
use Rattle.notation.specs.Ceilings.{flag_ceiling}
use Rattle.notation.specs.Triplets.{Triplet, negation}
use Rattle.relation.specs.Relation.{Rel, IsRelation, Within}
use Rattle.relation.specs.clauses.Classes.{Classes, entry, kept}
use Rattle.relation.specs.clauses.Keeping.{Fresh, Joined}
use Rattle.ground.proofs.Cases.{never}
use Rattle.relation.proofs.RelationLaws.{within-refl}
use Rattle.relation.proofs.ClassLaws.{is-relation}
use Rattle.steps.specs.clauses.Resting.{in_use, triplets_at}
use Rattle.saturation.specs.Saturation.{taking, taken, Stable, Saturated, SaturationOf, Flags}
use Rattle.saturation.specs.clauses.Saturating.{SaturatedTo}
use Rattle.saturation.specs.Answer.{flag_as, flags_as, Refuted, Trial}
use Rattle.saturation.proofs.Taking.{HoldsAll, above-taking, taking-above, taking-holds, above-taken, taken-above}
use Rattle.saturation.proofs.Depth.{saturated-held, in-turn}
use Rattle.saturation.proofs.Fixed.{negation-even}
use Rattle.saturation.proofs.Splits.{refuted-held, trial-next}
use Rattle.saturation.proofs.Saturating.{saturated-joined}
use Rattle.saturation.proofs.Confirmed.{trial-below}
use Rattle.guard_check.specs.clauses.Deciding.{Tested, Decided}
use Rattle.saturation.specs.declared.verdict.Verdict.TheVariants.{Covered, Gap, Undecided}

-- ---- a flag and its negation
turned-over : (A : Rel) (f : ℕ) → IsRelation A → A (2 * f) 1 ≡ true → A (2 * f + 1) 0 ≡ true
unfolding negation
turned-over A f r e = rw (negation-even f) at (r.negating (2 * f) 1 e)

both_ways : (A : Rel) (f : ℕ) → IsRelation A → A (2 * f) 0 ≡ true → A (2 * f + 1) 0 ≡ true → A 0 1 ≡ true
unfolding negation
both_ways A f r p q =
    r.transitive 0 (2 * f + 1) 1 (r.symmetric (2 * f + 1) 0 q) (rw (negation-even f) at (r.negating (2 * f) 0 p))

-- what is stable and holds l already is its own saturation with l taken as true
saturated-itself : (D : ℕ → Type 0) (ts : List Triplet) (k l : ℕ) (R : Rel) → IsRelation R → Stable D ts k R → R l 0 ≡ true → SaturationOf D
    ts k (taking R l) R
saturated-itself D ts k l R r s e =
    record {
      relation = r;
      above = above-taking R R l (within-refl R) e;
      has = s;
      forced = λ a b h A q w p. taking-above R A l w a b h;
    }

module _ (numbers : List ℕ) (c n k : ℕ) where
  abbrev ts : List Triplet
  ts = triplets_at numbers c

  -- ---- a flag is fixed
  module _ (f : ℕ) (xs : List ℕ) (classes : Classes (in_use c) xs) (stable : Stable (Flags n) ts k (kept xs)) where
    pub tested-true : kept xs (2 * f) 0 ≡ true → Tested numbers c n k f xs 1 xs
    tested-true e =
        record {
          bit = omega arith;
          classes = classes;
          saturated = saturated-itself (Flags n) ts k (2 * f) (kept xs) (is-relation (entry xs)) stable e;
          refuted = (
            λ h A r w p. both_ways A f r (taking-above (kept xs) A (2 * f + 1) w (2 * f) 0 e) (taking-holds (kept xs) A (2 * f + 1) w),
            λ h. refl,
          );
        }

    pub tested-false : kept xs (2 * f) 0 ≡ false → kept xs (2 * f) 1 ≡ true → Tested numbers c n k f xs 0 xs
    tested-false other e =
        let r : IsRelation (kept xs) = is-relation (entry xs) in
        let off : kept xs (2 * f + 1) 0 ≡ true = turned-over (kept xs) f r e in
        record {
          bit = omega arith;
          classes = classes;
          saturated = saturated-itself (Flags n) ts k (2 * f + 1) (kept xs) r stable off;
          refuted = (
            λ h. absurd (omega arith),
            λ h.
                let all : kept xs 0 1 ≡ true = h (kept xs) r (above-taking (kept xs) (kept xs) (2 * f + 1) (within-refl (kept xs)) off) stable in
                absurd (never (kept xs (2 * f) 0) (r.transitive (2 * f) 1 0 e (r.symmetric 0 1 all)) other),
          );
        }

  module _ (f : ℕ) (xs off offs : List ℕ) (without : Joined (in_use c) xs (2 * f + 1) 0 off) (low : SaturatedTo numbers c n k off offs) where
    low-side : SaturationOf (Flags n) ts k (taking (kept xs) (2 * f + 1)) (kept offs)
    low-side = saturated-joined (Flags n) ts k (2 * f + 1) (kept xs) (kept off) (kept offs) without.least low.least

    low_held : (kept offs 0 1 ≡ true) ↔ Saturated (Flags n) ts k (taking (kept xs) (2 * f + 1)) 0 1
    low_held = saturated-held (Flags n) ts k (taking (kept xs) (2 * f + 1)) (kept offs) low-side 0 1

    pub tested_low : kept offs 0 1 ≡ false → Tested numbers c n k f xs 0 offs
    tested_low e =
        record {
          bit = omega arith;
          classes = low.classes;
          saturated = low-side;
          refuted = (λ h. absurd (omega arith), λ h. absurd (never (kept offs 0 1) (low_held.1 h) e));
        }

    pub tested-high : (on ons : List ℕ) → kept offs 0 1 ≡ true → Joined (in_use c) xs (2 * f) 0 on → SaturatedTo numbers c n k on ons → Tested
        numbers c n k f xs 1 ons
    tested-high on ons e with_it high =
        record {
          bit = omega arith;
          classes = high.classes;
          saturated = saturated-joined (Flags n) ts k (2 * f) (kept xs) (kept on) (kept ons) with_it.least high.least;
          refuted = (λ h. low_held.0 e, λ h. refl);
        }

  -- ---- the trial has fixed flags 1 to i as the state s has them
  module _ (root : ℕ) where
    pub record Trying (i s : ℕ) (xs : List ℕ) : Type 0 where
      pub classes : Classes (in_use c) xs
      pub saturated : SaturationOf (Flags n) ts k (taken (negation root ∷ flags_as i s)) (kept xs)
      pub trial : Trial (Flags n) ts root k i s

    -- nothing but l = l is below every relation
    fresh-below : (fs : List ℕ) → Fresh fs → (A : Rel) → IsRelation A → Within (kept fs) A
    fresh-below fs h A r l m e = rw (eqb-true l m (sym (h.only l m) ∙ e)) (r.reflexive m)

    pub trying_start : (fs js xs : List ℕ) (l : ℕ) → l ≡ negation root → Fresh fs → Joined (in_use c) fs l 0 js → SaturatedTo numbers c n k js xs
        → Trying 0 0 xs
    unfolding flags_as
    trying_start fs js xs l e h j s =
        let all : SaturationOf (Flags n) ts k (taking (kept fs) (negation root)) (kept xs) =
        rw e at (saturated-joined (Flags n) ts k l (kept fs) (kept js) (kept xs) j.least s.least) in
        record {
          classes = s.classes;
          saturated = record {
            relation = all.relation;
            above = above-taken (kept xs) (negation root ∷ []) (taking-holds (kept fs) (kept xs) (negation root) all.above, tt);
            has = all.has;
            forced = λ a b e A r w p.
                all.forced a b e A r
                (above-taking (kept fs) A (negation root) (fresh-below fs h A r) (taken-above A (negation root ∷ []) w).0) p;
          };
          trial = refl;
        }

    -- in which order literals are taken does not matter
    taken-turned : (A : Rel) (l : ℕ) (ls : List ℕ) → Within (taken (negation root ∷ l ∷ ls)) A → Within (taking (taken (negation root ∷ ls)) l) A
    taken-turned A l ls w =
        let h : HoldsAll A (negation root ∷ l ∷ ls) = taken-above A (negation root ∷ l ∷ ls) w in
        above-taking (taken (negation root ∷ ls)) A l (above-taken A (negation root ∷ ls) (h.0, h.1.1)) h.1.0

    turned_taken : (A : Rel) (l : ℕ) (ls : List ℕ) → Within (taking (taken (negation root ∷ ls)) l) A → Within (taken (negation root ∷ l ∷ ls)) A
    turned_taken A l ls w =
        let h : HoldsAll A (negation root ∷ ls) = taken-above A (negation root ∷ ls) (taking-above (taken (negation root ∷ ls)) A l w) in
        above-taken A (negation root ∷ l ∷ ls) (h.0, (taking-holds (taken (negation root ∷ ls)) A l w, h.1))

    refuted-next : (l : ℕ) (ls : List ℕ) (T : Rel) → SaturationOf (Flags n) ts k (taken (negation root ∷ ls)) T
        → Saturated (Flags n) ts k (taking T l) 0 1 ↔ Refuted (Flags n) ts root k (l ∷ ls)
    refuted-next l ls T t =
        let both : Saturated (Flags n) ts k (taking T l) 0 1 ↔ Saturated (Flags n) ts k (taking (taken (negation root ∷ ls)) l) 0 1 =
        in-turn (Flags n) ts k (taken (negation root ∷ ls)) T l 0 1 t in (
          λ s A r w h. both.0 s A r (taken-turned A l ls w) h,
          λ s. both.1 (λ A r w h. s A r (turned_taken A l ls w) h),
        )

    next-state : (i s b : ℕ) (xs ys : List ℕ) → Trying i s xs → Tested numbers c n k (suc i) xs b ys → (s' : ℕ) → s' / 2 ≡ s → s' % 2
        ≡ b → Trying (suc i) s' ys
    unfolding flags_as
    next-state i s b xs ys t h s' p q =
        record {
          classes = h.classes;
          saturated = rw (p, q)
              (trial-next (Flags n) ts root k (flags_as i s) (kept xs) t.saturated (flag_as (suc i) b) (kept ys) h.saturated);
          trial = rw (p, q) (
            t.trial,
            (
              λ e. (refuted-next (flag_as (suc i) 0) (flags_as i s) (kept xs) t.saturated).0 (h.refuted.0 e),
              λ r. h.refuted.1 ((refuted-next (flag_as (suc i) 0) (flags_as i s) (kept xs) t.saturated).1 r),
            ),
          );
        }

    pub trying-next : (i s b : ℕ) (xs ys : List ℕ) → Trying i s xs → Tested numbers c n k (i + 1) xs b ys → Trying (i + 1) (2 * s + b) ys
    trying-next i s b xs ys t h =
        rw (add-one i)
        (next-state i s b xs ys t (rw (add-one i) at h) (2 * s + b) (omega (arith, h.bit)) (omega (arith, h.bit)))

    -- a state of the flags tried is below 2 to the flags that there can be
    pub trying-fits : (i s : ℕ) (xs : List ℕ) → i ≤ flag_ceiling → Trying i s xs → s < 2 ^ flag_ceiling
    trying-fits i s xs h t =
        let p : 2 ^ i ≤ 2 ^ flag_ceiling = pow_mono h in
        omega (arith, trial-below (Flags n) ts root k i s t.trial)

    -- ---- the answer
    pub decided-covered : (xs : List ℕ) → Trying 0 0 xs → kept xs 0 1 ≡ true → Decided numbers c n root k Covered
    unfolding flags_as
    decided-covered xs t e = (refuted-held (Flags n) ts root k [] (kept xs) t.saturated).0 e

    not_covered : (xs : List ℕ) → Trying 0 0 xs → kept xs 0 1 ≡ false → Refuted (Flags n) ts root k [] → ⊥
    unfolding flags_as
    not_covered xs t e r = never (kept xs 0 1) ((refuted-held (Flags n) ts root k [] (kept xs) t.saturated).1 r) e

    pub decided-gap : (i s : ℕ) (xs ys : List ℕ) → i ≡ n → Trying 0 0 xs → kept xs 0 1 ≡ false → Trying i s ys → kept ys 0 1 ≡ false
        → Decided numbers c n root k (Gap s)
    decided-gap i s xs ys j t e u d =
        let last : Trying n s ys = rw j at u in (
          not_covered xs t e,
          last.trial,
          λ r. never (kept ys 0 1) ((refuted-held (Flags n) ts root k (flags_as n s) (kept ys) last.saturated).1 r) d,
        )

    pub decided-undecided : (i s : ℕ) (xs ys : List ℕ) → i ≡ n → Trying 0 0 xs → kept xs 0 1 ≡ false → Trying i s ys → kept ys 0 1 ≡ true
        → Decided numbers c n root k Undecided
    decided-undecided i s xs ys j t e u d =
        let last : Trying n s ys = rw j at u in (
          not_covered xs t e,
          (s, last.trial, (refuted-held (Flags n) ts root k (flags_as n s) (kept ys) last.saturated).0 d),
        )
