-- The run of splits and rests: between the start and every stable relation above it, until it is stable itself.
use Prim.Native.Nat.{ℕ, suc, ◌+◌, ◌*◌, ◌≤◌, ◌<◌}
use mathlib.Core.Path.{◌≡◌, sym, ◌∙◌}
use mathlib.Core.Bool.{true}
use mathlib.Core.List.{List}
use mathlib.Core.Logic.{inl, inr, ⊎_elim}
use native.Mathlib.Omega.{arith}
use Rattle.notation.specs.Triplets.{Triplet, negation}
use Rattle.relation.specs.Relation.{Rel, IsRelation, Within}
use Rattle.relation.specs.Least.{Least, Holds}
use Rattle.relation.specs.clauses.Growing.{Growth}
use Rattle.relation.specs.clauses.Classes.{Classes, entry, kept, rank}
use Rattle.relation.specs.clauses.Keeping.{Shared, Joined, tied}
use Rattle.ground.proofs.Cases.{split-eq}
use Rattle.relation.proofs.RelationLaws.{within-trans, least-below, growth-none, growth-more, growth-least}
use Rattle.relation.proofs.ClassLaws.{is-relation, tied-cases}
use Rattle.relation.proofs.RankLaws.{rank-settles}
use Rattle.relation.proofs.ShareLaws.{common-true, common-both}
use Rattle.steps.specs.Rest.{NoStepEnlarges}
use Rattle.steps.specs.clauses.Resting.{in_use, triplets_at, Rested}
use Rattle.steps.proofs.Resting.{rest-same}
use Rattle.saturation.specs.Saturation.{taking, Stable, SaturationOf, Flags}
use Rattle.saturation.specs.clauses.Saturating.{Ties, HoldsSplit, SaturatedTo, Nearer, Tried, Divided, Swept}
use Rattle.saturation.proofs.Taking.{above-taking, taking-above, taking-holds}
use Rattle.saturation.proofs.Depth.{stable-rest, stable-when}
use Rattle.saturation.proofs.Fixed.{negation-even}
use Rattle.saturation.proofs.Splits.{saturated-more, split_below, split-held, taking-more}

module _ (D : ℕ → Type 0) (ts : List Triplet) where
  -- the saturation of the least relation above R that holds l is that of R with l taken as true
  pub saturated-joined : (k l : ℕ) (R S T : Rel) → Least (Holds l 0) R S → SaturationOf D ts k S T → SaturationOf D ts k (taking R l) T
  saturated-joined k l R S T s t =
      record {
        relation = t.relation;
        above = above-taking R T l (within-trans R S T s.above t.above) (t.above l 0 s.has);
        has = t.has;
        forced = λ a b e A r w h.
            t.forced a b e A r (least-below (Holds l 0) R S A s r (taking-above R A l w) (taking-holds R A l w)) h;
      }

  -- a rest goes no further than what is stable at some depth
  pub growth-rest : (k : ℕ) (R S : Rel) → Least (NoStepEnlarges ts) R S → Growth (Stable D ts k) R S
  growth-rest k R S s =
      record {
        above = s.above;
        below = λ A a w h. least-below (NoStepEnlarges ts) R S A s a w (stable-rest D ts k A h);
      }

  -- two relations with the same equalities hold the same splits
  pub split-same : (k f : ℕ) (R S : Rel) → Within R S → Within S R → HoldsSplit D ts k f R → HoldsSplit D ts k f S
  split-same k f R S w v h l m p q =
      w l m
      (h l m
      (saturated-more D ts k (taking S (2 * f)) (taking R (2 * f)) l m (taking-more D ts S R (2 * f) v) p)
      (saturated-more D ts k (taking S (2 * f + 1)) (taking R (2 * f + 1)) l m (taking-more D ts S R (2 * f + 1) v) q))

ties-same : (f : ℕ) (R S : Rel) → Within R S → Ties R f → Ties S f
ties-same f R S w t =
    ⊎_elim
    (λ (e : R (2 * f) 0 ≡ true). inl (w (2 * f) 0 e))
    (λ (e : R (2 * f + 1) 0 ≡ true). inr (w (2 * f + 1) 0 e))
    t

-- a variable that is equal to true or to false is tied
pub tied-ties : (R : Rel) (f : ℕ) → IsRelation R → tied R f ≡ true → Ties R f
unfolding negation
tied-ties R f r e =
    ⊎_elim
    (λ (p : R (2 * f) 0 ≡ true). inl p)
    (λ (p : R (2 * f) 1 ≡ true). inr (rw (negation-even f) at (r.negating (2 * f) 1 p)))
    (tied-cases R f e)

module _ (numbers : List ℕ) (c n k : ℕ) where
  abbrev ts : List Triplet
  ts = triplets_at numbers c

  -- what is tried in a relation is tried in one with the same equalities
  pub tried_same : (xs ys : List ℕ) (f : ℕ) → Within (kept xs) (kept ys) → Within (kept ys) (kept xs) → Tried numbers c n k xs f → Tried numbers c
      n k ys f
  tried_same xs ys f w v t =
      ⊎_elim
      (λ (e : Ties (kept xs) f). inl (ties-same f (kept xs) (kept ys) w e))
      (λ (e : HoldsSplit (Flags n) ts k f (kept xs)). inr (split-same (Flags n) ts k f (kept xs) (kept ys) w v e))
      t

  -- ---- the start, and one more of what is nearer
  pub nearer-none : (xs : List ℕ) → Classes (in_use c) xs → NoStepEnlarges ts (kept xs) → Nearer numbers c n k xs xs
  nearer-none xs a r =
      record { classes = a; grown = growth-none (Stable (Flags n) ts (suc k)) (kept xs); rests = r }

  pub nearer-rested : (xs ys : List ℕ) → Rested numbers c xs ys → Nearer numbers c n k xs ys
  nearer-rested xs ys r =
      record {
        classes = r.classes;
        grown = growth-rest (Flags n) ts (suc k) (kept xs) (kept ys) r.least;
        rests = r.least.has;
      }

  pub nearer-more : (xs ys zs : List ℕ) → Nearer numbers c n k xs ys → Nearer numbers c n k ys zs → Nearer numbers c n k xs zs
  nearer-more xs ys zs a b =
      record {
        classes = b.classes;
        grown = growth-more (Stable (Flags n) ts (suc k)) (kept xs) (kept ys) (kept zs) a.grown b.grown;
        rests = b.rests;
      }

  -- ---- a split on the flag f: offs and ons are the sides, zs what they share
  pub divided-tied : (xs : List ℕ) (f : ℕ) → Classes (in_use c) xs → NoStepEnlarges ts (kept xs) → tied (kept xs) f ≡ true → Divided numbers c n
      k f xs xs
  divided-tied xs f a r e =
      record {
        nearer = nearer-none xs a r;
        idle = λ w. inl (tied-ties (kept xs) f (is-relation (entry xs)) e);
      }

  module _ (f : ℕ) (xs off offs on ons zs : List ℕ) (classes : Classes (in_use c) xs) (rests : NoStepEnlarges ts (kept xs)) (flag : Flags n f)
      (without : Joined (in_use c) xs (2 * f + 1) 0 off) (low : SaturatedTo numbers c n k off offs)
      (with_it : Joined (in_use c) xs (2 * f) 0 on) (high : SaturatedTo numbers c n k on ons)
      (both : Shared (in_use c) ons offs zs) where
    high-side : SaturationOf (Flags n) ts k (taking (kept xs) (2 * f)) (kept ons)
    high-side = saturated-joined (Flags n) ts k (2 * f) (kept xs) (kept on) (kept ons) with_it.least high.least

    low-side : SaturationOf (Flags n) ts k (taking (kept xs) (2 * f + 1)) (kept offs)
    low-side = saturated-joined (Flags n) ts k (2 * f + 1) (kept xs) (kept off) (kept offs) without.least low.least

    shared-grows : Growth (Stable (Flags n) ts (suc k)) (kept xs) (kept zs)
    shared-grows =
        record {
          above = λ l m e.
              both.both l m
              ∙ common-true (kept ons) (kept offs) l m
              (taking-above (kept xs) (kept ons) (2 * f) high-side.above l m e)
              (taking-above (kept xs) (kept offs) (2 * f + 1) low-side.above l m e);
          below = λ A a w h l m e.
              let p : (kept ons l m ≡ true) × (kept offs l m ≡ true) = common-both (kept ons) (kept offs) l m (sym (both.both l m) ∙ e) in
              split_below (Flags n) ts k f (kept xs) (kept ons) (kept offs) high-side low-side flag A a w h l m p.0 p.1;
        }

    shared-held : Within (kept zs) (kept xs) → Tried numbers c n k xs f
    shared-held w =
        inr (split-held (Flags n) ts k f (kept xs) (kept ons) (kept offs) high-side low-side
        (λ l m p q. w l m (both.both l m ∙ common-true (kept ons) (kept offs) l m p q)))

    -- where the rank did not fall, what both share is nothing new
    pub divided-idle : rank (in_use c) (entry xs) ≤ rank (in_use c) (entry zs) → Divided numbers c n k f xs zs
    divided-idle h =
        let back : Within (kept zs) (kept xs) =
        rank-settles (in_use c) (entry xs) (entry zs) classes.canonical both.classes.canonical shared-grows.above h in
        record {
          nearer = record {
            classes = both.classes;
            grown = shared-grows;
            rests = rest-same ts (kept xs) (kept zs) shared-grows.above back rests;
          };
          idle = shared-held;
        }

    -- else rest follows
    pub divided-rested : (ys : List ℕ) → Rested numbers c zs ys → Divided numbers c n k f xs ys
    divided-rested ys r =
        record {
          nearer = record {
            classes = r.classes;
            grown = growth-more (Stable (Flags n) ts (suc k)) (kept xs) (kept zs) (kept ys) shared-grows
                (growth-rest (Flags n) ts (suc k) (kept zs) (kept ys) r.least);
            rests = r.least.has;
          };
          idle = λ w. shared-held (within-trans (kept zs) (kept ys) (kept xs) r.least.above w);
        }

  -- ---- a pass that has come to flag j
  pub record Sweeping (j : ℕ) (xs ys : List ℕ) : Type 0 where
    pub nearer : Nearer numbers c n k xs ys
    pub idle : Within (kept ys) (kept xs) → (f : ℕ) → 0 < f → f < j → Tried numbers c n k xs f

  pub sweeping-start : (xs : List ℕ) → Classes (in_use c) xs → NoStepEnlarges ts (kept xs) → Sweeping 1 xs xs
  sweeping-start xs a r = record { nearer = nearer-none xs a r; idle = λ w f p q. absurd (omega arith) }

  pub sweeping-next : (j : ℕ) (xs ys zs : List ℕ) → Sweeping j xs ys → Divided numbers c n k j ys zs → Sweeping (j + 1) xs zs
  sweeping-next j xs ys zs s d =
      record {
        nearer = nearer-more xs ys zs s.nearer d.nearer;
        idle = λ w f p q.
            let up : Within (kept xs) (kept ys) = s.nearer.grown.above in
            let on : Within (kept ys) (kept zs) = d.nearer.grown.above in
            let back : Within (kept ys) (kept xs) = within-trans (kept ys) (kept zs) (kept xs) on w in
            ⊎_elim
            (λ (e : f ≡ j).
            rw e
            (tried_same ys xs j back up (d.idle (within-trans (kept zs) (kept xs) (kept ys) w up))))
            (λ (e : f ≡ j → ⊥). s.idle back f p (omega arith))
            (split-eq f j);
      }

  pub sweeping-done : (j : ℕ) (xs ys : List ℕ) → n < j → Sweeping j xs ys → Swept numbers c n k xs ys
  sweeping-done j xs ys h s =
      record { nearer = s.nearer; idle = λ w f d. s.idle w f d.0 (omega arith) }

  -- ---- passes that have come to ys, the last of which found the rank was and left the rank left
  pub record Saturating (xs ys : List ℕ) (left was : ℕ) : Type 0 where
    pub nearer : Nearer numbers c n k xs ys
    pub ranks : left ≡ rank (in_use c) (entry ys)
    pub quiet : was ≤ left → Stable (Flags n) ts (suc k) (kept ys)

  pub saturating-start : (xs : List ℕ) (left : ℕ) → Classes (in_use c) xs → NoStepEnlarges ts (kept xs) → left ≡ rank (in_use c) (entry xs)
      → Saturating xs xs left (left + 1)
  saturating-start xs left a r e =
      record { nearer = nearer-none xs a r; ranks = e; quiet = λ h. absurd (omega arith) }

  pub saturating-next : (xs ys zs : List ℕ) (left was next : ℕ) → Saturating xs ys left was → Swept numbers c n k ys zs → next ≡ rank (in_use c)
      (entry zs) → Saturating xs zs next left
  saturating-next xs ys zs left was next s p e =
      record {
        nearer = nearer-more xs ys zs s.nearer p.nearer;
        ranks = e;
        quiet = λ h.
            let on : Within (kept ys) (kept zs) = p.nearer.grown.above in
            let back : Within (kept zs) (kept ys) =
            rank-settles (in_use c) (entry ys) (entry zs) s.nearer.classes.canonical p.nearer.classes.canonical on
            (omega (arith, s.ranks, e)) in
            stable-when (Flags n) ts k (kept zs) (is-relation (entry zs)) p.nearer.rests
            (λ f d. tried_same ys zs f on back (p.idle back f d));
      }

  pub saturating-done : (xs ys zs : List ℕ) (left was depth : ℕ) → depth ≡ suc k → was ≤ left → Rested numbers c xs ys → Saturating ys zs left
      was → SaturatedTo numbers c n depth xs zs
  saturating-done xs ys zs left was depth d h r s =
      let all : Nearer numbers c n k xs zs = nearer-more xs ys zs (nearer-rested xs ys r) s.nearer in
      record {
        classes = all.classes;
        least = rw d
            (growth-least (Stable (Flags n) ts (suc k)) (kept xs) (kept zs) (is-relation (entry zs)) (s.quiet h) all.grown);
      }

-- at depth 0 rest is all
pub saturated-rested : (numbers : List ℕ) (c n depth : ℕ) (xs ys : List ℕ) → depth ≡ 0 → Rested numbers c xs ys → SaturatedTo numbers c n depth
    xs ys
saturated-rested numbers c n depth xs ys d r = record { classes = r.classes; least = rw d r.least }
