-- Passes over the triplets: between the start and every relation above it that no step enlarges, until no step does.
use Prim.Native.Nat.{ℕ, zero, suc, ◌+◌, ◌*◌, ◌≤◌, ◌<◌}
use mathlib.Core.Path.{◌≡◌, refl, sym, subst}
use mathlib.Core.Bool.{true}
use mathlib.Core.List.{List, [], ◌∷◌}
use mathlib.Core.Logic.{⊎_elim}
use native.Mathlib.Omega.{arith}
use lib.ListN.{length, length-append}
use Rattle.notation.specs.Triplets.{Triplet, triplet_variable, Each}
use Rattle.notation.specs.clauses.Shape.{kind_at, y_at, z_at}
use Rattle.truth.specs.clauses.Computed.{Triplets}
use Rattle.truth.proofs.Computing.{named-below}
use Rattle.relation.specs.Relation.{Rel, Within}
use Rattle.relation.specs.clauses.Growing.{Growth}
use Rattle.relation.specs.clauses.Classes.{entry, contradictory, kept, Classes, rank}
use Rattle.ground.proofs.Cases.{split-eq}
use Rattle.relation.proofs.RelationLaws.{within-trans, growth-none, growth-more, growth-least, least-below}
use Rattle.relation.proofs.ClassLaws.{relation-all, is-relation}
use Rattle.relation.proofs.RankLaws.{rank-settles}
use Rattle.steps.specs.Step.{Side, literal_at, Adds, HoldsStep}
use Rattle.steps.specs.Rest.{HoldsStepOn, NoStepEnlarges}
use Rattle.steps.specs.clauses.Resting.{Usable, Readable, in_use, triplets_at, Passed, Rested, Stepped}
use Rattle.notation.proofs.EachTriplet.{each_map, each_left, each_right, each_both, triplet_at}

-- ---- the triplets by their numbers
triplets-count : (numbers : List ℕ) (c : ℕ) → c ≡ 0 + length (triplets_at numbers c)
triplets-count numbers zero = refl
triplets-count numbers (suc c) =
    omega (arith, triplets-count numbers c, length-append (triplets_at numbers c) (triplet_at numbers c ∷ []))

-- what holds at each place of the numbers holds of each triplet, and the other way round
pub at-triplets : (P : Triplet → ℕ → Type 0) (numbers : List ℕ) (c : ℕ)
    → ((j : ℕ) → j < c → P (triplet_at numbers j) (2 * triplet_variable (j + 1))) → Each P 0 (triplets_at numbers c)
at-triplets P numbers zero h = tt
at-triplets P numbers (suc c) h =
    each_both P 0 c (triplets_at numbers c) (triplet_at numbers c ∷ []) (triplets-count numbers c)
    (at-triplets P numbers c (λ j i. h j (omega arith))) (h c (omega arith), tt)

pub triplets-at : (P : Triplet → ℕ → Type 0) (numbers : List ℕ) (c : ℕ) → Each P 0 (triplets_at numbers c)
    → (j : ℕ) → j < c → P (triplet_at numbers j) (2 * triplet_variable (j + 1))
triplets-at P numbers zero e j h = absurd (omega arith)
triplets-at P numbers (suc c) e j h =
    ⊎_elim
    (λ (q : j ≡ c).
    subst (λ (i : ℕ). P (triplet_at numbers i) (2 * triplet_variable (i + 1))) (sym q)
    (each_right P 0 c (triplets_at numbers c) (triplet_at numbers c ∷ []) (triplets-count numbers c) e).0)
    (λ (q : j ≡ c → ⊥).
    triplets-at P numbers c (each_left P 0 (triplets_at numbers c) (triplet_at numbers c ∷ []) e) j (omega arith))
    (split-eq j c)

-- ---- steps and larger relations
-- what a step adds to a relation it adds to each above it
pub adds-more : (kind x y z : ℕ) (S A : Rel) → Within S A → (s t : Side) → Adds kind x y z S s t → Adds kind x y z A s t
adds-more kind x y z S A w s t h v sat obeys =
    h v sat (λ a b e. obeys a b (w (literal_at x y z a) (literal_at x y z b) e))

-- a relation that a step does not enlarge holds what the step adds to any below it
pub holds-below : (kind x y z : ℕ) (S A : Rel) → Within S A → HoldsStep kind x y z A A → HoldsStep kind x y z S A
holds-below kind x y z S A w h s t d = h s t (adds-more kind x y z S A w s t d)

-- two relations with the same equalities are enlarged by the same steps
pub rest-same : (ts : List Triplet) (R S : Rel) → Within R S → Within S R → NoStepEnlarges ts R → NoStepEnlarges ts S
rest-same ts R S w v h =
    each_map (HoldsStepOn R R) (HoldsStepOn S S) 0 ts
    (λ u x k s t d.
    w (literal_at x u.y u.z s) (literal_at x u.y u.z t)
    (k s t (adds-more u.kind x u.y u.z S R v s t d)))
    h

-- ---- which variables are in use
pub usable_at : (numbers : List ℕ) (c j x : ℕ) → Readable numbers c → j < c → x ≡ 2 * triplet_variable (j + 1) → Usable (in_use c)
    (kind_at numbers j) x (y_at numbers j) (z_at numbers j)
usable_at numbers c j x r h e =
    let n : ℕ = r.0 in
    let t : Triplets n numbers c r.1 = r.2 in
    record {
      kinds = t.shape.kinds j h;
      of-x = omega arith;
      of-y = omega (arith, named-below n j (y_at numbers j) t.flags (t.shape.ys j h));
      of-z = omega (arith, named-below n j (z_at numbers j) t.flags (t.shape.zs j h));
    }

-- ---- a pass that has come to triplet j
pub record Passing (numbers : List ℕ) (c j : ℕ) (xs ys : List ℕ) : Type 0 where
  pub classes : Classes (in_use c) ys
  pub grown : Growth (NoStepEnlarges (triplets_at numbers c)) (kept xs) (kept ys)
  pub idle : Within (kept ys) (kept xs) → (i : ℕ) → i < j → HoldsStepOn (kept xs) (kept xs) (triplet_at numbers i) (2 * triplet_variable (i + 1))

pub passing-start : (numbers : List ℕ) (c : ℕ) (xs : List ℕ) → Classes (in_use c) xs → Passing numbers c 0 xs xs
passing-start numbers c xs k =
    record { classes = k; grown = growth-none (NoStepEnlarges (triplets_at numbers c)) (kept xs); idle = λ w i h. absurd (omega arith) }

pub passing-next : (numbers : List ℕ) (c j x : ℕ) (xs ys zs : List ℕ) → j < c → Passing numbers c j xs ys
    → x ≡ 2 * triplet_variable (j + 1) → Stepped (in_use c) (triplet_at numbers j).kind x (triplet_at numbers j).y (triplet_at numbers j).z ys zs
    → Passing numbers c (j + 1) xs zs
passing-next numbers c j x xs ys zs h p here s =
    record {
      classes = s.classes;
      grown = growth-more (NoStepEnlarges ts) (kept xs) (kept ys) (kept zs) p.grown
          (record {
            above = s.least.above;
            below = λ A a w q.
                least-below (HoldsStep t.kind x t.y t.z (kept ys)) (kept ys) (kept zs) A s.least a w
                (holds-below t.kind x t.y t.z (kept ys) A w (at_x A A (triplets-at (HoldsStepOn A A) numbers c q j h)));
          });
      idle = λ w i g.
          ⊎_elim
          (λ (e : i ≡ j).
          subst (λ (u : ℕ). HoldsStepOn (kept xs) (kept xs) (triplet_at numbers u) (2 * triplet_variable (u + 1))) (sym e) (own w))
          (λ (e : i ≡ j → ⊥). p.idle (within-trans (kept ys) (kept zs) (kept xs) s.least.above w) i (omega arith))
          (split-eq i j);
    }
  where
    ts : List Triplet
    ts = triplets_at numbers c

    t : Triplet
    t = triplet_at numbers j

    at_x : (A B : Rel) → HoldsStepOn A B (triplet_at numbers j) (2 * triplet_variable (j + 1)) → HoldsStep t.kind x t.y t.z A B
    at_x A B g = subst (λ (u : ℕ). HoldsStep t.kind u t.y t.z A B) (sym here) g

    own : Within (kept zs) (kept xs) → HoldsStepOn (kept xs) (kept xs) (triplet_at numbers j) (2 * triplet_variable (j + 1))
    own w = subst (λ (u : ℕ). HoldsStep t.kind u t.y t.z (kept xs) (kept xs)) here (own_x w)
      where
        own_x : Within (kept zs) (kept xs) → HoldsStep t.kind x t.y t.z (kept xs) (kept xs)
        own_x w a b d =
            w (literal_at x t.y t.z a) (literal_at x t.y t.z b)
            (s.least.has a b (adds-more t.kind x t.y t.z (kept xs) (kept ys) p.grown.above a b d))

pub passing-done : (numbers : List ℕ) (c j : ℕ) (xs ys : List ℕ) → c ≤ j → Passing numbers c j xs ys → Passed numbers c xs ys
passing-done numbers c j xs ys h p =
    record {
      classes = p.classes;
      grown = p.grown;
      idle = λ w. at-triplets (HoldsStepOn (kept xs) (kept xs)) numbers c (λ i g. p.idle w i (omega arith));
    }

-- a contradictory relation ends the pass
pub passing-broken : (numbers : List ℕ) (c j : ℕ) (xs ys : List ℕ) → contradictory (entry ys) ≡ true → Passing numbers c j xs ys → Passed
    numbers c xs ys
passing-broken numbers c j xs ys e p =
    record {
      classes = p.classes;
      grown = p.grown;
      idle = λ w. at-triplets (HoldsStepOn (kept xs) (kept xs)) numbers c
          (λ i g s t d. w _ _ (relation-all (entry ys) e _ _));
    }

-- ---- passes that have come to ys, the last of which found the rank was and left the rank left
pub record Settling (numbers : List ℕ) (c : ℕ) (xs ys : List ℕ) (left was : ℕ) : Type 0 where
  pub classes : Classes (in_use c) ys
  pub grown : Growth (NoStepEnlarges (triplets_at numbers c)) (kept xs) (kept ys)
  pub ranks : left ≡ rank (in_use c) (entry ys)
  pub quiet : was ≤ left → NoStepEnlarges (triplets_at numbers c) (kept ys)

pub settling-start : (numbers : List ℕ) (c : ℕ) (xs : List ℕ) (left : ℕ) → Classes (in_use c) xs → left ≡ rank (in_use c) (entry xs) → Settling
    numbers c xs xs left (left + 1)
settling-start numbers c xs left k e =
    record {
      classes = k;
      grown = growth-none (NoStepEnlarges (triplets_at numbers c)) (kept xs);
      ranks = e;
      quiet = λ h. absurd (omega arith);
    }

pub settling-next : (numbers : List ℕ) (c : ℕ) (xs ys zs : List ℕ) (left was next : ℕ) → Settling numbers c xs ys left was → Passed numbers c ys
    zs → next ≡ rank (in_use c) (entry zs) → Settling numbers c xs zs next left
settling-next numbers c xs ys zs left was next s p e =
    record {
      classes = p.classes;
      grown = growth-more (NoStepEnlarges (triplets_at numbers c)) (kept xs) (kept ys) (kept zs) s.grown p.grown;
      ranks = e;
      quiet = λ h.
          let back : Within (kept zs) (kept ys) =
          rank-settles (in_use c) (entry ys) (entry zs) s.classes.canonical p.classes.canonical p.grown.above
          (omega (arith, s.ranks, e)) in
          rest-same (triplets_at numbers c) (kept ys) (kept zs) p.grown.above back (p.idle back);
    }

pub settling-done : (numbers : List ℕ) (c : ℕ) (xs ys : List ℕ) (left was : ℕ) → was ≤ left → Settling numbers c xs ys left was → Rested
    numbers c xs ys
settling-done numbers c xs ys left was h s =
    record {
      classes = s.classes;
      least = growth-least (NoStepEnlarges (triplets_at numbers c)) (kept xs) (kept ys) (is-relation (entry ys)) (s.quiet h) s.grown;
    }
