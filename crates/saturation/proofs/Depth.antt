-- Depth only helps: what is stable at a depth is stable at every lower one.
use Prim.Native.Nat.{ℕ, zero, suc, ◌+◌, ◌*◌, ◌≤◌}
use mathlib.Core.Path.{◌≡◌}
use mathlib.Core.Bool.{true}
use mathlib.Core.List.{List, [], ◌∷◌}
use mathlib.Core.Logic.{◌⊎◌, ⊎_elim, ◌↔◌}
use native.Mathlib.Omega.{arith}
use Rattle.notation.specs.Triplets.{Triplet}
use Rattle.relation.proofs.RelationLaws.{least-unique}
use Rattle.steps.specs.Rest.{NoStepEnlarges}
use Rattle.saturation.specs.Saturation.{taking, Stable, Saturated, SaturationOf}
use Rattle.saturation.specs.clauses.Saturating.{Ties, HoldsSplit}
use Rattle.relation.specs.Relation.{Rel, IsRelation, Forced}
use Rattle.ground.proofs.Cases.{split-eq}
use Rattle.saturation.proofs.Taking.{above-taking, taking-above, taking-holds}

-- each variable of a list is one that is split
abbrev pub Among : (ℕ → Type 0) → List ℕ → Type 0
Among D [] = Unit {0}
Among D (f ∷ fs) = D f × Among D fs

module _ (D : ℕ → Type 0) (ts : List Triplet) where
  pub stable-rest : (k : ℕ) (S : Rel) → Stable D ts k S → NoStepEnlarges ts S
  stable-rest zero S h = h
  stable-rest (suc k) S h = h.0

  -- a property that says more forces less
  weaker-forces : (P Q : Rel → Type 0) (R : Rel) (l m : ℕ) → ((A : Rel) → Q A → P A) → Forced P R l m → Forced Q R l m
  weaker-forces P Q R l m h f A a w q = f A a w (h A q)

  -- k + 1-stable is k-stable
  pub lower : (k : ℕ) (S : Rel) → Stable D ts (suc k) S → Stable D ts k S
  lower zero S h = h.0
  lower (suc k) S h = (
    h.0,
    λ f l m d p q.
        h.1 f l m d
        (weaker-forces (Stable D ts k) (Stable D ts (suc k)) (taking S (2 * f)) l m (lower k) p)
        (weaker-forces (Stable D ts k) (Stable D ts (suc k)) (taking S (2 * f + 1)) l m (lower k) q),
  )

  -- so what is saturated at a depth is saturated at the next
  pub deeper : (k : ℕ) (R : Rel) (l m : ℕ) → Saturated D ts k R l m → Saturated D ts (suc k) R l m
  deeper k R l m = weaker-forces (Stable D ts k) (Stable D ts (suc k)) R l m (lower k)

  -- a split on a tied variable adds nothing to what is stable
  pub tied-splits : (k f : ℕ) (S : Rel) → IsRelation S → Stable D ts k S → Ties S f → HoldsSplit D ts k f S
  tied-splits k f S r h t l m p q =
      ⊎_elim
      (λ (e : S (2 * f) 0 ≡ true). p S r (above-taking S S (2 * f) (λ a b c. c) e) h)
      (λ (e : S (2 * f + 1) 0 ≡ true). q S r (above-taking S S (2 * f + 1) (λ a b c. c) e) h)
      t

  lower-to : (j k : ℕ) (S : Rel) → j ≤ k → Stable D ts k S → Stable D ts j S
  lower-to j zero S h s = let e : j ≡ 0 = omega arith in rw e s
  lower-to j (suc k) S h s =
      ⊎_elim
      (λ (e : j ≡ suc k). rw e s)
      (λ (n : j ≡ suc k → ⊥). lower-to j k S (omega arith) (lower k S s))
      (split-eq j (suc k))

  -- raising the depth keeps all that is saturated
  pub raised : (j k : ℕ) (R : Rel) (l m : ℕ) → j ≤ k → Saturated D ts j R l m → Saturated D ts k R l m
  raised j k R l m h = weaker-forces (Stable D ts j) (Stable D ts k) R l m (λ A s. lower-to j k A h s)

  -- no step enlarges S, and it ties each variable or holds its split: then it is stable one deeper
  pub stable-when : (k : ℕ) (S : Rel) → IsRelation S → NoStepEnlarges ts S
      → ((f : ℕ) → D f → Ties S f ⊎ HoldsSplit D ts k f S) → Stable D ts (suc k) S
  stable-when k S r rest splits = up_to (suc k) (omega arith)
    where
      up_to : (j : ℕ) → j ≤ suc k → Stable D ts j S
      up_to zero h = rest
      up_to (suc j) h = (
        rest,
        λ f l m d p q.
            ⊎_elim
            (λ (t : Ties S f). tied-splits j f S r (up_to j (omega arith)) t l m p q)
            (λ (s : HoldsSplit D ts k f S).
            s l m (raised j k (taking S (2 * f)) l m (omega arith) p) (raised j k (taking S (2 * f + 1)) l m (omega arith) q))
            (splits f d),
      )

  -- saturation is unique: the order of work never shows
  pub saturation-unique : (k : ℕ) (R S T : Rel) → SaturationOf D ts k R S → SaturationOf D ts k R T → (l m : ℕ) → S l m ≡ T l m
  saturation-unique k = least-unique (Stable D ts k)

  -- the k-saturation holds what is saturated, and nothing else
  pub saturated-held : (k : ℕ) (R T : Rel) → SaturationOf D ts k R T → (l m : ℕ) → (T l m ≡ true) ↔ Saturated D ts k R l m
  saturated-held k R T t l m = (t.forced l m, λ s. s T t.relation t.above t.has)

  -- adding in turn is adding at once: where T is the saturation of R, adding l to T is adding it to R
  pub in-turn : (k : ℕ) (R T : Rel) (l a b : ℕ) → SaturationOf D ts k R T
      → Saturated D ts k (taking T l) a b ↔ Saturated D ts k (taking R l) a b
  in-turn k R T l a b t = (less, more)
    where
      less : Saturated D ts k (taking T l) a b → Saturated D ts k (taking R l) a b
      less s A r w h =
          s A r
          (above-taking T A l (λ c d e. t.forced c d e A r (taking-above R A l w) h) (taking-holds R A l w))
          h

      more : Saturated D ts k (taking R l) a b → Saturated D ts k (taking T l) a b
      more s A r w h =
          s A r (above-taking R A l (λ c d e. taking-above T A l w c d (t.above c d e)) (taking-holds T A l w)) h

  -- so the saturation of T with l added is that of R with l added
  pub saturated-in-turn : (k : ℕ) (R T U : Rel) (l : ℕ) → SaturationOf D ts k R T → SaturationOf D ts k (taking T l) U → SaturationOf D ts k
      (taking R l) U
  saturated-in-turn k R T U l t u =
      record {
        relation = u.relation;
        above = above-taking R U l (λ c d e. taking-above T U l u.above c d (t.above c d e)) (taking-holds T U l u.above);
        has = u.has;
        forced = λ a b e. (in-turn k R T l a b t).0 (u.forced a b e);
      }
