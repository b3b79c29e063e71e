-- What a split keeps, what a run of steps and splits keeps on its way to saturation, and how the trial goes on from a
-- relation that is saturated.
use Prim.Native.Nat.{ℕ, suc, ◌+◌, ◌*◌}
use mathlib.Core.Path.{◌≡◌}
use mathlib.Core.Bool.{true}
use mathlib.Core.List.{List, ◌∷◌}
use mathlib.Core.Logic.{◌↔◌}
use Rattle.notation.specs.Triplets.{Triplet, negation}
use Rattle.relation.specs.Relation.{Rel, IsRelation, Within}
use Rattle.saturation.specs.Saturation.{taking, taken, Stable, Saturated, SaturationOf}
use Rattle.saturation.specs.clauses.Saturating.{HoldsSplit}
use Rattle.saturation.specs.Answer.{Refuted}
use Rattle.saturation.proofs.Taking.{HoldsAll, above-taking, taking-above, taking-holds, above-taken, taken-above}
use Rattle.saturation.proofs.Depth.{saturated-held, saturated-in-turn}

module _ (D : ℕ → Type 0) (ts : List Triplet) where
  pub saturated-more : (k : ℕ) (R S : Rel) (l m : ℕ) → Within R S → Saturated D ts k R l m → Saturated D ts k S l m
  saturated-more k R S l m w s A a v h = s A a (λ c d e. v c d (w c d e)) h

  pub taking-more : (R S : Rel) (l : ℕ) → Within R S → Within (taking R l) (taking S l)
  taking-more R S l w =
      above-taking R (taking S l) l (λ c d e. taking-above S (taking S l) l (λ a b h. h) c d (w c d e)) (taking-holds S (taking S l) l (λ a b h. h))

  module _ (k f : ℕ) (S T F : Rel) (on : SaturationOf D ts k (taking S (2 * f)) T) (off : SaturationOf D ts k (taking S (2 * f + 1)) F) where
    -- what both sides of a split on f share is held by every relation above S that is stable one deeper
    pub split_below : D f → (A : Rel) → IsRelation A → Within S A → Stable D ts (suc k) A → (l m : ℕ) → T l m ≡ true → F l m ≡ true → A
        l m ≡ true
    split_below d A a w h l m t o =
        h.1 f l m d
        (saturated-more k (taking S (2 * f)) (taking A (2 * f)) l m (taking-more S A (2 * f) w) (on.forced l m t))
        (saturated-more k (taking S (2 * f + 1)) (taking A (2 * f + 1)) l m (taking-more S A (2 * f + 1) w) (off.forced l m o))

    -- and where S holds it already, S holds the split
    pub split-held : ((l m : ℕ) → T l m ≡ true → F l m ≡ true → S l m ≡ true) → HoldsSplit D ts k f S
    split-held h l m p q = h l m ((saturated-held D ts k (taking S (2 * f)) T on l m).1 p) ((saturated-held D ts k (taking S (2 * f + 1)) F off l m).1 q)

  -- the trial goes on from what is saturated: adding a literal to that is adding it to the assumptions
  module _ (root k : ℕ) (ls : List ℕ) (T : Rel) (saturated : SaturationOf D ts k (taken (negation root ∷ ls)) T) where
    pub refuted-held : (T 0 1 ≡ true) ↔ Refuted D ts root k ls
    refuted-held = saturated-held D ts k (taken (negation root ∷ ls)) T saturated 0 1

    pub trial-next : (l : ℕ) (U : Rel) → SaturationOf D ts k (taking T l) U → SaturationOf D ts k (taken (negation root ∷ l ∷ ls)) U
    trial-next l U u =
        let both : SaturationOf D ts k (taking (taken (negation root ∷ ls)) l) U = saturated-in-turn D ts k (taken (negation root ∷ ls)) T U l saturated u
        in
        let old : HoldsAll U (negation root ∷ ls) = taken-above U (negation root ∷ ls) (taking-above (taken (negation root ∷ ls)) U l both.above) in
        record {
          relation = both.relation;
          above = above-taken U (negation root ∷ l ∷ ls) (old.0, (taking-holds (taken (negation root ∷ ls)) U l both.above, old.1));
          has = both.has;
          forced = λ a b e A r w h.
              let new : HoldsAll A (negation root ∷ l ∷ ls) = taken-above A (negation root ∷ l ∷ ls) w in
              both.forced a b e A r
              (above-taking (taken (negation root ∷ ls)) A l (above-taken A (negation root ∷ ls) (new.0, new.1.1)) new.1.0) h;
        }
