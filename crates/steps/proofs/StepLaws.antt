-- What a step adds to a relation, by the entry at the pattern of x, y and z in it.
use Prim.Native.Nat.{ℕ}
use mathlib.Core.Path.{◌≡◌, sym, ◌∙◌}
use mathlib.Core.Bool.{Bool, true, false}
use mathlib.Core.Logic.{⊎_elim}
use native.Mathlib.Omega.{arith}
use Rattle.notation.specs.Triplets.{negation}
use Rattle.relation.specs.Relation.{Rel, IsRelation, Within}
use Rattle.steps.specs.Step.{Side, never, always, own_x, own-y, own-z, literal_at, Adds, HoldsStep}
use Rattle.steps.specs.Table.{x_named, y_named, z_named, pattern, pattern_of, follows, contradictory, entry, NamesHold}
use Rattle.ground.proofs.Cases.{either}
use Rattle.steps.proofs.Sides.{Closed, held, held-closed}
use Rattle.steps.proofs.Patterns.{pattern-below}
use Rattle.steps.proofs.Strongest.{follows-gives, gives-follows, follows-closed, follows-consistent, x-holds, y-holds, z-holds, all_held}
use Rattle.steps.proofs.Strongest.{named-fits, obeys-fits, fits-obeys, entry-contradicts, entry-names, entry-consistent}

-- where true equals false, everything is held
pub all-equal : (A : Rel) → IsRelation A → A 0 1 ≡ true → (l m : ℕ) → A l m ≡ true
unfolding negation
all-equal A a e = a.contradiction 0 e

module _ (kind x y z : ℕ) (S : Rel) (relation : IsRelation S) where
  -- an entry is the strongest consequence: a step adds all that follows from its pattern
  pub follows-added : (s t : Side) → follows kind (pattern_of S x y z) s t ≡ true → Adds kind x y z S s t
  follows-added s t e v a o =
      follows-gives kind (pattern_of S x y z) s t e v a (obeys-fits S x y z relation v o)

  -- and nothing else
  pub added-follows : S 0 1 ≡ false → (s t : Side) → Adds kind x y z S s t → follows kind (pattern_of S x y z) s t ≡ true
  added-follows n s t h =
      gives-follows kind (pattern_of S x y z) s t (λ v a f. h v a (fits-obeys S x y z relation n v f))

  -- where the entry is the contradiction, a step makes the relation contradictory
  pub step-contradicts : (A : Rel) → IsRelation A → entry kind (pattern_of S x y z) ≡ contradictory → HoldsStep kind x y z S A → A 0 1 ≡ true
  step-contradicts A a e h =
      a.symmetric 1 0 (h never always (follows-added never always (entry-contradicts kind (pattern_of S x y z) e)))

  pub contradicts-step : (A : Rel) → IsRelation A → A 0 1 ≡ true → HoldsStep kind x y z S A
  contradicts-step A a e s t h = all-equal A a e (literal_at x y z s) (literal_at x y z t)

  -- elsewhere it adds what the entry names
  pub step-names : (A : Rel) → (entry kind (pattern_of S x y z) ≡ contradictory → ⊥) → HoldsStep kind x y z S A
      → NamesHold (entry kind (pattern_of S x y z)) x y z A
  step-names A n h =
      let p : ℕ = pattern_of S x y z in
      let E : Side → Side → Bool = follows kind p in
      rw (entry-names kind p (entry-consistent kind p n))
      (record {
        of-x = h own_x (x_named (pattern E)) (follows-added own_x (x_named (pattern E)) (x-holds E (follows-closed kind p)));
        of-y = h own-y (y_named (pattern E)) (follows-added own-y (y_named (pattern E)) (y-holds E (follows-closed kind p)));
        of-z = h own-z (z_named (pattern E)) (follows-added own-z (z_named (pattern E)) (z-holds E (follows-closed kind p)));
      })

  pub names-step : (A : Rel) → IsRelation A → Within S A → (entry kind (pattern_of S x y z) ≡ contradictory → ⊥)
      → NamesHold (entry kind (pattern_of S x y z)) x y z A → HoldsStep kind x y z S A
  names-step A a w n h =
      ⊎_elim
      (λ (e : S 0 1 ≡ true). contradicts-step A a (w 0 1 e))
      (λ (e : S 0 1 ≡ false). λ s t d. all e s t d)
      (either (S 0 1))
    where
      all : S 0 1 ≡ false → (s t : Side) → Adds kind x y z S s t → A (literal_at x y z s) (literal_at x y z t) ≡ true
      all e s t d =
          let p : ℕ = pattern_of S x y z in
          let E : Side → Side → Bool = follows kind p in
          let here : follows kind p never always ≡ false = entry-consistent kind p n in
          let named : NamesHold (pattern E) x y z A = rw (entry-names kind p here) at h in
          all_held E (held A x y z) (follows-closed kind p) (follows-consistent kind p here) (held-closed A x y z a)
          named.of-x named.of-y named.of-z s t (added-follows e s t d)

  -- where the entry is the pattern itself, a step adds nothing
  pub settled : entry kind (pattern_of S x y z) ≡ pattern_of S x y z → HoldsStep kind x y z S S
  settled e =
      let p : ℕ = pattern_of S x y z in
      let closed : Closed (held S x y z) = held-closed S x y z relation in
      names-step S relation (λ l m q. q)
      (λ c. omega (arith, sym e ∙ c, pattern-below (held S x y z) closed))
      (rw e
      (record {
        of-x = x-holds (held S x y z) closed;
        of-y = y-holds (held S x y z) closed;
        of-z = z-holds (held S x y z) closed;
      }))

-- at rest: where A holds what a pattern names, it holds what the entry there names, whatever else it holds
module _ (kind x y z p : ℕ) (A : Rel) (relation : IsRelation A) (named : NamesHold p x y z A) (rests : HoldsStep kind x y z A A) where
  pub follows-held : (s t : Side) → follows kind p s t ≡ true → A (literal_at x y z s) (literal_at x y z t) ≡ true
  follows-held s t e =
      rests s t
      (λ v sat obeys. follows-gives kind p s t e v sat (named-fits p v (obeys own_x (x_named p) named.of-x) (obeys own-y (y_named p) named.of-y)
      (obeys own-z (z_named p) named.of-z)))

  pub entry-contradicted : entry kind p ≡ contradictory → A 0 1 ≡ true
  entry-contradicted e = relation.symmetric 1 0 (follows-held never always (entry-contradicts kind p e))

  pub entry-held : (entry kind p ≡ contradictory → ⊥) → NamesHold (entry kind p) x y z A
  entry-held n =
      let E : Side → Side → Bool = follows kind p in
      rw (entry-names kind p (entry-consistent kind p n))
      (record {
        of-x = follows-held own_x (x_named (pattern E)) (x-holds E (follows-closed kind p));
        of-y = follows-held own-y (y_named (pattern E)) (y-holds E (follows-closed kind p));
        of-z = follows-held own-z (z_named (pattern E)) (z-holds E (follows-closed kind p));
      })
