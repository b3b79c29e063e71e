-- What an entry of the step table names is all that a step adds, and nothing else.
use Prim.Native.Nat.{ℕ}
use mathlib.Core.Path.{◌≡◌, refl, sym, ap, ◌∙◌}
use mathlib.Core.Bool.{Bool, true, false, not, beq, ◌&&◌, ◌||◌, false≢true}
use mathlib.Core.List.{List, [], ◌∷◌}
use mathlib.Core.Logic.{⊎_elim, ◌↔◌}
use native.Mathlib.Omega.{arith}
use Rattle.ground.specs.Choice.{choose}
use Rattle.relation.specs.Relation.{Rel, IsRelation}
use Rattle.truth.specs.Connectives.{gate}
use Rattle.steps.specs.Step.{Side, never, always, own_x, own-y, own-z, Values, truth_at, Satisfies, Obeys}
use Rattle.steps.specs.Table.{x_names, y_names, z_names, x_named, y_named, z_named, pattern, pattern_of, fits, both, each, follows, contradictory, entry}
use Rattle.steps.proofs.Entries.{and_left, and_right}
use Rattle.ground.proofs.Cases.{either}
use Rattle.steps.proofs.Sides.{eq-beq, not-self, other, truth-other, Closed, Consistent, held, alike, held-closed, held-consistent, alike-closed}
use Rattle.ground.proofs.Truths.{beq-eq}
use Rattle.steps.proofs.Patterns.{first, pattern-below, x-named, y-named, z-named, generated}

and_both : (a b : Bool) → a ≡ true → b ≡ true → a && b ≡ true
and_both true b p q = q
and_both false b p q = p

if-gives : (a b : Bool) → not a || b ≡ true → a ≡ true → b ≡ true
if-gives true b h e = h
if-gives false b h e = absurd (false≢true e)

gives-if : (a b : Bool) → (a ≡ true → b ≡ true) → not a || b ≡ true
gives-if true b h = h refl
gives-if false b h = refl

both_at : (f : Bool → Bool) → both f ≡ true → (b : Bool) → f b ≡ true
both_at f e false = and_left (f false) (f true) e
both_at f e true = and_right (f false) (f true) e

-- a test that passes at each of the eight passes at every truth value
each_at : (f : Values → Bool) → each f ≡ true → (v : Values) → f v ≡ true
each_at f e v =
    both_at (λ c. f (record { x = v.x; y = v.y; z = c }))
    (both_at (λ b. both (λ c. f (record { x = v.x; y = b; z = c })))
    (both_at (λ a. both (λ b. both (λ c. f (record { x = a; y = b; z = c })))) e v.x) v.y) v.z

both-all : (f : Bool → Bool) → ((b : Bool) → f b ≡ true) → both f ≡ true
both-all f h = and_both (f false) (f true) (h false) (h true)

each_all : (f : Values → Bool) → ((v : Values) → f v ≡ true) → each f ≡ true
each_all f h =
    both-all (λ a. both (λ b. both (λ c. f (record { x = a; y = b; z = c }))))
    (λ a. both-all (λ b. both (λ c. f (record { x = a; y = b; z = c })))
    (λ b. both-all (λ c. f (record { x = a; y = b; z = c })) (λ c. h (record { x = a; y = b; z = c }))))

-- s = t follows, where it holds in each truth value that satisfies triplet and pattern
pub follows-gives : (kind p : ℕ) (s t : Side) → follows kind p s t ≡ true
    → (v : Values) → Satisfies kind v → fits p v ≡ true → truth_at v s ≡ truth_at v t
unfolding follows
follows-gives kind p s t e v a b =
    beq-eq (truth_at v s) (truth_at v t)
    (if-gives (beq v.x (gate kind v.y v.z) && fits p v) (alike v s t)
    (each_at (λ w. not (beq w.x (gate kind w.y w.z) && fits p w) || alike w s t) e v)
    (and_both (beq v.x (gate kind v.y v.z)) (fits p v) (eq-beq v.x (gate kind v.y v.z) a) b))

pub gives-follows : (kind p : ℕ) (s t : Side)
    → ((v : Values) → Satisfies kind v → fits p v ≡ true → truth_at v s ≡ truth_at v t) → follows kind p s t ≡ true
unfolding follows
gives-follows kind p s t h =
    each_all (λ w. not (beq w.x (gate kind w.y w.z) && fits p w) || alike w s t)
    (λ v. gives-if (beq v.x (gate kind v.y v.z) && fits p v) (alike v s t)
    (λ e. eq-beq (truth_at v s) (truth_at v t)
    (h v (beq-eq v.x (gate kind v.y v.z) (and_left (beq v.x (gate kind v.y v.z)) (fits p v) e))
    (and_right (beq v.x (gate kind v.y v.z)) (fits p v) e))))

pub follows-closed : (kind p : ℕ) → Closed (follows kind p)
follows-closed kind p =
    record {
      reflexive = λ s. gives-follows kind p s s (λ v a b. refl);
      symmetric = λ s t e. gives-follows kind p t s (λ v a b. sym (follows-gives kind p s t e v a b));
      transitive = λ s t u e f.
          gives-follows kind p s u (λ v a b. follows-gives kind p s t e v a b ∙ follows-gives kind p t u f v a b);
      negating = λ s t e.
          gives-follows kind p (other s) (other t)
          (λ v a b. truth-other v s ∙ ap not (follows-gives kind p s t e v a b) ∙ sym (truth-other v t));
    }

pub follows-consistent : (kind p : ℕ) → follows kind p never always ≡ false → Consistent (follows kind p)
follows-consistent kind p n s e =
    false≢true
    (sym n
    ∙ gives-follows kind p never always
    (λ v a b. absurd (not-self (truth_at v s) (follows-gives kind p s (other s) e v a b ∙ truth-other v s))))

first_passes : (f : Side → Bool) (ss : List Side) (d : Side) → f d ≡ true → f (first f ss d) ≡ true
first_passes f [] d e = e
first_passes f (s ∷ ss) d e = chosen (f s) refl (first_passes f ss d e)
  where
    chosen : (b : Bool) → f s ≡ b → f (first f ss d) ≡ true → f (choose b s (first f ss d)) ≡ true
    chosen true p q = p
    chosen false p q = q

-- what the pattern of closed equalities names is among them
module _ (E : Side → Side → Bool) (closed : Closed E) where
  pub x-holds : E own_x (x_named (pattern E)) ≡ true
  x-holds = rw (x-named E closed) (first_passes (E own_x) x_names own_x (closed.reflexive own_x))

  pub y-holds : E own-y (y_named (pattern E)) ≡ true
  y-holds = rw (y-named E closed) (first_passes (E own-y) y_names own-y (closed.reflexive own-y))

  pub z-holds : E own-z (z_named (pattern E)) ≡ true
  z-holds = rw (z-named E closed) (first_passes (E own-z) z_names own-z (closed.reflexive own-z))

-- where the pattern of E is held, all of E is
pub all_held : (E A : Side → Side → Bool) → Closed E → Consistent E → Closed A
    → A own_x (x_named (pattern E)) ≡ true → A own-y (y_named (pattern E)) ≡ true → A own-z (z_named (pattern E)) ≡ true
    → (s t : Side) → E s t ≡ true → A s t ≡ true
all_held E A e c a x y z =
    generated E e c A a (rw (x-named E e) at x) (rw (y-named E e) at y) (rw (z-named E e) at z)

-- what fits the pattern of E has equal truth wherever E says equal
fitting-alike : (E : Side → Side → Bool) → Closed E → Consistent E → (v : Values) → fits (pattern E) v ≡ true
    → (s t : Side) → E s t ≡ true → truth_at v s ≡ truth_at v t
fitting-alike E e c v f s t h =
    let p : ℕ = pattern E in
    let rest : alike v own-y (y_named p) && alike v own-z (z_named p) ≡ true = and_right (alike v own_x (x_named p))
    (alike v own-y (y_named p) && alike v own-z (z_named p)) f in
    beq-eq (truth_at v s) (truth_at v t)
    (all_held E (alike v) e c (alike-closed v)
    (and_left (alike v own_x (x_named p)) (alike v own-y (y_named p) && alike v own-z (z_named p)) f)
    (and_left (alike v own-y (y_named p)) (alike v own-z (z_named p)) rest)
    (and_right (alike v own-y (y_named p)) (alike v own-z (z_named p)) rest)
    s t h)

-- a truth value fits the pattern that names it so
pub named-fits : (p : ℕ) (v : Values) → truth_at v own_x ≡ truth_at v (x_named p) → truth_at v own-y ≡ truth_at v (y_named p) → truth_at v own-z
    ≡ truth_at v (z_named p)
    → fits p v ≡ true
named-fits p v a b c =
    and_both (alike v own_x (x_named p)) (alike v own-y (y_named p) && alike v own-z (z_named p))
    (eq-beq (truth_at v own_x) (truth_at v (x_named p)) a)
    (and_both (alike v own-y (y_named p)) (alike v own-z (z_named p))
    (eq-beq (truth_at v own-y) (truth_at v (y_named p)) b)
    (eq-beq (truth_at v own-z) (truth_at v (z_named p)) c))

module _ (S : Rel) (x y z : ℕ) (relation : IsRelation S) where
  -- a truth value that obeys the relation fits its pattern
  pub obeys-fits : (v : Values) → Obeys S x y z v → fits (pattern_of S x y z) v ≡ true
  obeys-fits v o =
      let p : ℕ = pattern_of S x y z in
      let closed : Closed (held S x y z) = held-closed S x y z relation in
      named-fits p v
      (o own_x (x_named p) (x-holds (held S x y z) closed))
      (o own-y (y_named p) (y-holds (held S x y z) closed))
      (o own-z (z_named p) (z-holds (held S x y z) closed))

  -- and the other way round
  pub fits-obeys : S 0 1 ≡ false → (v : Values) → fits (pattern_of S x y z) v ≡ true → Obeys S x y z v
  fits-obeys n v f s t e =
      fitting-alike (held S x y z) (held-closed S x y z relation) (held-consistent S x y z relation n) v f s t e

-- an entry is the contradiction exactly where no truth value satisfies both triplet and pattern
pub entry-contradicts : (kind p : ℕ) → entry kind p ≡ contradictory → follows kind p never always ≡ true
unfolding entry
entry-contradicts kind p e = decide (follows kind p never always) refl
  where
    decide : (b : Bool) → follows kind p never always ≡ b → b ≡ true
    decide true q = refl
    decide false q =
        absurd (omega (arith, pattern-below (follows kind p) (follows-closed kind p), sym (rw q at e)))

pub contradicts-entry : (kind p : ℕ) → follows kind p never always ≡ true → entry kind p ≡ contradictory
unfolding entry
contradicts-entry kind p e = rw e

-- elsewhere it is the pattern of all that follows
pub entry-names : (kind p : ℕ) → follows kind p never always ≡ false → entry kind p ≡ pattern (follows kind p)
unfolding entry
entry-names kind p e = rw e

pub entry-consistent : (kind p : ℕ) → (entry kind p ≡ contradictory → ⊥) → follows kind p never always ≡ false
entry-consistent kind p n =
    ⊎_elim (λ (e : follows kind p never always ≡ true). absurd (n (contradicts-entry kind p e))) (λ e. e)
    (either (follows kind p never always))

-- 255 stands exactly where no truth value satisfies both triplet and pattern
pub contradictory-where : (kind p : ℕ) → (entry kind p ≡ contradictory) ↔ ((v : Values) → Satisfies kind v → fits p v ≡ true → ⊥)
contradictory-where kind p = (
  λ e v a b. false≢true (follows-gives kind p never always (entry-contradicts kind p e) v a b),
  λ n. contradicts-entry kind p (gives-follows kind p never always (λ v a b. absurd (n v a b))),
)

-- elsewhere the entry is the strongest consequence: it names every equality that holds in each truth value that
-- satisfies both triplet and pattern, and no other
pub strongest : (kind p : ℕ) → (entry kind p ≡ contradictory → ⊥) → (s t : Side)
    → ((v : Values) → Satisfies kind v → fits p v ≡ true → truth_at v s ≡ truth_at v t)
    ↔ ((v : Values) → fits (entry kind p) v ≡ true → truth_at v s ≡ truth_at v t)
strongest kind p n s t = rw (entry-names kind p here) (every, no_other)
  where
    here : follows kind p never always ≡ false
    here = entry-consistent kind p n

    every : ((v : Values) → Satisfies kind v → fits p v ≡ true → truth_at v s ≡ truth_at v t)
        → (v : Values) → fits (pattern (follows kind p)) v ≡ true → truth_at v s ≡ truth_at v t
    every h v f =
        fitting-alike (follows kind p) (follows-closed kind p) (follows-consistent kind p (entry-consistent kind p n)) v f s t (gives-follows kind p s t h)

    no_other : ((v : Values) → fits (pattern (follows kind p)) v ≡ true → truth_at v s ≡ truth_at v t)
        → (v : Values) → Satisfies kind v → fits p v ≡ true → truth_at v s ≡ truth_at v t
    no_other h v a b =
        h v
        (named-fits (pattern (follows kind p)) v
        (follows-gives kind p own_x (x_named (pattern (follows kind p))) (x-holds (follows kind p) (follows-closed kind p)) v a b)
        (follows-gives kind p own-y (y_named (pattern (follows kind p))) (y-holds (follows kind p) (follows-closed kind p)) v a b)
        (follows-gives kind p own-z (z_named (pattern (follows kind p))) (z-holds (follows kind p) (follows-closed kind p)) v a b))
