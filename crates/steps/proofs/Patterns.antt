-- The pattern of closed equalities names all of them: what holds the three named equalities holds every one.
use Prim.Native.Nat.{ℕ, suc, ◌+◌, ◌*◌, ◌/◌, ◌%◌, ◌≤◌, ◌<◌, zero-le, suc-le-suc}
use mathlib.Core.Path.{◌≡◌, refl, sym, ap, ◌∙◌, fun_ext, subst⁻¹}
use mathlib.Core.Bool.{Bool, true, false}
use mathlib.Core.List.{List, [], ◌∷◌}
use native.Mathlib.Omega.{arith}
use lib.ListN.{get_or}
use Rattle.ground.specs.Choice.{choose}
use Rattle.steps.specs.Step.{Side, never, always, own_x, not-x, own-y, not-y, own-z, not-z}
use Rattle.steps.specs.Table.{x_names, y_names, z_names, x_named, y_named, z_named, earliest, pattern}
use Rattle.relation.proofs.RelationLaws.{bool_eq}
use Rattle.steps.proofs.Sides.{other, other-twice, Closed, Consistent}

-- the first of a list that passes a test, or d
abbrev pub first : (Side → Bool) → List Side → Side → Side
first f [] d = d
first f (s ∷ ss) d = choose (f s) s (first f ss d)

choose-getD : (b : Bool) (s : Side) (ss : List Side) (k : ℕ) (d : Side) → get_or (s ∷ ss) (choose b 0 (suc k)) d ≡ choose b s (get_or ss k d)
choose-getD true s ss k d = refl
choose-getD false s ss k d = refl

at-earliest : (f : Side → Bool) (ss : List Side) (d : Side) → get_or ss (earliest f ss) d ≡ first f ss d
at-earliest f [] d = refl
at-earliest f (s ∷ ss) d = choose-getD (f s) s ss (earliest f ss) d ∙ ap (choose (f s) s) (at-earliest f ss d)

-- a place one later is one higher at most
pub step-up : (b : Bool) (k m : ℕ) → k ≤ m → choose b 0 (suc k) ≤ suc m
step-up true k m h = zero-le
step-up false k m h = suc-le-suc h

module _ (E : Side → Side → Bool) (closed : Closed E) where
  x_below : earliest (E own_x) x_names ≤ 2
  x_below = rw (closed.reflexive own_x) (step-up (E own_x never) _ 1 (step-up (E own_x always) 0 0 zero-le))

  y-below : earliest (E own-y) y_names ≤ 4
  y-below =
      rw (closed.reflexive own-y)
      (step-up (E own-y never) _ 3
      (step-up (E own-y always) _ 2 (step-up (E own-y own_x) _ 1 (step-up (E own-y not-x) 0 0 zero-le))))

  z-below : earliest (E own-z) z_names ≤ 6
  z-below =
      rw (closed.reflexive own-z)
      (step-up (E own-z never) _ 5
      (step-up (E own-z always) _ 4
      (step-up (E own-z own_x) _ 3
      (step-up (E own-z not-x) _ 2 (step-up (E own-z own-y) _ 1 (step-up (E own-z not-y) 0 0 zero-le))))))

  pub pattern-below : pattern E < 105
  unfolding pattern
  pattern-below = omega (arith, x_below, y-below, z-below)

  pub x-named : x_named (pattern E) ≡ first (E own_x) x_names own_x
  unfolding pattern
  x-named =
      let place : pattern E / 35 ≡ earliest (E own_x) x_names = omega (arith, x_below, y-below, z-below) in
      ap (λ (k : ℕ). get_or x_names k own_x) place ∙ at-earliest (E own_x) x_names own_x

  pub y-named : y_named (pattern E) ≡ first (E own-y) y_names own-y
  unfolding pattern
  y-named =
      let above : pattern E / 7 ≡ 5 * earliest (E own_x) x_names + earliest (E own-y) y_names = omega (arith, x_below, y-below, z-below) in
      let place : pattern E / 7 % 5 ≡ earliest (E own-y) y_names = rw above (omega (arith, x_below, y-below)) in
      ap (λ (k : ℕ). get_or y_names k own-y) place ∙ at-earliest (E own-y) y_names own-y

  pub z-named : z_named (pattern E) ≡ first (E own-z) z_names own-z
  unfolding pattern
  z-named =
      let place : pattern E % 7 ≡ earliest (E own-z) z_names = omega (arith, x_below, y-below, z-below) in
      ap (λ (k : ℕ). get_or z_names k own-z) place ∙ at-earliest (E own-z) z_names own-z

-- the first of a list of sides and their negations that passes a test, or d
abbrev lead : (Side → Bool) → List Side → Side → Side
lead f [] d = d
lead f (a ∷ ss) d = choose (f a) a (choose (f (other a)) (other a) (lead f ss d))

-- with their negations, all sides, in the order of their names
abbrev bases : List Side
bases = never ∷ own_x ∷ own-y ∷ own-z ∷ []

turned : (b c : Bool) (a l m : Side) → (b ≡ true → c ≡ true → ⊥) → m ≡ other l
    → choose c a (choose b (other a) m) ≡ other (choose b a (choose c (other a) l))
turned true true a l m n e = absurd (n refl refl)
turned true false a l m n e = refl
turned false true a l m n e = sym (other-twice a)
turned false false a l m n e = e

module _ (E : Side → Side → Bool) (closed : Closed E) (consistent : Consistent E) where
  -- negating the left side is negating the right
  crossed : (s a : Side) → E (other s) a ≡ E s (other a)
  crossed s a =
      bool_eq (E (other s) a) (E s (other a))
      (λ e. rw other-twice at (closed.negating (other s) a e))
      (λ e. rw other-twice at (closed.negating s (other a) e))

  crossed-twice : (s a : Side) → E (other s) (other a) ≡ E s a
  crossed-twice s a = crossed s (other a) ∙ ap (E s) (other-twice a)

  lead-other : (s d : Side) (ss : List Side) → lead (E (other s)) ss (other d) ≡ other (lead (E s) ss d)
  lead-other s d [] = refl
  lead-other s d (a ∷ ss) =
      rw (crossed s a, crossed-twice s a)
      (turned (E s a) (E s (other a)) a (lead (E s) ss d) (lead (E (other s)) ss (other d))
      (λ p q. consistent a (closed.transitive a s (other a) (closed.symmetric s a p) q))
      (lead-other s d ss))

  lead-same : (s t d : Side) (ss : List Side) → E s t ≡ true → lead (E s) ss d ≡ lead (E t) ss d
  lead-same s t d ss e = ap (λ (f : Side → Bool). lead f ss d) (fun_ext same)
    where
      same : (u : Side) → E s u ≡ E t u
      same u =
          bool_eq (E s u) (E t u) (closed.transitive t s u (closed.symmetric s t e)) (closed.transitive s t u e)

  module _ (A : Side → Side → Bool) (among : Closed A)
      (x-in : A own_x (first (E own_x) x_names own_x) ≡ true)
      (y-in : A own-y (first (E own-y) y_names own-y) ≡ true)
      (z-in : A own-z (first (E own-z) z_names own-z) ≡ true) where
    led-other : (s : Side) → ((d : Side) → A s (lead (E s) bases d) ≡ true) → (d : Side) → A (other s) (lead (E (other s)) bases d) ≡ true
    led-other s h d =
        subst⁻¹ (λ (t : Side). A (other s) t ≡ true)
        (ap (lead (E (other s)) bases) (sym (other-twice d)) ∙ lead-other s (other d) bases)
        (among.negating s (lead (E s) bases (other d)) (h (other d)))

    led-never : (d : Side) → A never (lead (E never) bases d) ≡ true
    led-never d = rw (closed.reflexive never) (among.reflexive never)

    led-x : (d : Side) → A own_x (lead (E own_x) bases d) ≡ true
    led-x d = rw (closed.reflexive own_x) (rw (closed.reflexive own_x) at x-in)

    led-y : (d : Side) → A own-y (lead (E own-y) bases d) ≡ true
    led-y d = rw (closed.reflexive own-y) (rw (closed.reflexive own-y) at y-in)

    led-z : (d : Side) → A own-z (lead (E own-z) bases d) ≡ true
    led-z d = rw (closed.reflexive own-z) (rw (closed.reflexive own-z) at z-in)

    led : (s d : Side) → A s (lead (E s) bases d) ≡ true
    led never d = led-never d
    led always d = led-other never led-never d
    led own_x d = led-x d
    led not-x d = led-other own_x led-x d
    led own-y d = led-y d
    led not-y d = led-other own-y led-y d
    led own-z d = led-z d
    led not-z d = led-other own-z led-z d

    -- every equality of E is one of A
    pub generated : (s t : Side) → E s t ≡ true → A s t ≡ true
    generated s t e =
        among.transitive s (lead (E s) bases never) t (led s never)
        (among.symmetric t (lead (E s) bases never)
        (subst⁻¹ (λ (u : Side). A t u ≡ true) (lead-same s t never bases e) (led t never)))
