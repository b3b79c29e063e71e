-- The pattern of x, y and z in a consistent array, by the literals that they lead to.
use Prim.Native.Nat.{ℕ, zero, suc, ◌+◌, ◌*◌, ◌/◌, ◌%◌, ◌≤◌}
use mathlib.Core.Path.{◌≡◌, refl, sym, ◌∙◌, ap, ap₂}
use mathlib.Core.Bool.{true, not, false≢true}
use mathlib.Core.List.{List, [], ◌∷◌}
use mathlib.Core.Logic.{⊎_elim}
use native.Mathlib.Omega.{arith}
use lib.ListN.{get_or}
use lib.Dec.{eqb}
use borrow.Author.Tests.{eq-eqb, ne_eqb}
use Rattle.notation.specs.Triplets.{negation}
use Rattle.relation.specs.clauses.Classes.{lead, relation}
use Rattle.ground.proofs.Cases.{split-eq}
use Rattle.relation.proofs.LiteralLaws.{same-variable}
use Rattle.relation.proofs.ClassLaws.{lead_is, lead-negation, relation-leads, leads-same, contradictory-at}
use Rattle.steps.specs.Step.{Side, own_x, own-y, own-z, literal_at}
use Rattle.steps.specs.Table.{x_names, y_names, z_names, earliest, pattern, pattern_of}
use Rattle.steps.specs.clauses.Leading.{place, x_place, y_place, z_place, Patterned}
use Rattle.steps.proofs.Patterns.{step-up}

-- a literal of m's variable has one of the two places of m and its negation
place_here : (l m : ℕ) (ms : List ℕ) → l / 2 ≡ m / 2 → place l (m ∷ negation m ∷ ms) ≡ (l + m) % 2
place_here l m ms e =
    ⊎_elim
    (λ (p : l ≡ m). rw (eq-eqb l m p) (omega (arith, p)))
    (λ (p : l ≡ m → ⊥). rw (ne_eqb l m p, eq-eqb l (negation m) (turn p)) (odd p))
    (split-eq l m)
  where
    turn : (l ≡ m → ⊥) → l ≡ negation m
    turn p = same-variable m l (sym e) (λ q. p (sym q))

    odd : (l ≡ m → ⊥) → 1 ≡ (l + m) % 2
    odd p = omega arith

-- any other has a place further on
place-past : (l m : ℕ) (ms : List ℕ) → (l / 2 ≡ m / 2 → ⊥) → place l (m ∷ negation m ∷ ms) ≡ 2 + place l ms
unfolding negation
place-past l m ms d =
    rw (ne_eqb l m (λ q. d (ap (λ (w : ℕ). w / 2) q)), ne_eqb l (negation m) (λ q. d (omega (arith, q)))) (omega arith)

first-here : (l : ℕ) (ms : List ℕ) → l / 2 ≡ 0 → place l (1 ∷ 0 ∷ ms) ≡ (l + 1) % 2
unfolding negation
first-here l ms e = place_here l 1 ms e

first_past : (l : ℕ) (ms : List ℕ) → (l / 2 ≡ 0 → ⊥) → place l (1 ∷ 0 ∷ ms) ≡ 2 + place l ms
unfolding negation
first_past l ms d = place-past l 1 ms d

pub x-first : (a : ℕ) → a / 2 ≡ 0 → x_place a ≡ (a + 1) % 2
unfolding x_place
x-first a e = first-here a [] e

pub x-own : (a : ℕ) → (a / 2 ≡ 0 → ⊥) → x_place a ≡ 2
unfolding x_place
x-own a d = first_past a [] d

pub y-first : (a b : ℕ) → b / 2 ≡ 0 → y_place a b ≡ (b + 1) % 2
unfolding y_place
y-first a b e = first-here b (a ∷ negation a ∷ []) e

pub y-second : (a b : ℕ) → (b / 2 ≡ 0 → ⊥) → b / 2 ≡ a / 2 → y_place a b ≡ 2 + (b + a) % 2
unfolding y_place
y-second a b d e = first_past b (a ∷ negation a ∷ []) d ∙ ap (λ (k : ℕ). 2 + k) (place_here b a [] e)

pub y-own : (a b : ℕ) → (b / 2 ≡ 0 → ⊥) → (b / 2 ≡ a / 2 → ⊥) → y_place a b ≡ 4
unfolding y_place
y-own a b d e = first_past b (a ∷ negation a ∷ []) d ∙ ap (λ (k : ℕ). 2 + k) (place-past b a [] e)

pub z-first : (a b c : ℕ) → c / 2 ≡ 0 → z_place a b c ≡ (c + 1) % 2
unfolding z_place
z-first a b c e = first-here c (a ∷ negation a ∷ b ∷ negation b ∷ []) e

pub z-second : (a b c : ℕ) → (c / 2 ≡ 0 → ⊥) → c / 2 ≡ a / 2 → z_place a b c ≡ 2 + (c + a) % 2
unfolding z_place
z-second a b c d e =
    first_past c (a ∷ negation a ∷ b ∷ negation b ∷ []) d
    ∙ ap (λ (k : ℕ). 2 + k) (place_here c a (b ∷ negation b ∷ []) e)

pub z-third : (a b c : ℕ) → (c / 2 ≡ 0 → ⊥) → (c / 2 ≡ a / 2 → ⊥) → c / 2 ≡ b / 2 → z_place a b c ≡ 4 + (c + b) % 2
unfolding z_place
z-third a b c d e g =
    first_past c (a ∷ negation a ∷ b ∷ negation b ∷ []) d
    ∙ ap (λ (k : ℕ). 2 + k) (place-past c a (b ∷ negation b ∷ []) e ∙ ap (λ (k : ℕ). 2 + k) (place_here c b [] g))
    ∙ omega arith

pub z-own : (a b c : ℕ) → (c / 2 ≡ 0 → ⊥) → (c / 2 ≡ a / 2 → ⊥) → (c / 2 ≡ b / 2 → ⊥) → z_place a b c ≡ 6
unfolding z_place
z-own a b c d e g =
    first_past c (a ∷ negation a ∷ b ∷ negation b ∷ []) d
    ∙ ap (λ (k : ℕ). 2 + k) (place-past c a (b ∷ negation b ∷ []) e ∙ ap (λ (k : ℕ). 2 + k) (place-past c b [] g))

pub x-most : (a : ℕ) → x_place a ≤ 2
unfolding x_place
x-most a = step-up (eqb a 1) _ 1 (step-up (eqb a 0) 0 0 (omega arith))

pub y-most : (a b : ℕ) → y_place a b ≤ 4
unfolding y_place
y-most a b =
    step-up (eqb b 1) _ 3 (step-up (eqb b 0) _ 2 (step-up (eqb b a) _ 1 (step-up (eqb b (negation a)) 0 0 (omega arith))))

pub z-most : (a b c : ℕ) → z_place a b c ≤ 6
unfolding z_place
z-most a b c =
    step-up (eqb c 1) _ 5
    (step-up (eqb c 0) _ 4
    (step-up (eqb c a) _ 3
    (step-up (eqb c (negation a)) _ 2 (step-up (eqb c b) _ 1 (step-up (eqb c (negation b)) 0 0 (omega arith))))))

module _ (f : ℕ → ℕ) (top : f 0 ≡ 0) (x y z : ℕ) where
  equal-at : (l m r : ℕ) → lead f m ≡ r → relation f l m ≡ eqb (lead f l) r
  equal-at l m r e = relation-leads f (contradictory-at f top) l m ∙ ap (eqb (lead f l)) e

  at_true : lead f 0 ≡ 0
  at_true = lead_is f 0 0 (ap (λ (w : ℕ). w / 2) top) (ap (λ (w : ℕ). (w + 0) % 2) top)

  at-false : lead f 1 ≡ 1
  at-false = lead_is f 1 1 (ap (λ (w : ℕ). w / 2) top) (ap (λ (w : ℕ). (w + 1) % 2) top)

  x-at : earliest (λ (t : Side). relation f x (literal_at x y z t)) x_names ≡ x_place (lead f x)
  unfolding x_place
  x-at = rw (equal-at x 1 1 at-false, equal-at x 0 0 at_true, leads-same f x x refl)

  y-at : earliest (λ (t : Side). relation f y (literal_at x y z t)) y_names ≡ y_place (lead f x) (lead f y)
  unfolding y_place
  y-at =
      rw (
        equal-at y 1 1 at-false,
        equal-at y 0 0 at_true,
        equal-at y x (lead f x) refl,
        equal-at y (negation x) (negation (lead f x)) (lead-negation f x),
        leads-same f y y refl,
      )

  z-at : earliest (λ (t : Side). relation f z (literal_at x y z t)) z_names ≡ z_place (lead f x) (lead f y) (lead f z)
  unfolding z_place
  z-at =
      rw (
        equal-at z 1 1 at-false,
        equal-at z 0 0 at_true,
        equal-at z x (lead f x) refl,
        equal-at z (negation x) (negation (lead f x)) (lead-negation f x),
        equal-at z y (lead f y) refl,
        equal-at z (negation y) (negation (lead f y)) (lead-negation f y),
        leads-same f z z refl,
      )

  -- by the leaders the pattern is that of the relation
  pub pattern-leads : (p : ℕ) → Patterned (lead f x) (lead f y) (lead f z) p → p ≡ pattern_of (relation f) x y z
  unfolding pattern
  pattern-leads p h = h.names ∙ sym (ap₂ ◌+◌ (ap₂ (λ (i j : ℕ). 35 * i + 7 * j) x-at y-at) z-at)

-- a test that tells two numbers apart
pub told_apart : (m n : ℕ) → not (eqb m n) ≡ true → m ≡ n → ⊥
told_apart m n e p = false≢true (rw (eq-eqb m n p) at e)

-- where no two of true, x, y and z lead to one variable, each has its own name
pub own-names : (a b c : ℕ) → (a / 2 ≡ 0 → ⊥) → (b / 2 ≡ 0 → ⊥) → (c / 2 ≡ 0 → ⊥) → (b / 2 ≡ a / 2 → ⊥)
    → (c / 2 ≡ a / 2 → ⊥) → (c / 2 ≡ b / 2 → ⊥) → Patterned a b c 104
own-names a b c p q r s t u =
    record { names = sym (ap₂ ◌+◌ (ap₂ (λ (i j : ℕ). 35 * i + 7 * j) (x-own a p) (y-own a b q s)) (z-own a b c r t u)); below = omega arith }

-- the names of x and of y are the first of those of z
pub x-among : (k : ℕ) → k ≤ 2 → get_or z_names k own-z ≡ get_or x_names k own_x
x-among zero h = refl
x-among (suc zero) h = refl
x-among (suc (suc zero)) h = refl
x-among (suc (suc (suc k))) h = absurd (omega arith)

pub y-among : (k : ℕ) → k ≤ 4 → get_or z_names k own-z ≡ get_or y_names k own-y
y-among zero h = refl
y-among (suc zero) h = refl
y-among (suc (suc zero)) h = refl
y-among (suc (suc (suc zero))) h = refl
y-among (suc (suc (suc (suc zero)))) h = refl
y-among (suc (suc (suc (suc (suc k))))) h = absurd (omega arith)
