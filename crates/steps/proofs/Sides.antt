-- The eight sides under negation, and what it is for equalities between them to be closed.
use Prim.Native.Nat.{ℕ}
use mathlib.Core.Path.{◌≡◌, refl, sym, ap, ◌∙◌}
use mathlib.Core.Bool.{Bool, true, false, not, beq, not-not, false≢true}
use native.Mathlib.Omega.{arith}
use Rattle.notation.specs.Triplets.{negation}
use Rattle.relation.specs.Relation.{Rel, IsRelation}
use Rattle.steps.specs.Step.{Side, never, always, own_x, not-x, own-y, not-y, own-z, not-z, Values, literal_at, truth_at}
use Rattle.ground.proofs.Truths.{beq-eq}

pub eq-beq : (a b : Bool) → a ≡ b → beq a b ≡ true
eq-beq true true e = refl
eq-beq true false e = sym e
eq-beq false true e = e
eq-beq false false e = refl

pub not-self : (b : Bool) → b ≡ not b → ⊥
not-self true e = false≢true (sym e)
not-self false e = false≢true e

pub negation-twice : (l : ℕ) → negation (negation l) ≡ l
unfolding negation
negation-twice l = omega arith

-- the negation of a side
abbrev pub other : Side → Side
other never = always
other always = never
other own_x = not-x
other not-x = own_x
other own-y = not-y
other not-y = own-y
other own-z = not-z
other not-z = own-z

pub other-twice : (s : Side) → other (other s) ≡ s
other-twice never = refl
other-twice always = refl
other-twice own_x = refl
other-twice not-x = refl
other-twice own-y = refl
other-twice not-y = refl
other-twice own-z = refl
other-twice not-z = refl

pub literal-other : (x y z : ℕ) (s : Side) → literal_at x y z (other s) ≡ negation (literal_at x y z s)
unfolding negation
literal-other x y z never = refl
literal-other x y z always = refl
literal-other x y z own_x = refl
literal-other x y z not-x = sym (negation-twice x)
literal-other x y z own-y = refl
literal-other x y z not-y = sym (negation-twice y)
literal-other x y z own-z = refl
literal-other x y z not-z = sym (negation-twice z)

pub truth-other : (v : Values) (s : Side) → truth_at v (other s) ≡ not (truth_at v s)
truth-other v never = refl
truth-other v always = refl
truth-other v own_x = refl
truth-other v not-x = sym (not-not v.x)
truth-other v own-y = refl
truth-other v not-y = sym (not-not v.y)
truth-other v own-z = refl
truth-other v not-z = sym (not-not v.z)

-- an equivalence of sides, kept by negating both
pub record Closed (E : Side → Side → Bool) : Type 0 where
  pub reflexive : (s : Side) → E s s ≡ true
  pub symmetric : (s t : Side) → E s t ≡ true → E t s ≡ true
  pub transitive : (s t u : Side) → E s t ≡ true → E t u ≡ true → E s u ≡ true
  pub negating : (s t : Side) → E s t ≡ true → E (other s) (other t) ≡ true

-- no side equals its negation
abbrev pub Consistent : (Side → Side → Bool) → Type 0
Consistent E = (s : Side) → E s (other s) ≡ true → ⊥

-- which sides a relation holds equal
abbrev pub held : Rel → ℕ → ℕ → ℕ → Side → Side → Bool
held S x y z s t = S (literal_at x y z s) (literal_at x y z t)

-- which sides have equal truth
abbrev pub alike : Values → Side → Side → Bool
alike v s t = beq (truth_at v s) (truth_at v t)

pub held-closed : (S : Rel) (x y z : ℕ) → IsRelation S → Closed (held S x y z)
held-closed S x y z r =
    record {
      reflexive = λ s. r.reflexive (literal_at x y z s);
      symmetric = λ s t. r.symmetric (literal_at x y z s) (literal_at x y z t);
      transitive = λ s t u. r.transitive (literal_at x y z s) (literal_at x y z t) (literal_at x y z u);
      negating = λ s t e. rw (literal-other x y z s, literal-other x y z t) (r.negating (literal_at x y z s) (literal_at x y z t) e);
    }

pub held-consistent : (S : Rel) (x y z : ℕ) → IsRelation S → S 0 1 ≡ false → Consistent (held S x y z)
held-consistent S x y z r n s e =
    false≢true (sym n ∙ r.contradiction (literal_at x y z s) (rw (literal-other x y z s) at e) 0 1)

pub alike-closed : (v : Values) → Closed (alike v)
alike-closed v =
    record {
      reflexive = λ s. eq-beq (truth_at v s) (truth_at v s) refl;
      symmetric = λ s t e. eq-beq (truth_at v t) (truth_at v s) (sym (beq-eq (truth_at v s) (truth_at v t) e));
      transitive = λ s t u e f.
          eq-beq (truth_at v s) (truth_at v u) (beq-eq (truth_at v s) (truth_at v t) e ∙ beq-eq (truth_at v t) (truth_at v u) f);
      negating = λ s t e.
          eq-beq (truth_at v (other s)) (truth_at v (other t))
          (truth-other v s ∙ ap not (beq-eq (truth_at v s) (truth_at v t) e) ∙ sym (truth-other v t));
    }
