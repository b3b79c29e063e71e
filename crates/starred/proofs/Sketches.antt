-- A relation sketched as bindings of variables to literals, made one after the other: it is computed, and no more than
-- what follows from what was bound.
use Prim.Native.Nat.{ℕ, ◌*◌, ◌/◌, ◌%◌}
use mathlib.Core.Path.{◌≡◌, refl, sym, ap, ◌∙◌}
use mathlib.Core.Bool.{Bool, true, false}
use mathlib.Core.List.{List, [], ◌∷◌}
use mathlib.Core.Logic.{⊎_elim}
use native.Mathlib.Omega.{arith}
use lib.Dec.{eqb}
use borrow.Author.Tests.{eqb-true, eq-eqb, ne_eqb}
use Rattle.ground.specs.Choice.{choose}
use Rattle.notation.specs.Triplets.{negation}
use Rattle.notation.specs.clauses.Writing.{signed}
use Rattle.relation.specs.Relation.{Rel, IsRelation, Within}
use Rattle.ground.proofs.Cases.{split-eq, parity}
use Rattle.notation.proofs.Shaped.{negation-half}
use Rattle.relation.proofs.LiteralLaws.{signed-even, signed_odd, negation-differs}
use Rattle.steps.proofs.Sides.{negation-twice}

-- a variable is replaced by a literal
pub record Binding : Type 0 where
  pub variable : ℕ
  pub literal : ℕ

unfoldable pub replaced : Binding → ℕ → ℕ
replaced b l = choose (eqb (l / 2) b.variable) (signed b.literal l) l

-- where a literal leads after all replacements
unfoldable pub lead : List Binding → ℕ → ℕ
lead [] l = l
lead (b ∷ bs) l = lead bs (replaced b l)

-- two literals are equal where they lead to the same
unfoldable pub sketched : List Binding → Rel
sketched bs l m = eqb (lead bs l) (lead bs m)

-- A holds each binding
abbrev pub HoldsEach : Rel → List Binding → Type 0
HoldsEach A [] = Unit {0}
HoldsEach A (b ∷ bs) = (A (2 * b.variable) b.literal ≡ true) × HoldsEach A bs

negation-even : (l : ℕ) → l % 2 ≡ 0 → negation l % 2 ≡ 1
unfolding negation
negation-even l h = omega arith

negation-odd : (l : ℕ) → l % 2 ≡ 1 → negation l % 2 ≡ 0
unfolding negation
negation-odd l h = omega arith

odd-half : (l : ℕ) → l % 2 ≡ 1 → 2 * (l / 2) ≡ negation l
odd-half l h = omega (arith, negation-half l, negation-odd l h)

signed-negation : (w l : ℕ) → signed w (negation l) ≡ negation (signed w l)
signed-negation w l =
    ⊎_elim
    (λ (p : l % 2 ≡ 0). rw (signed-even w l p, signed_odd w (negation l) (negation-even l p)))
    (λ (p : l % 2 ≡ 1). rw (signed_odd w l p, signed-even w (negation l) (negation-odd l p)) (sym (negation-twice w)))
    (parity l)

replaced-negation : (b : Binding) (l : ℕ) → replaced b (negation l) ≡ negation (replaced b l)
unfolding replaced
replaced-negation b l = rw (negation-half l) (either_way (eqb (l / 2) b.variable))
  where
    either_way : (c : Bool) → choose c (signed b.literal (negation l)) (negation l) ≡ negation (choose c (signed b.literal l) l)
    either_way true = signed-negation b.literal l
    either_way false = refl

lead-negation : (bs : List Binding) (l : ℕ) → lead bs (negation l) ≡ negation (lead bs l)
unfolding lead
lead-negation [] l = refl
lead-negation (b ∷ bs) l = ap (lead bs) (replaced-negation b l) ∙ lead-negation bs (replaced b l)

-- a sketch is a relation, and never contradictory
module _ (bs : List Binding) where
  own-negation : (l : ℕ) → sketched bs l (negation l) ≡ true → ⊥
  unfolding sketched
  own-negation l e = negation-differs (lead bs l) (eqb-true (lead bs l) (lead bs (negation l)) e ∙ lead-negation bs l)

  pub sketched-relation : IsRelation (sketched bs)
  unfolding sketched
  sketched-relation =
      record {
        reflexive = λ l. eq-eqb (lead bs l) (lead bs l) refl;
        symmetric = λ l m e. eq-eqb (lead bs m) (lead bs l) (sym (eqb-true (lead bs l) (lead bs m) e));
        transitive = λ l m k e f.
            eq-eqb (lead bs l) (lead bs k) (eqb-true (lead bs l) (lead bs m) e ∙ eqb-true (lead bs m) (lead bs k) f);
        negating = λ l m e.
            eq-eqb (lead bs (negation l)) (lead bs (negation m))
            (lead-negation bs l ∙ ap negation (eqb-true (lead bs l) (lead bs m) e) ∙ sym (lead-negation bs m));
        contradiction = λ l e m k. absurd (own-negation l e);
      }

  pub sketched-consistent : sketched bs 0 1 ≡ true → ⊥
  unfolding negation
  sketched-consistent e = own-negation 0 e

-- what holds each binding holds all that is sketched
module _ (A : Rel) (relation : IsRelation A) where
  at-negation : (a b : ℕ) → A (negation a) b ≡ true → A a (negation b) ≡ true
  at-negation a b e = rw (negation-twice a) at (relation.negating (negation a) b e)

  -- w = m, with the sign of l on both sides
  sign-held : (l m : ℕ) → A (2 * (l / 2)) m ≡ true → A l (signed m l) ≡ true
  sign-held l m e =
      ⊎_elim
      (λ (p : l % 2 ≡ 0). let q : 2 * (l / 2) ≡ l = omega arith in rw (signed-even m l p) (rw q at e))
      (λ (p : l % 2 ≡ 1). let q : 2 * (l / 2) ≡ negation l = odd-half l p in rw (signed_odd m l p) (at-negation l m (rw q at e)))
      (parity l)

  pub sign-back : (l m : ℕ) → A l m ≡ true → A (2 * (l / 2)) (signed m l) ≡ true
  sign-back l m e =
      ⊎_elim
      (λ (p : l % 2 ≡ 0). let q : 2 * (l / 2) ≡ l = omega arith in rw (signed-even m l p, q) e)
      (λ (p : l % 2 ≡ 1). let q : 2 * (l / 2) ≡ negation l = odd-half l p in rw (signed_odd m l p, q) (relation.negating l m e))
      (parity l)

  replaced-held : (b : Binding) (l : ℕ) → A (2 * b.variable) b.literal ≡ true → A l (replaced b l) ≡ true
  unfolding replaced
  replaced-held b l e =
      ⊎_elim
      (λ (p : l / 2 ≡ b.variable).
      rw (eq-eqb (l / 2) b.variable p) (sign-held l b.literal (rw p e)))
      (λ (p : l / 2 ≡ b.variable → ⊥). rw (ne_eqb (l / 2) b.variable p) (relation.reflexive l))
      (split-eq (l / 2) b.variable)

  pub lead-held : (bs : List Binding) (l : ℕ) → HoldsEach A bs → A l (lead bs l) ≡ true
  unfolding lead
  lead-held [] l h = relation.reflexive l
  lead-held (b ∷ bs) l h =
      relation.transitive l (replaced b l) (lead bs (replaced b l)) (replaced-held b l h.0) (lead-held bs (replaced b l) h.1)

  pub sketched-within : (bs : List Binding) → HoldsEach A bs → Within (sketched bs) A
  unfolding sketched
  sketched-within bs h l m e =
      relation.transitive l (lead bs l) m (lead-held bs l h)
      (rw (eqb-true (lead bs l) (lead bs m) e) (relation.symmetric m (lead bs m) (lead-held bs m h)))
