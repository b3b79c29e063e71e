-- Truth is stable: the relation of a truth valuation that satisfies the triplets is stable at every depth.
use Prim.Native.Nat.{ℕ, zero, suc, ◌+◌, ◌*◌}
use mathlib.Core.Path.{◌≡◌, refl, sym, ap, ◌∙◌}
use mathlib.Core.Bool.{Bool, true, false, not, beq, false≢true}
use mathlib.Core.List.{List, [], ◌∷◌}
use mathlib.Core.Logic.{⊎_elim}
use Rattle.notation.specs.Triplets.{Triplet, negation, Each}
use Rattle.relation.specs.Relation.{Rel, IsRelation, Within}
use Rattle.ground.proofs.Cases.{either}
use Rattle.truth.specs.Connectives.{gate}
use Rattle.truth.specs.clauses.Computed.{literal_value}
use Rattle.truth.proofs.Literals.{literal-even, literal-odd, literal-negation}
use Rattle.steps.specs.Step.{Side, never, always, own_x, not-x, own-y, not-y, own-z, not-z, Values, literal_at, truth_at}
use Rattle.steps.specs.Rest.{HoldsStepOn}
use Rattle.steps.proofs.Sides.{eq-beq, not-self}
use Rattle.ground.proofs.Truths.{beq-eq}
use Rattle.notation.proofs.EachTriplet.{each_map}
use Rattle.saturation.specs.Saturation.{taken, Stable, Saturated}
use Rattle.saturation.proofs.Taking.{above-taking, HoldsAll, above-taken}

-- the relation of a truth valuation: literals of equal truth are equal
abbrev pub agreeing : (ℕ → Bool) → Rel
agreeing v l m = beq (literal_value v l) (literal_value v m)

-- v makes a triplet's variable what its operands make of it
abbrev pub Makes : (ℕ → Bool) → Triplet → ℕ → Type 0
Makes v t x = literal_value v x ≡ gate t.kind (literal_value v t.y) (literal_value v t.z)

-- v makes true true and satisfies the triplets
pub record Satisfying (ts : List Triplet) (v : ℕ → Bool) : Type 0 where
  pub top : v 0 ≡ true
  pub all : Each (Makes v) 0 ts

-- v makes each literal of a list true
abbrev pub AllTrue : (ℕ → Bool) → List ℕ → Type 0
AllTrue v [] = Unit {0}
AllTrue v (l ∷ ls) = (literal_value v l ≡ true) × AllTrue v ls

module _ (v : ℕ → Bool) where
  pub agreeing-relation : IsRelation (agreeing v)
  agreeing-relation =
      record {
        reflexive = λ l. eq-beq (literal_value v l) (literal_value v l) refl;
        symmetric = λ l m e. eq-beq (literal_value v m) (literal_value v l) (sym (beq-eq (literal_value v l) (literal_value v m) e));
        transitive = λ l m k e f.
            eq-beq (literal_value v l) (literal_value v k)
            (beq-eq (literal_value v l) (literal_value v m) e ∙ beq-eq (literal_value v m) (literal_value v k) f);
        negating = λ l m e.
            eq-beq (literal_value v (negation l)) (literal_value v (negation m))
            (literal-negation v l ∙ ap not (beq-eq (literal_value v l) (literal_value v m) e) ∙ sym (literal-negation v m));
        contradiction = λ l e m k.
            absurd (not-self (literal_value v l) (beq-eq (literal_value v l) (literal_value v (negation l)) e ∙ literal-negation v l));
      }

  module _ (top : v 0 ≡ true) where
    pub true-literal : literal_value v 0 ≡ true
    true-literal = literal-even v 0 0 refl ∙ top

    pub false-literal : literal_value v 1 ≡ false
    false-literal = literal-odd v 1 0 refl ∙ ap not top

    -- the truth value of x, y and z that v gives
    abbrev given : ℕ → ℕ → ℕ → Values
    given x y z = record { x = literal_value v x; y = literal_value v y; z = literal_value v z }

    seen : (x y z : ℕ) (s : Side) → literal_value v (literal_at x y z s) ≡ truth_at (given x y z) s
    seen x y z never = false-literal
    seen x y z always = true-literal
    seen x y z own_x = refl
    seen x y z not-x = literal-negation v x
    seen x y z own-y = refl
    seen x y z not-y = literal-negation v y
    seen x y z own-z = refl
    seen x y z not-z = literal-negation v z

    -- no step on a triplet that v satisfies enlarges its relation
    pub truth-rests : (t : Triplet) (x : ℕ) → Makes v t x → HoldsStepOn (agreeing v) (agreeing v) t x
    truth-rests t x makes a b added =
        let w : Values = given x t.y t.z in
        eq-beq (literal_value v (literal_at x t.y t.z a)) (literal_value v (literal_at x t.y t.z b))
        (seen x t.y t.z a
        ∙ added w makes
        (λ c d e.
        sym (seen x t.y t.z c)
        ∙ beq-eq (literal_value v (literal_at x t.y t.z c)) (literal_value v (literal_at x t.y t.z d)) e
        ∙ seen x t.y t.z d)
        ∙ sym (seen x t.y t.z b))

    pub true-held : (l : ℕ) → literal_value v l ≡ true → agreeing v l 0 ≡ true
    true-held l e = eq-beq (literal_value v l) (literal_value v 0) (e ∙ sym true-literal)

    pub all_held : (ls : List ℕ) → AllTrue v ls → HoldsAll (agreeing v) ls
    all_held [] h = tt
    all_held (l ∷ ls) h = (true-held l h.0, all_held ls h.1)

module _ (D : ℕ → Type 0) (ts : List Triplet) (v : ℕ → Bool) (satisfying : Satisfying ts v) where
  -- at every depth
  pub truth-stable : (k : ℕ) → Stable D ts k (agreeing v)
  truth-stable zero = each_map (Makes v) (HoldsStepOn (agreeing v) (agreeing v)) 0 ts (truth-rests v satisfying.top) satisfying.all
  truth-stable (suc k) = (
    each_map (Makes v) (HoldsStepOn (agreeing v) (agreeing v)) 0 ts (truth-rests v satisfying.top) satisfying.all,
    λ f l m d p q.
        ⊎_elim
        (λ (e : v f ≡ true).
        p (agreeing v) (agreeing-relation v)
        (above-taking (agreeing v) (agreeing v) (2 * f) (λ a b c. c)
        (true-held v satisfying.top (2 * f) (literal-even v (2 * f) f refl ∙ e)))
        (truth-stable k))
        (λ (e : v f ≡ false).
        q (agreeing v) (agreeing-relation v)
        (above-taking (agreeing v) (agreeing v) (2 * f + 1) (λ a b c. c)
        (true-held v satisfying.top (2 * f + 1) (literal-odd v (2 * f + 1) f refl ∙ ap not e)))
        (truth-stable k))
        (either (v f)),
  )

  -- so whatever is saturated is true wherever its start is
  pub saturated-true : (k : ℕ) (R : Rel) (l m : ℕ) → Within R (agreeing v) → Saturated D ts k R l m → literal_value v l ≡ literal_value v m
  saturated-true k R l m w s =
      beq-eq (literal_value v l) (literal_value v m) (s (agreeing v) (agreeing-relation v) w (truth-stable k))

  -- and assumptions that v makes true are never refuted
  pub never-refuted : (k : ℕ) (ls : List ℕ) → AllTrue v ls → Saturated D ts k (taken ls) 0 1 → ⊥
  never-refuted k ls h s =
      false≢true
      (sym (false-literal v satisfying.top)
      ∙ sym (saturated-true k (taken ls) 0 1 (above-taken (agreeing v) ls (all_held v satisfying.top ls h)) s)
      ∙ true-literal v satisfying.top)
