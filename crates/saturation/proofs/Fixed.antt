-- Fixed flags decide: where no step enlarges a relation that ties each flag, it ties the root to the guard's value.
use Prim.Native.Nat.{ℕ, ◌+◌, ◌*◌, ◌-◌, ◌≤◌, ◌<◌}
use mathlib.Core.Path.{◌≡◌, refl, sym, ap₂, ◌∙◌}
use mathlib.Core.Bool.{Bool, true, false, not}
use mathlib.Core.List.{List, [], ◌∷◌, ◌++◌}
use native.Mathlib.Omega.{arith}
use Rattle.notation.specs.Tokens.{Sign, same, implies, or, and}
use Rattle.notation.specs.Guard.{Guard, flag, truth, negated, joined, connectives}
use Rattle.notation.specs.Triplets.{Triplet, triplet_variable, negation, triplet_of, literal_of, literal, triplets, Each}
use Rattle.relation.specs.Relation.{Rel, IsRelation}
use Rattle.truth.specs.Connectives.{table, gate}
use Rattle.truth.specs.Value.{value}
use Rattle.truth.proofs.Root.{or-table, and-table}
use Rattle.ground.specs.Bits.{bit}
use Rattle.notation.specs.clauses.Shape.{FlagsWithin}
use Rattle.notation.proofs.Shaped.{count-triplets}
use Rattle.steps.specs.Step.{Side, never, always, own_x, own-y, own-z, Values, literal_at, truth_at}
use Rattle.steps.specs.Rest.{HoldsStepOn}
use Rattle.notation.proofs.EachTriplet.{each_left, each_right}

-- the literal of a truth value
abbrev pub literal_for : Bool → ℕ
literal_for true = 0
literal_for false = 1

side-for : Bool → Side
side-for true = always
side-for false = never

for-literal : (x y z : ℕ) (b : Bool) → literal_at x y z (side-for b) ≡ literal_for b
unfolding side-for
for-literal x y z true = refl
for-literal x y z false = refl

for-truth : (v : Values) (b : Bool) → truth_at v (side-for b) ≡ b
unfolding side-for
for-truth v true = refl
for-truth v false = refl

for-negation : (b : Bool) → negation (literal_for b) ≡ literal_for (not b)
unfolding negation
for-negation true = refl
for-negation false = refl

pub negation-even : (x : ℕ) → negation (2 * x) ≡ 2 * x + 1
unfolding negation
negation-even x = omega arith

module _ (A : Rel) (relation : IsRelation A) where
  -- operands that are tied tie the triplet to what they make of it
  pub step-ties : (t : Triplet) (x : ℕ) (b c : Bool) → HoldsStepOn A A t x → A t.y (literal_for b) ≡ true → A t.z (literal_for c) ≡ true
      → A x (literal_for (gate t.kind b c)) ≡ true
  step-ties t x b c rests p q =
      let r : Bool = gate t.kind b c in
      rw (for-literal x t.y t.z r) at
      (rests own_x (side-for r)
      (λ v sat obeys.
      sat
      ∙ ap₂ (gate t.kind)
      (obeys own-y (side-for b) (rw (for-literal x t.y t.z b) p) ∙ for-truth v b)
      (obeys own-z (side-for c) (rw (for-literal x t.y t.z c) q) ∙ for-truth v c)
      ∙ sym (for-truth v r)))

  pub negation-ties : (l : ℕ) (b : Bool) → A l (literal_for b) ≡ true → A (negation l) (literal_for (not b)) ≡ true
  negation-ties l b p = rw (for-negation b) at (relation.negating l (literal_for b) p)

  -- what a sign makes of two tied operands
  pub sign-ties : (s : Sign) (l m x : ℕ) (a b : Bool) → A l (literal_for a) ≡ true → A m (literal_for b) ≡ true
      → HoldsStepOn A A (triplet_of s l m) (2 * x) → A (literal_of s x) (literal_for (table s a b)) ≡ true
  unfolding triplet_of literal_of gate
  sign-ties same l m x a b p q h = step-ties (triplet_of same l m) (2 * x) a b h p q
  sign-ties implies l m x a b p q h = step-ties (triplet_of implies l m) (2 * x) a b h p q
  sign-ties or l m x a b p q h =
      rw (or-table a b) at (step-ties (triplet_of or l m) (2 * x) (not a) b h (negation-ties l a p) q)
  sign-ties and l m x a b p q h =
      let e : negation (2 * x) ≡ 2 * x + 1 = negation-even x in
      rw (e, and-table a b) at
      (negation-ties (2 * x) (gate 0 a (not b)) (step-ties (triplet_of and l m) (2 * x) a (not b) h p (negation-ties m b q)))

  module _ (n s : ℕ) (tied : (i : ℕ) → 0 < i → i ≤ n → A (2 * i) (literal_for (bit s (n - i))) ≡ true) where
    pub root_tied : (g : Guard) (c : ℕ) → FlagsWithin n g → Each (HoldsStepOn A A) c (triplets c g)
        → A (literal c g) (literal_for (value n s g)) ≡ true
    unfolding literal triplets connectives value
    root_tied (flag i) c f h = tied i f.0 f.1
    root_tied (truth true) c f h = relation.reflexive 0
    root_tied (truth false) c f h = relation.reflexive 1
    root_tied (negated g) c f h = negation-ties (literal c g) (value n s g) (root_tied g c f h)
    root_tied (joined t g k) c f h =
        let d : ℕ = c + connectives g in
        let own : List Triplet = triplet_of t (literal c g) (literal d k) ∷ [] in
        let right : Each (HoldsStepOn A A) d (triplets d k ++ own) = each_right (HoldsStepOn A A) c d (triplets c g) (triplets d k ++ own)
        (rw count-triplets refl) h in
        let last : Each (HoldsStepOn A A) (d + connectives k) own = each_right (HoldsStepOn A A) d (d + connectives k) (triplets d k) own
        (rw count-triplets refl) right in
        let e : c + (connectives g + connectives k + 1) ≡ d + connectives k + 1 = omega arith in
        rw e
        (sign-ties t (literal c g) (literal d k) (triplet_variable (d + connectives k + 1)) (value n s g) (value n s k)
        (root_tied g c f.0 (each_left (HoldsStepOn A A) c (triplets c g) (triplets d k ++ own) h))
        (root_tied k d f.1 (each_left (HoldsStepOn A A) d (triplets d k) own right))
        last.0)
