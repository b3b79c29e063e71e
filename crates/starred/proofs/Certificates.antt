-- Computed certificates: a run of steps and splits that ends contradictory shows that the saturation is, and a sketch
-- that no step moves shows that it is not.
use Prim.Native.Nat.{ℕ, zero, suc, ◌+◌, ◌*◌, ◌/◌, ◌≤◌}
use mathlib.Core.Path.{◌≡◌, refl}
use mathlib.Core.Bool.{Bool, true, false, ◌&&◌, false≢true}
use mathlib.Core.List.{List, [], ◌∷◌, ◌++◌}
use mathlib.Core.Option.{Option, none, some}
use native.Mathlib.Omega.{arith}
use lib.Dec.{eqb}
use lib.ListN.{length}
use borrow.Author.Tests.{eqb-true, eqb-false}
use Rattle.ground.specs.Choice.{choose}
use Rattle.notation.specs.Triplets.{Triplet, triplet_variable, Each}
use Rattle.relation.specs.Relation.{Rel, IsRelation, Within}
use Rattle.relation.proofs.LiteralLaws.{same-variable}
use Rattle.steps.specs.Step.{literal_at}
use Rattle.steps.specs.Table.{x_named, y_named, z_named, pattern_of, contradictory, entry, NamesHold}
use Rattle.steps.specs.Rest.{HoldsStepOn, NoStepEnlarges}
use Rattle.steps.proofs.Entries.{and_left, and_right}
use Rattle.steps.proofs.Sides.{Closed, held, held-closed}
use Rattle.steps.proofs.Strongest.{x-holds, y-holds, z-holds}
use Rattle.steps.proofs.StepLaws.{settled, entry-contradicted, entry-held}
use Rattle.saturation.specs.Saturation.{taken, Stable, Saturated}
use Rattle.saturation.proofs.Taking.{HoldsAll, above-taken, taken-above, taking-above, taking-holds}
use Rattle.saturation.proofs.Depth.{Among, stable-rest}
use Rattle.notation.specs.clauses.Writing.{signed}
use Rattle.starred.proofs.Sketches.{Binding, lead, sketched, HoldsEach, sign-back, lead-held, sketched-within, sketched-relation, sketched-consistent}

-- a sketch, or none where it has become contradictory
abbrev Sketch : Type 0
Sketch = Option (List Binding)

abbrev pub onward : Sketch → (List Binding → Sketch) → Sketch
onward none f = none
onward (some bs) f = f bs

-- two classes joined: the one's variable is bound to the other
unfoldable pub joined : List Binding → ℕ → ℕ → Sketch
joined bs l m =
    let a : ℕ = lead bs l in
    let b : ℕ = lead bs m in
    choose (eqb a b) (some bs)
    (choose (eqb (a / 2) (b / 2)) none (some (bs ++ (record { variable = a / 2; literal = signed b a } ∷ []))))

-- what pattern e names is joined
unfoldable pub named : ℕ → ℕ → ℕ → ℕ → List Binding → Sketch
named x y z e bs =
    onward (joined bs x (literal_at x y z (x_named e)))
    (λ cs. onward (joined cs y (literal_at x y z (y_named e))) (λ ds. joined ds z (literal_at x y z (z_named e))))

unfoldable pub stepped : Triplet → ℕ → List Binding → Sketch
stepped t x bs =
    let e : ℕ = entry t.kind (pattern_of (sketched bs) x t.y t.z) in
    choose (eqb e contradictory) none (named x t.y t.z e bs)

-- one pass of steps over the triplets, and several
unfoldable pub passed : ℕ → List Triplet → List Binding → Sketch
passed c [] bs = some bs
passed c (t ∷ ts) bs = onward (stepped t (2 * triplet_variable (c + 1)) bs) (passed (c + 1) ts)

unfoldable pub rested : ℕ → List Triplet → List Binding → Sketch
rested zero ts bs = some bs
rested (suc n) ts bs = onward (passed 0 ts bs) (rested n ts)

-- literals taken as true
unfoldable pub begun : List ℕ → Sketch
begun [] = some []
begun (l ∷ ls) = onward (begun ls) (λ bs. joined bs l 0)

abbrev closed : Sketch → Bool
closed none = true
closed (some bs) = false

abbrev branched : Sketch → (List Binding → Bool) → Bool
branched none f = true
branched (some bs) f = f bs

-- after n passes and splits on the variables of a list in turn, every side is contradictory
unfoldable pub refutes : ℕ → List ℕ → List Triplet → Sketch → Bool
refutes n [] ts o = closed (onward o (rested n ts))
refutes n (f ∷ fs) ts o =
    branched (onward o (rested n ts)) (λ bs. refutes n fs ts (joined bs (2 * f) 0) && refutes n fs ts (joined bs (2 * f + 1) 0))

-- A holds a sketch: it is contradictory where the sketch is
abbrev Sound : Rel → Sketch → Type 0
Sound A none = A 0 1 ≡ true
Sound A (some bs) = HoldsEach A bs

module _ (A : Rel) (relation : IsRelation A) where
  onward-sound : (o : Sketch) (f : List Binding → Sketch) → Sound A o → ((bs : List Binding) → HoldsEach A bs → Sound A (f bs)) → Sound A
      (onward o f)
  onward-sound none f h g = h
  onward-sound (some bs) f h g = g bs h

  holds-last : (bs : List Binding) (b : Binding) → HoldsEach A bs → A (2 * b.variable) b.literal ≡ true → HoldsEach A (bs ++ (b ∷ []))
  holds-last [] b h e = (e, tt)
  holds-last (c ∷ bs) b h e = (h.0, holds-last bs b h.1 e)

  joined-sound : (bs : List Binding) (l m : ℕ) → HoldsEach A bs → A l m ≡ true → Sound A (joined bs l m)
  unfolding joined
  joined-sound bs l m h e = pick (eqb (lead bs l) (lead bs m)) refl (eqb (lead bs l / 2) (lead bs m / 2)) refl
    where
      meet : A (lead bs l) (lead bs m) ≡ true
      meet =
          relation.transitive (lead bs l) l (lead bs m) (relation.symmetric l (lead bs l) (lead-held A relation bs l h))
          (relation.transitive l m (lead bs m) e (lead-held A relation bs m h))

      pick : (p : Bool) → eqb (lead bs l) (lead bs m) ≡ p → (q : Bool) → eqb (lead bs l / 2) (lead bs m / 2) ≡ q
          → Sound A (choose p (some bs) (choose q none (some (bs ++ (record { variable = lead bs l / 2; literal = signed (lead bs m) (lead bs l) } ∷ [])))))
      pick true d q r = h
      pick false d true r =
          relation.contradiction (lead bs l)
          (rw (same-variable (lead bs l) (lead bs m) (eqb-true (lead bs l / 2) (lead bs m / 2) r) (eqb-false (lead bs l) (lead bs m) d)) at meet) 0 1
      pick false d false r = holds-last bs _ h (sign-back A relation (lead bs l) (lead bs m) meet)

  named-sound : (x y z e : ℕ) (bs : List Binding) → HoldsEach A bs → NamesHold e x y z A → Sound A (named x y z e bs)
  unfolding named
  named-sound x y z e bs h n =
      onward-sound (joined bs x (literal_at x y z (x_named e))) _ (joined-sound bs x (literal_at x y z (x_named e)) h n.of-x)
      (λ cs i. onward-sound (joined cs y (literal_at x y z (y_named e))) _ (joined-sound cs y (literal_at x y z (y_named e)) i n.of-y)
      (λ ds j. joined-sound ds z (literal_at x y z (z_named e)) j n.of-z))

  -- what a sketch names of x, y and z is held
  sketch-named : (x y z : ℕ) (bs : List Binding) → HoldsEach A bs → NamesHold (pattern_of (sketched bs) x y z) x y z A
  sketch-named x y z bs h =
      let w : Within (sketched bs) A = sketched-within A relation bs h in
      let c : Closed (held (sketched bs) x y z) = held-closed (sketched bs) x y z (sketched-relation bs) in
      record {
        of-x = w x _ (x-holds (held (sketched bs) x y z) c);
        of-y = w y _ (y-holds (held (sketched bs) x y z) c);
        of-z = w z _ (z-holds (held (sketched bs) x y z) c);
      }

  stepped-sound : (t : Triplet) (x : ℕ) (bs : List Binding) → HoldsStepOn A A t x → HoldsEach A bs → Sound A (stepped t x bs)
  unfolding stepped
  stepped-sound t x bs rests h = pick (eqb (entry t.kind p) contradictory) refl
    where
      p : ℕ
      p = pattern_of (sketched bs) x t.y t.z

      pick : (b : Bool) → eqb (entry t.kind (pattern_of (sketched bs) x t.y t.z)) contradictory ≡ b
          → Sound A (choose b none (named x t.y t.z (entry t.kind (pattern_of (sketched bs) x t.y t.z)) bs))
      pick true e =
          entry-contradicted t.kind x t.y t.z (pattern_of (sketched bs) x t.y t.z) A relation (sketch-named x t.y t.z bs h) rests
          (eqb-true _ contradictory e)
      pick false e =
          named-sound x t.y t.z (entry t.kind (pattern_of (sketched bs) x t.y t.z)) bs h
          (entry-held t.kind x t.y t.z (pattern_of (sketched bs) x t.y t.z) A relation (sketch-named x t.y t.z bs h) rests
          (eqb-false _ contradictory e))

  passed-sound : (c : ℕ) (ts : List Triplet) (bs : List Binding) → Each (HoldsStepOn A A) c ts → HoldsEach A bs → Sound A (passed c ts bs)
  unfolding passed
  passed-sound c [] bs rests h = h
  passed-sound c (t ∷ ts) bs rests h =
      onward-sound (stepped t (2 * triplet_variable (c + 1)) bs) (passed (c + 1) ts)
      (stepped-sound t (2 * triplet_variable (c + 1)) bs rests.0 h)
      (λ cs i. passed-sound (c + 1) ts cs rests.1 i)

  rested-sound : (n : ℕ) (ts : List Triplet) (bs : List Binding) → NoStepEnlarges ts A → HoldsEach A bs → Sound A (rested n ts bs)
  unfolding rested
  rested-sound zero ts bs rests h = h
  rested-sound (suc n) ts bs rests h =
      onward-sound (passed 0 ts bs) (rested n ts) (passed-sound 0 ts bs rests h) (λ cs i. rested-sound n ts cs rests i)

  begun-sound : (ls : List ℕ) → HoldsAll A ls → Sound A (begun ls)
  unfolding begun
  begun-sound [] h = tt
  begun-sound (l ∷ ls) h =
      onward-sound (begun ls) (λ bs. joined bs l 0) (begun-sound ls h.1) (λ bs i. joined-sound bs l 0 i h.0)

  closed-sound : (o : Sketch) → Sound A o → closed o ≡ true → A 0 1 ≡ true
  closed-sound none h e = h
  closed-sound (some bs) h e = absurd (false≢true e)

holds_more : (A B : Rel) (bs : List Binding) → Within A B → HoldsEach A bs → HoldsEach B bs
holds_more A B [] w h = tt
holds_more A B (b ∷ bs) w h = (w (2 * b.variable) b.literal h.0, holds_more A B bs w h.1)

module _ (D : ℕ → Type 0) (ts : List Triplet) (n : ℕ) where
  refutes-sound : (fs : List ℕ) (k : ℕ) (A : Rel) (o : Sketch) → length fs ≤ k → Among D fs → IsRelation A → Stable D ts k A → Sound A o
      → refutes n fs ts o ≡ true → A 0 1 ≡ true
  unfolding refutes
  refutes-sound [] k A o h d a stable sound e =
      closed-sound A a (onward o (rested n ts))
      (onward-sound A a o (rested n ts) sound (λ bs i. rested-sound A a n ts bs (stable-rest D ts k A stable) i)) e
  refutes-sound (f ∷ fs) zero A o h d a stable sound e = absurd (omega arith)
  refutes-sound (f ∷ fs) (suc k) A o h d a stable sound e =
      branch (λ B q b s t r. refutes-sound fs k B q (omega arith) d.1 b s t r) (onward o (rested n ts))
      (onward-sound A a o (rested n ts) sound (λ bs i. rested-sound A a n ts bs stable.0 i)) e
    where
      branch : ((B : Rel) (q : Sketch) → IsRelation B → Stable D ts k B → Sound B q → refutes n fs ts q ≡ true → B 0 1 ≡ true)
          → (q : Sketch) → Sound A q
          → branched q (λ bs. refutes n fs ts (joined bs (2 * f) 0) && refutes n fs ts (joined bs (2 * f + 1) 0)) ≡ true → A 0 1 ≡ true
      branch again none s r = s
      branch again (some bs) s r =
          stable.1 f 0 1 d.0
          (λ B b w t.
          again B (joined bs (2 * f) 0) b t
          (joined-sound B b bs (2 * f) 0 (holds_more A B bs (taking-above A B (2 * f) w) s) (taking-holds A B (2 * f) w))
          (and_left (refutes n fs ts (joined bs (2 * f) 0)) (refutes n fs ts (joined bs (2 * f + 1) 0)) r))
          (λ B b w t.
          again B (joined bs (2 * f + 1) 0) b t
          (joined-sound B b bs (2 * f + 1) 0 (holds_more A B bs (taking-above A B (2 * f + 1) w) s) (taking-holds A B (2 * f + 1) w))
          (and_right (refutes n fs ts (joined bs (2 * f) 0)) (refutes n fs ts (joined bs (2 * f + 1) 0)) r))

  -- a run that ends contradictory on every side shows that the saturation of the literals is contradictory
  pub run-refutes : (fs : List ℕ) (k : ℕ) (ls : List ℕ) → length fs ≤ k → Among D fs → refutes n fs ts (begun ls) ≡ true
      → Saturated D ts k (taken ls) 0 1
  run-refutes fs k ls h d e A a w stable =
      refutes-sound fs k A (begun ls) h d a stable (begun-sound A a ls (taken-above A ls w)) e

-- no step on one of the triplets moves the sketch
unfoldable pub unmoved : ℕ → List Triplet → List Binding → Bool
unmoved c [] bs = true
unmoved c (t ∷ ts) bs =
    let p : ℕ = pattern_of (sketched bs) (2 * triplet_variable (c + 1)) t.y t.z in
    eqb (entry t.kind p) p && unmoved (c + 1) ts bs

-- the sketch holds each literal of a list as true
unfoldable pub holding : List Binding → List ℕ → Bool
holding bs [] = true
holding bs (l ∷ ls) = sketched bs l 0 && holding bs ls

unmoved-rests : (c : ℕ) (ts : List Triplet) (bs : List Binding) → unmoved c ts bs ≡ true → Each (HoldsStepOn (sketched bs) (sketched bs)) c ts
unfolding unmoved
unmoved-rests c [] bs e = tt
unmoved-rests c (t ∷ ts) bs e =
    let x : ℕ = 2 * triplet_variable (c + 1) in
    let p : ℕ = pattern_of (sketched bs) x t.y t.z in (
      settled t.kind x t.y t.z (sketched bs) (sketched-relation bs)
          (eqb-true (entry t.kind p) p (and_left (eqb (entry t.kind p) p) (unmoved (c + 1) ts bs) e)),
      unmoved-rests (c + 1) ts bs (and_right (eqb (entry t.kind p) p) (unmoved (c + 1) ts bs) e),
    )

holding-all : (bs : List Binding) (ls : List ℕ) → holding bs ls ≡ true → HoldsAll (sketched bs) ls
unfolding holding
holding-all bs [] e = tt
holding-all bs (l ∷ ls) e =
    (and_left (sketched bs l 0) (holding bs ls) e, holding-all bs ls (and_right (sketched bs l 0) (holding bs ls) e))

-- a sketch that holds the literals and that no step moves shows that at depth 0 they are not refuted
pub sketch-stands : (D : ℕ → Type 0) (ts : List Triplet) (bs : List Binding) (ls : List ℕ) → unmoved 0 ts bs ≡ true → holding bs ls ≡ true
    → Saturated D ts 0 (taken ls) 0 1 → ⊥
sketch-stands D ts bs ls u h s =
    sketched-consistent bs
    (s (sketched bs) (sketched-relation bs) (above-taken (sketched bs) ls (holding-all bs ls h)) (unmoved-rests 0 ts bs u))
