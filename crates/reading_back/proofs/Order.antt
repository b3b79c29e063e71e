-- The flags met are those of the guard: going through it finds each of its flags, and no other.
use Prim.Native.Nat.{ℕ}
use mathlib.Core.Path.{◌≡◌, refl}
use mathlib.Core.Logic.{◌⊎◌, inl, inr, ⊎_elim}
use mathlib.Core.Bool.{true, false, false≢true}
use mathlib.Core.List.{List, [], ◌∷◌, ◌++◌}
use lib.Dec.{eqb}
use borrow.Author.Tests.{eq-eqb, eqb-true}
use Rattle.notation.specs.Guard.{Guard, flag, truth, negated, joined}
use Rattle.ground.proofs.Cases.{either}
use Rattle.reading_back.specs.Written.{Stands, among, met, order}

-- a number that is added at the end is there, and those before it stay
among-end : (i : ℕ) (w : List ℕ) → among i (w ++ (i ∷ [])) ≡ true
unfolding among
among-end i [] = rw (eq-eqb i i refl)
among-end i (j ∷ w) =
    ⊎_elim (λ (e : eqb i j ≡ true). rw e) (λ (e : eqb i j ≡ false). rw (e, among-end i w)) (either (eqb i j))

among-more : (i j : ℕ) (w : List ℕ) → among i w ≡ true → among i (w ++ (j ∷ [])) ≡ true
unfolding among
among-more i j [] h = absurd (false≢true h)
among-more i j (k ∷ w) h =
    ⊎_elim
    (λ (e : eqb i k ≡ true). rw e)
    (λ (e : eqb i k ≡ false). let t : among i w ≡ true = rw e at h in rw (e, among-more i j w t))
    (either (eqb i k))

pub among-last : (i j : ℕ) (w : List ℕ) → among i (w ++ (j ∷ [])) ≡ true → (among i w ≡ true) ⊎ (i ≡ j)
unfolding among
among-last i j [] h =
    ⊎_elim
    (λ (e : eqb i j ≡ true). inr (eqb-true i j e))
    (λ (e : eqb i j ≡ false). let t : false ≡ true = rw e at h in absurd (false≢true t))
    (either (eqb i j))
among-last i j (k ∷ w) h =
    ⊎_elim
    (λ (e : eqb i k ≡ true). inl (rw e))
    (λ (e : eqb i k ≡ false). let t : among i (w ++ (j ∷ [])) ≡ true = rw e at h in rw e (among-last i j w t))
    (either (eqb i k))

-- what has been met stays met
pub stays_met : (i : ℕ) (w : List ℕ) (g : Guard) → among i w ≡ true → among i (met w g) ≡ true
unfolding met
stays_met i w (flag j) h =
    ⊎_elim (λ (e : among j w ≡ true). rw e h) (λ (e : among j w ≡ false). rw e (among-more i j w h)) (either (among j w))
stays_met i w (truth b) h = h
stays_met i w (negated g) h = stays_met i w g h
stays_met i w (joined s g k) h = stays_met i (met w g) k (stays_met i w g h)

-- each flag of a guard is met
pub stands-met : (i : ℕ) (w : List ℕ) (g : Guard) → Stands i g → among i (met w g) ≡ true
unfolding met
stands-met i w (flag j) e =
    rw (← e)
    (⊎_elim (λ (t : among i w ≡ true). rw t t) (λ (t : among i w ≡ false). rw t (among-end i w)) (either (among i w)))
stands-met i w (truth b) e = absurd e
stands-met i w (negated g) e = stands-met i w g e
stands-met i w (joined s g k) e =
    ⊎_elim
    (λ (t : Stands i g). stays_met i (met w g) k (stands-met i w g t))
    (λ (t : Stands i k). stands-met i (met w g) k t)
    e

-- and no other
pub met-stands : (i : ℕ) (w : List ℕ) (g : Guard) → among i (met w g) ≡ true → (among i w ≡ true) ⊎ Stands i g
unfolding met
met-stands i w (flag j) h =
    ⊎_elim
    (λ (e : among j w ≡ true). inl (rw e at h))
    (λ (e : among j w ≡ false). let t : among i (w ++ (j ∷ [])) ≡ true = rw e at h in among-last i j w t)
    (either (among j w))
met-stands i w (truth b) h = inl h
met-stands i w (negated g) h = met-stands i w g h
met-stands i w (joined s g k) h =
    ⊎_elim
    (λ (t : among i (met w g) ≡ true).
    ⊎_elim (λ (a : among i w ≡ true). inl a) (λ (a : Stands i g). inr (inl a)) (met-stands i w g t))
    (λ (t : Stands i k). inr (inr t))
    (met-stands i (met w g) k h)

-- the flags of a guard by first appearance are those that stand in it
pub order-stands : (i : ℕ) (g : Guard) → among i (order g) ≡ true → Stands i g
unfolding order among
order-stands i g h = ⊎_elim (λ (t : among i [] ≡ true). absurd (false≢true t)) (λ (t : Stands i g). t) (met-stands i [] g h)

pub stands-order : (i : ℕ) (g : Guard) → Stands i g → among i (order g) ≡ true
unfolding order
stands-order i g h = stands-met i [] g h
