-- What lies above assumptions: a relation that holds each literal that is taken as true.
use Prim.Native.Nat.{ℕ}
use mathlib.Core.Path.{◌≡◌, refl}
use mathlib.Core.Bool.{Bool, true, false, ◌&&◌, ◌||◌, false≢true}
use mathlib.Core.List.{List, [], ◌∷◌}
use mathlib.Core.Logic.{◌⊎◌, inl, inr, ⊎_elim}
use lib.Dec.{eqb}
use borrow.Author.Tests.{eqb-true, eq-eqb}
use Rattle.relation.specs.Relation.{Rel, Within}
use Rattle.saturation.specs.Saturation.{taking, taken}

or-either : (a b : Bool) → a || b ≡ true → (a ≡ true) ⊎ (b ≡ true)
or-either true b e = inl refl
or-either false b e = inr e

or_left : (a b : Bool) → a ≡ true → a || b ≡ true
or_left true b e = refl
or_left false b e = absurd (false≢true e)

or_right : (a b : Bool) → b ≡ true → a || b ≡ true
or_right true b e = refl
or_right false b e = e

and_both : (a b : Bool) → a && b ≡ true → (a ≡ true) × (b ≡ true)
and_both true b e = (refl, e)
and_both false b e = (e, absurd (false≢true e))

-- what lies above R and holds k lies above R with k taken as true
pub above-taking : (R A : Rel) (k : ℕ) → Within R A → A k 0 ≡ true → Within (taking R k) A
unfolding taking
above-taking R A k w h l m e =
    ⊎_elim
    (λ (p : R l m ≡ true). w l m p)
    (λ (p : eqb l k && eqb m 0 ≡ true).
    let q : (eqb l k ≡ true) × (eqb m 0 ≡ true) = and_both (eqb l k) (eqb m 0) p in
    rw (eqb-true l k q.0, eqb-true m 0 q.1) h)
    (or-either (R l m) (eqb l k && eqb m 0) e)

-- and the other way round
pub taking-above : (R A : Rel) (k : ℕ) → Within (taking R k) A → Within R A
unfolding taking
taking-above R A k w l m e = w l m (or_left (R l m) (eqb l k && eqb m 0) e)

pub taking-holds : (R A : Rel) (k : ℕ) → Within (taking R k) A → A k 0 ≡ true
unfolding taking
taking-holds R A k w = w k 0 (or_right (R k 0) (eqb k k && true) (rw (eq-eqb k k refl)))

-- A holds each literal of a list
abbrev pub HoldsAll : Rel → List ℕ → Type 0
HoldsAll A [] = Unit {0}
HoldsAll A (k ∷ ks) = (A k 0 ≡ true) × HoldsAll A ks

pub above-taken : (A : Rel) (ks : List ℕ) → HoldsAll A ks → Within (taken ks) A
unfolding taken
above-taken A [] h = λ l m e. absurd (false≢true e)
above-taken A (k ∷ ks) h = above-taking (taken ks) A k (above-taken A ks h.1) h.0

pub taken-above : (A : Rel) (ks : List ℕ) → Within (taken ks) A → HoldsAll A ks
unfolding taken
taken-above A [] w = tt
taken-above A (k ∷ ks) w =
    (taking-holds (taken ks) A k w, taken-above A ks (taking-above (taken ks) A k w))
