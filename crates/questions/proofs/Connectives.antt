-- The ceiling of the questions: where the whole question keeps it, every pair's does, and all guards together.
use Prim.Native.Nat.{ℕ, zero, suc, ◌+◌, ◌≤◌, ◌<◌}
use native.Mathlib.Nat.{not-suc-le-zero, le_of_suc-le-suc}
use native.Mathlib.Omega.{arith}
use mathlib.Core.Path.{◌≡◌, refl, ap, ◌∙◌}
use mathlib.Core.Bool.{Bool, true, false}
use mathlib.Core.List.{List, [], ◌∷◌, ◌++◌, map}
use mathlib.Core.Logic.{⊎_elim}
use lib.ListN.{length, get_or}
use lib.Dec.{leb}
use borrow.Author.Tests.{le-leb, leb-true}
use Rattle.ground.specs.Choice.{choose}
use Rattle.ground.proofs.Cases.{either}
use Rattle.notation.specs.Ceilings.{connective_ceiling}
use Rattle.notation.specs.Tokens.{or}
use Rattle.notation.specs.Guard.{Guard, truth, joined, connectives}
use Rattle.questions.specs.Questions.{or_all, any_of, whole_of, apart, pairs_of, questions_of, all_fit, sum_of, total_of, guard_at, pair_of}

pub or-all-connectives : (g : Guard) (hs : List Guard) → connectives (or_all g hs) ≡ connectives g + sum_of hs + length hs
unfolding or_all connectives sum_of
or-all-connectives g [] = omega arith
or-all-connectives g (h ∷ hs) =
    let i : connectives (or_all (joined or g h) hs) ≡ connectives g + connectives h + 1 + sum_of hs + length hs = or-all-connectives (joined or g h) hs in
    omega arith

any-connectives : (vs : List Guard) → 0 < length vs → connectives (any_of vs) + 1 ≡ sum_of vs + length vs
unfolding any_of sum_of
any-connectives [] h = absurd (not-suc-le-zero h)
any-connectives (v ∷ vs) h = omega (arith, or-all-connectives v vs)

-- the whole question has the connectives of all guards, and one more for each variant
pub whole-connectives : (rule : Guard) (vs : List Guard) → 0 < length vs → connectives (whole_of rule vs) ≡ total_of rule vs + length vs
unfolding whole_of connectives
whole-connectives rule vs h = omega (arith, any-connectives vs h)

pub apart-connectives : (r v w : Guard) → connectives (apart r v w) ≡ connectives r + connectives v + connectives w + 2
unfolding apart connectives
apart-connectives r v w = omega arith

one_of : (vs : List Guard) (i : ℕ) → connectives (get_or vs i (truth false)) ≤ sum_of vs
unfolding sum_of connectives
one_of [] i = omega arith
one_of (v ∷ vs) zero = omega arith
one_of (v ∷ vs) (suc i) = omega (arith, one_of vs i)

two-of : (vs : List Guard) (i j : ℕ) → i < j → connectives (get_or vs i (truth false)) + connectives (get_or vs j (truth false)) ≤ sum_of vs
unfolding sum_of connectives
two-of [] i j h = omega arith
two-of (v ∷ vs) zero zero h = absurd (not-suc-le-zero h)
two-of (v ∷ vs) zero (suc j) h = omega (arith, one_of vs j)
two-of (v ∷ vs) (suc i) zero h = absurd (not-suc-le-zero h)
two-of (v ∷ vs) (suc i) (suc j) h = omega (arith, two-of vs i j (le_of_suc-le-suc h))

-- a guard of a line has no more connectives than all of them
pub guard-connectives : (rule : Guard) (vs : List Guard) (k : ℕ) → connectives (guard_at rule vs k) ≤ total_of rule vs
guard-connectives rule vs zero = omega arith
guard-connectives rule vs (suc k) = omega (arith, one_of vs k)

-- a pair's question has no more connectives than the whole one
pub pair-connectives : (rule : Guard) (vs : List Guard) (i j : ℕ) → i < j → j < length vs
    → connectives (pair_of rule vs (suc i) (suc j)) ≤ connectives (whole_of rule vs)
pair-connectives rule vs i j h b =
    omega (arith, whole-connectives rule vs (omega arith), apart-connectives rule (get_or vs i (truth false)) (get_or vs j (truth false)), two-of vs i j h)

-- ---- the test
fits-cons : (q : Guard) (qs : List Guard) → connectives q ≤ connective_ceiling → all_fit (q ∷ qs) ≡ all_fit qs
unfolding all_fit
fits-cons q qs h = rw (le-leb (connectives q) connective_ceiling h)

map-fits : (r v : Guard) (ws qs : List Guard) (n : ℕ) → sum_of ws ≤ n → connectives r + connectives v + n + 2 ≤ connective_ceiling
    → all_fit (map (apart r v) ws ++ qs) ≡ all_fit qs
unfolding sum_of
map-fits r v [] qs n s h = refl
map-fits r v (w ∷ ws) qs n s h =
    fits-cons (apart r v w) (map (apart r v) ws ++ qs) (omega (arith, apart-connectives r v w))
    ∙ map-fits r v ws qs n (omega arith) h

pairs-fit : (r : Guard) (vs : List Guard) → connectives r + sum_of vs + length vs ≤ connective_ceiling → all_fit (pairs_of r vs) ≡ true
unfolding pairs_of sum_of all_fit
pairs-fit r [] h = refl
pairs-fit r (v ∷ []) h = refl
pairs-fit r (v ∷ w ∷ vs) h =
    map-fits r v (w ∷ vs) (pairs_of r (w ∷ vs)) (connectives w + sum_of vs) (omega arith) (omega arith)
    ∙ pairs-fit r (w ∷ vs) (omega arith)

-- the questions fit exactly where the whole one does
pub questions-fit : (rule : Guard) (vs : List Guard) → 0 < length vs
    → all_fit (questions_of rule vs) ≡ leb (total_of rule vs + length vs) connective_ceiling
unfolding questions_of all_fit
questions-fit rule vs h =
    ap (λ (n : ℕ). choose (leb n connective_ceiling) (all_fit (pairs_of rule vs)) false) (whole-connectives rule vs h)
    ∙ go (leb (total_of rule vs + length vs) connective_ceiling) refl
  where
    go : (b : Bool) → leb (total_of rule vs + length vs) connective_ceiling ≡ b → choose b (all_fit (pairs_of rule vs)) false ≡ b
    go true e = pairs-fit rule vs (leb-true (total_of rule vs + length vs) connective_ceiling e)
    go false e = refl

-- ---- guards whose questions fit
total-whole : (r : Guard) (vs : List Guard) → connectives r + sum_of vs ≤ connectives (whole_of r vs)
unfolding connectives whole_of any_of sum_of
total-whole r [] = omega arith
total-whole r (v ∷ vs) = omega (arith, or-all-connectives v vs)

first_fits : (q : Guard) (qs : List Guard) → all_fit (q ∷ qs) ≡ true → connectives q ≤ connective_ceiling
unfolding all_fit
first_fits q qs h =
    ⊎_elim
    (λ (e : leb (connectives q) connective_ceiling ≡ true). leb-true (connectives q) connective_ceiling e)
    (λ (e : leb (connectives q) connective_ceiling ≡ false). let x : false ≡ true = rw e at h in let z : ◌≡◌ {A = ℕ} 0 1 = cc in absurd (omega arith))
    (either (leb (connectives q) connective_ceiling))

-- all of them together keep the ceiling of one
pub fitting-total : (rule : Guard) (vs : List Guard) → all_fit (questions_of rule vs) ≡ true → total_of rule vs ≤ connective_ceiling
unfolding questions_of
fitting-total rule vs e = omega (arith, total-whole rule vs, first_fits (whole_of rule vs) (pairs_of rule vs) e)
