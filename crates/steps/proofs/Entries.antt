-- A test that passes at every entry of a list, computed once, passes at each.
use mathlib.Core.Path.{◌≡◌, refl}
use mathlib.Core.Bool.{Bool, true, false, ◌&&◌}
use mathlib.Core.List.{List, [], ◌∷◌}
use Prim.Native.Nat.{ℕ, zero, suc, ◌+◌, ◌<◌}
use native.Mathlib.Nat.{add-zero, zero-add, add-suc, suc-add, le_of_suc-le-suc, not-suc-le-zero}
use lib.ListN.{length, get_or}

pub and_left : (a b : Bool) → a && b ≡ true → a ≡ true
and_left true b e = refl
and_left false b e = e

pub and_right : (a b : Bool) → a && b ≡ true → b ≡ true
and_right true b e = e
and_right false b e = absurd (mathlib.Core.Bool.false≢true e)

-- the test passes at each entry and its place, the first place being k
abbrev pub passes : (ℕ → ℕ → Bool) → ℕ → List ℕ → Bool
passes f k [] = true
passes f k (e ∷ es) = f k e && passes f (suc k) es

from : (f : ℕ → ℕ → Bool) (es : List ℕ) (k : ℕ) → passes f k es ≡ true → (i : ℕ) → i < length es → f (k + i) (get_or es i 0) ≡ true
from f [] k p i h = absurd (not-suc-le-zero h)
from f (e ∷ es) k p zero h = rw add-zero (and_left (f k e) (passes f (suc k) es) p)
from f (e ∷ es) k p (suc i) h =
    rw (add-suc, ← suc-add) (from f es (suc k) (and_right (f k e) (passes f (suc k) es) p) i (le_of_suc-le-suc h))

pub at : (f : ℕ → ℕ → Bool) (es : List ℕ) → passes f 0 es ≡ true → (i : ℕ) → i < length es → f i (get_or es i 0) ≡ true
at f es p i h = rw zero-add at (from f es 0 p i h)
