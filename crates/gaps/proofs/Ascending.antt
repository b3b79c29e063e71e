-- The numbers of a stretch at which a function is false: a stretch in two parts, a stretch with none, and two functions that agree on it.
use Prim.Native.Nat.{ℕ, zero, suc, ◌+◌, ◌≤◌, ◌<◌}
use mathlib.Core.Path.{◌≡◌, refl, sym}
use mathlib.Core.Bool.{Bool, true, false}
use mathlib.Core.List.{[], ◌∷◌, ◌++◌, append_assoc}
use Rattle.ground.specs.Choice.{choose}
use native.Mathlib.Omega.{arith}
use Rattle.gaps.specs.Gaps.{false_from}

-- where v is true at lo, and where it is false
pub false-not : (v : ℕ → Bool) (lo k : ℕ) → v lo ≡ true → false_from v lo (suc k) ≡ false_from v (suc lo) k
unfolding false_from
false-not v lo k h = rw h

pub false-one : (v : ℕ → Bool) (lo k : ℕ) → v lo ≡ false → false_from v lo (suc k) ≡ lo ∷ false_from v (suc lo) k
unfolding false_from
false-one v lo k h = rw h

-- two functions that agree on a stretch are false at the same numbers of it
pub false_same : (v w : ℕ → Bool) (lo k : ℕ) → ((s : ℕ) → lo ≤ s → s < lo + k → v s ≡ w s) → false_from v lo k ≡ false_from w lo k
unfolding false_from
false_same v w lo zero h = refl
false_same v w lo (suc k) h =
    rw (h lo (omega arith) (omega arith), false_same v w (suc lo) k (λ s p q. h s (omega arith) (omega arith)))

-- a stretch on which v is true throughout has none
pub false-none : (v : ℕ → Bool) (lo k : ℕ) → ((s : ℕ) → lo ≤ s → s < lo + k → v s ≡ true) → false_from v lo k ≡ []
unfolding false_from
false-none v lo zero h = refl
false-none v lo (suc k) h =
    rw (h lo (omega arith) (omega arith)) (false-none v (suc lo) k (λ s p q. h s (omega arith) (omega arith)))

-- a stretch in two parts
pub false-parts : (v : ℕ → Bool) (lo j k : ℕ) → false_from v lo (j + k) ≡ false_from v lo j ++ false_from v (lo + j) k
unfolding false_from
false-parts v lo zero k =
    let e : 0 + k ≡ k = omega arith in
    let f : lo + 0 ≡ lo = omega arith in
    rw (e, f)
false-parts v lo (suc j) k =
    let e : suc j + k ≡ suc (j + k) = omega arith in
    let f : lo + suc j ≡ suc lo + j = omega arith in
    rw (e, f, false-parts v (suc lo) j k) (sym (append_assoc (choose (v lo) [] (lo ∷ [])) (false_from v (suc lo) j) (false_from v (suc lo + j) k)))
