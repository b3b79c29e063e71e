-- The triplets that a list of numbers holds are those that it was written from.
use Prim.Native.Nat.{ℕ, zero, suc, ◌+◌, ◌*◌, ◌≤◌, ◌<◌}
use mathlib.Core.Path.{◌≡◌, refl, sym, ap, ap₂, ◌∙◌}
use mathlib.Core.List.{List, [], ◌∷◌, ◌++◌}
use native.Mathlib.Omega.{arith}
use lib.ListN.{length, take}
use lib.Seq.{get_or-take}
use Rattle.notation.specs.Triplets.{Triplet, numbers}
use Rattle.steps.specs.clauses.Resting.{triplets_at}
use Rattle.notation.proofs.EachTriplet.{triplet_at, at_next}

first_then : (t : Triplet) (ts : List Triplet) (c : ℕ) → triplets_at (numbers (t ∷ ts)) (suc c) ≡ t ∷ triplets_at (numbers ts) c
unfolding numbers
first_then t ts zero = refl
first_then t ts (suc c) = ap₂ ◌++◌ (first_then t ts c) (ap (λ (u : Triplet). u ∷ []) (at_next t ts c))

pub triplets-listed : (ts : List Triplet) → triplets_at (numbers ts) (length ts) ≡ ts
triplets-listed [] = refl
triplets-listed (t ∷ ts) = first_then t ts (length ts) ∙ ap (λ (us : List Triplet). t ∷ us) (triplets-listed ts)

-- only the numbers of the first c triplets are read
at-taken : (xs : List ℕ) (m j : ℕ) → 3 * j + 2 < m → triplet_at (take m xs) j ≡ triplet_at xs j
at-taken xs m j h =
    let p : 3 * j < m = omega arith in
    let q : 3 * j + 1 < m = omega arith in
    λ i. record { kind = get_or-take m xs (3 * j) 0 p i; y = get_or-take m xs (3 * j + 1) 0 q i; z = get_or-take m xs (3 * j + 2) 0 h i }

same_taken : (xs : List ℕ) (m c : ℕ) → 3 * c ≤ m → triplets_at (take m xs) c ≡ triplets_at xs c
same_taken xs m zero h = refl
same_taken xs m (suc c) h =
    ap₂ ◌++◌ (same_taken xs m c (omega arith)) (ap (λ (u : Triplet). u ∷ []) (at-taken xs m c (omega arith)))

-- where reading wrote the triplets at the start of the room, they are the first triplets of its numbers
pub triplets-read : (xs : List ℕ) (ts : List Triplet) → take (3 * length ts) xs ≡ numbers ts → triplets_at xs (length ts) ≡ ts
triplets-read xs ts e =
    sym (same_taken xs (3 * length ts) (length ts) (omega arith))
    ∙ ap (λ (ys : List ℕ). triplets_at ys (length ts)) e
    ∙ triplets-listed ts
