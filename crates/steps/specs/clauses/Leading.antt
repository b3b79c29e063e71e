-- The pattern of x, y and z by the literals that they lead to.
use Rattle.std.specs.Prelude.{ℕ, suc, ◌+◌, ◌*◌, ◌<◌, ◌≡◌, List, [], ◌∷◌, eqb}
use Rattle.notation.specs.Triplets.{negation}
use Rattle.ground.specs.Choice.{choose}

-- the place, counted from 0, of the first of a list of literals that is l
abbrev pub place : ℕ → List ℕ → ℕ
place l [] = 0
place l (m ∷ ms) = choose (eqb l m) 0 (suc (place l ms))

-- the names of x, y and z where they lead to a, b and c
unfoldable pub x_place : ℕ → ℕ
x_place a = place a (1 ∷ 0 ∷ [])

unfoldable pub y_place : ℕ → ℕ → ℕ
y_place a b = place b (1 ∷ 0 ∷ a ∷ negation a ∷ [])

unfoldable pub z_place : ℕ → ℕ → ℕ → ℕ
z_place a b c = place c (1 ∷ 0 ∷ a ∷ negation a ∷ b ∷ negation b ∷ [])

-- p is the pattern of these names, one of 105
pub record Patterned (a b c p : ℕ) : Type 0 where
  pub names : p ≡ 35 * x_place a + 7 * y_place a b + z_place a b c
  pub below : p < 105
