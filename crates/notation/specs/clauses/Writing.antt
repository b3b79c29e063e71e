-- A literal with a sign beside it, and how a triplet stands in a lent table.
use Rattle.std.specs.Prelude.{ℕ, ◌+◌, ◌*◌, ◌/◌, ◌%◌, List, set}
use Rattle.notation.specs.Triplets.{Triplet}

-- the literal l, negated where s is odd
unfoldable pub signed : ℕ → ℕ → ℕ
signed l s = 2 * (l / 2) + (l + s) % 2

-- a triplet written after c others
abbrev pub put_at : List ℕ → ℕ → ℕ → ℕ → ℕ → List ℕ
put_at out c k y z = set (set (set out (3 * c) k) (3 * c + 1) y) (3 * c + 2) z

abbrev pub triplet_at : List ℕ → ℕ → Triplet → List ℕ
triplet_at out c t = put_at out c t.kind t.y t.z
