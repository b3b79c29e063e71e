-- The bytes of a text that a definition shows.
use Rattle.std.specs.Prelude.{ℕ, List, [], ◌∷◌}
use Prim.Native.Char.{code}
use Prim.Native.String.{String, [] as []ᵗ, ◌∷◌ as ◌∷ᵗ◌}

-- the bytes of a text: a character of the notation is one byte, its code
unfoldable pub bytes : String → List ℕ
bytes []ᵗ = []
bytes (c ∷ᵗ s) = code c ∷ bytes s
