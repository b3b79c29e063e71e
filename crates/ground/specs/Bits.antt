-- The bits of a number.
use Rattle.std.specs.Prelude.{ℕ, ◌/◌, ◌%◌, ◌^◌, Bool, eqb}

-- bit i of a number, counted from 0, the lowest
unfoldable pub bit : ℕ → ℕ → Bool
bit s i = eqb (s / 2 ^ i % 2) 1
