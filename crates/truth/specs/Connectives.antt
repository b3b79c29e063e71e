-- The truth tables of the two-sided connectives, and what a triplet makes of its operands.
use Rattle.std.specs.Prelude.{ℕ, zero, suc, Bool, true, false, not}
use Rattle.notation.specs.Tokens.{Sign, same, implies, or, and}

-- the truth table of each two-sided connective
unfoldable pub table : Sign → Bool → Bool → Bool
table same true b = b
table same false b = not b
table implies true b = b
table implies false b = true
table or true b = true
table or false b = b
table and true b = b
table and false b = false

-- what a triplet says that x is: kind 0 y implies z, kind 1 y same as z
unfoldable pub gate : ℕ → Bool → Bool → Bool
gate zero y z = table implies y z
gate (suc k) y z = table same y z
