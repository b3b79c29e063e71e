-- `notation::tokens::code_end` meets its contract: each code byte passed shortens the run by one.
use mathlib.Core.Path.{◌≡◌}
use Prim.Native.Nat.{◌+◌}
use lib.ListN.{length, drop}
use Rattle.notation.specs.Tokens.{code_run}
use Rattle.notation.proofs.tokens.code_end.Given as goal

abbrev pub invariant-loop-at : goal.invariant-loop-at
invariant-loop-at l = l.from + length (code_run (drop l.from l.text)) ≡ l.at + length (code_run (drop l.at l.text))
