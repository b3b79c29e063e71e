-- `notation::codes::place_of` meets its contract: while no code of the table is the same, the code's number is the next.
use mathlib.Core.Path.{◌≡◌}
use Prim.Native.Nat.{◌+◌}
use Rattle.notation.specs.Grammar.{number}
use Rattle.notation.specs.clauses.Codes.{bytes_of, flags_in}
use Rattle.notation.proofs.codes.place_of.Given as goal

abbrev pub invariant-loop-place : goal.invariant-loop-place
invariant-loop-place l = number (bytes_of l.text l.code) (flags_in l.text l.codes l.place) ≡ l.place + 1
